-- what a sheet prints, in the sequence in which to read it
pub mod Cuts
pub mod Numerals
pub mod Faults
pub mod Requests
pub mod Answers
pub mod Printing
pub mod Outputs
-- what the code has still to do, as it goes through a line, a sheet and its logs
pub mod Tokens
pub mod Walks
pub mod Stretches
pub mod Endings
