-- Lemmas of the writer.
pub mod Overs
pub mod Runs
