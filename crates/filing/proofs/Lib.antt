mod Ranges
pub mod Appends
mod Shows
mod Writes
