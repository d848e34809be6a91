-- Lemmas of the day file.
pub mod Bytes
pub mod Walks
pub mod Back
pub mod Again
