pub mod History
pub mod Striking
pub mod Law
pub mod Outcomes
