pub mod Refusals
pub mod Marking
pub mod Ranking
pub mod Meaning
pub mod Links
pub mod Rankings
pub mod Entries
pub mod Logs
