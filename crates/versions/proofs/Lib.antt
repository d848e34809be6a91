pub mod Ids
pub mod Ways
pub mod Distinct
pub mod Picks
pub mod Backs
pub mod Kepts
pub mod Totals
pub mod Starts
