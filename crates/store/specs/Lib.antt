pub mod Refusals
pub mod Meaning
pub mod Consoles
pub mod Kinds
pub mod Lasts
pub mod Layers
pub mod Ranges
