mod Fills
pub mod Folds
mod Links
mod Overwrites
mod Steps
