pub mod Lines
pub mod Numbers
pub mod Places
pub mod Ranked
pub mod Spelled
pub mod Stretching
pub mod Untils
pub mod Words
