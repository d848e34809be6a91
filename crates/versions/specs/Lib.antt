pub mod Places
pub mod Tables
pub mod Session
pub mod Sessions
pub mod States
