pub mod Filing
pub mod Days
pub mod Appending
pub mod Showing
