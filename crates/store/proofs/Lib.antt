pub mod Lists
pub mod Pendings
