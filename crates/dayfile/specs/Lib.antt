-- What the contracts of the day file cite, in the order in which to read it.
pub mod Refusals
pub mod Format
pub mod Reading
pub mod Said
