-- What the contracts of the writer cite, in the order in which to read it.
pub mod Writing
pub mod Files
pub mod Stands
