pub mod Beginnings
pub mod Writing
