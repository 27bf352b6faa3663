pub mod Prints
pub mod Inner
