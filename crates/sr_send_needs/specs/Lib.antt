pub mod Needs
pub mod Inner
