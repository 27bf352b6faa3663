pub mod Lawful
pub mod Real
pub mod Inner
