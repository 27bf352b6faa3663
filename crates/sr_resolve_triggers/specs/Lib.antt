pub mod Holding
pub mod Bindings
pub mod Actions
pub mod Firing
pub mod Inner
