pub mod Triggers
pub mod Inner
