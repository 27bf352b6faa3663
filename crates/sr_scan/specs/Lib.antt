pub mod Given
pub mod Ops
pub mod Inner
