pub mod Scripts
pub mod Inner
