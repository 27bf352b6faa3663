pub mod Worlds
pub mod Lives
pub mod Inner
