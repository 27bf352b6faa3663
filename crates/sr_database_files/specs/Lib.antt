pub mod Books
pub mod Damage
pub mod Fresh
pub mod Inner
