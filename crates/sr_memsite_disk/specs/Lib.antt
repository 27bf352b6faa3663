pub mod Changes
pub mod Picks
pub mod Store
pub mod Stores
pub mod Inner
