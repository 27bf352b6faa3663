pub mod Acts
pub mod Meaning
pub mod Orders
pub mod Refusals
pub mod Scripts
pub mod Synced
pub mod Works
pub mod Inner
