pub mod MessageFiles
pub mod Bags
pub mod Gathers
pub mod Greatest
pub mod Windows
pub mod Fetches
pub mod Purges
pub mod Inner
