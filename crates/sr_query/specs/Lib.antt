pub mod Checks
pub mod Combinations
pub mod Orders
pub mod Rows
pub mod Selecting
pub mod Sources
pub mod Inner
