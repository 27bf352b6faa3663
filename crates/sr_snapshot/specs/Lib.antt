pub mod Beginnings
pub mod Parts
pub mod Snapshots
pub mod Inner
