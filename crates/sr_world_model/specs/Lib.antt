pub mod Machines
pub mod Layers
pub mod Steps
pub mod Truth
pub mod Worlds
pub mod Runs
pub mod Windows
pub mod Inner
