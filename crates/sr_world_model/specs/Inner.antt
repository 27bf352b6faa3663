pub mod Machines
pub mod Layers
pub mod Steps
pub mod Worlds
pub mod Laws
pub mod Runs
pub mod Small
