pub mod Generations
pub mod Laws
pub mod Restarting
pub mod Writing
