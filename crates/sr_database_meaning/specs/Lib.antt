pub mod Bases
pub mod Generations
pub mod Events
pub mod Restarts
pub mod Standing
pub mod Traces
pub mod Inner
