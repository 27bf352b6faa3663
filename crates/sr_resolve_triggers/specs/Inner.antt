pub mod Holding
pub mod Bindings
pub mod Actions
pub mod Laws
pub mod Running
