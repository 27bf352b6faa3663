pub mod Named
pub mod Taking
pub mod Laws
pub mod Leaving
