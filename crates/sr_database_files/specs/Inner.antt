pub mod Fresh
pub mod Making
pub mod Openings
pub mod Refusing
pub mod Touching
