pub mod Keeping
pub mod Making
