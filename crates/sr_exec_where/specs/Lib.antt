pub mod Checks
pub mod Keys
pub mod Naming
pub mod Inner
