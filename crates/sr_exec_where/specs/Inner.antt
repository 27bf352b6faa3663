pub mod Fixing
pub mod Preparing
