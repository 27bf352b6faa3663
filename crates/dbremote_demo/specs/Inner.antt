pub mod Branches
pub mod Runs
