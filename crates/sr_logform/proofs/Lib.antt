pub mod Counting
pub mod Distinct
pub mod Naming
pub mod Once
pub mod Shorter
pub mod Whole
