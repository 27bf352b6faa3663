pub mod Committing
pub mod Joins
pub mod Still
