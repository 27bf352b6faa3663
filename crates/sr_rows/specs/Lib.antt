pub mod Marks
pub mod Steps
pub mod Walks
pub mod Inner
