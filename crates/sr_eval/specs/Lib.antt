pub mod Bounds
pub mod Comparisons
pub mod Meanings
pub mod Numbers
pub mod Truths
pub mod Inner
