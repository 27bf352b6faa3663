pub mod Recorded
pub mod Folds
pub mod Fitting
pub mod Inner
