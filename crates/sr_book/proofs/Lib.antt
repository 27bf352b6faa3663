pub mod Folds
pub mod Offsets
