pub mod Applying
pub mod FittingChanges
pub mod Holding
pub mod Sequences
pub mod Statements
pub mod Storing
pub mod Fitting
pub mod Inner
