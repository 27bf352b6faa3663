pub mod Chained
pub mod Fires
pub mod Fitting
pub mod Leaving
pub mod Sets
pub mod Sources
