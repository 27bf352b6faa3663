pub mod Equalities
pub mod Fitted
pub mod Held
pub mod Orderly
pub mod Sets
pub mod Sources
