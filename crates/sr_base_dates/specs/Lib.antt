pub mod Calendar
pub mod Fitting
pub mod Literals
