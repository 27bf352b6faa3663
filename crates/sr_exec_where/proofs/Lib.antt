pub mod Fixed
pub mod Readied
