pub mod Kinded
pub mod Rows
