pub mod Digits
pub mod Found
pub mod Known
pub mod Mays
