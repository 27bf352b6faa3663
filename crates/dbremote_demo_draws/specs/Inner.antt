pub mod Agreement
pub mod Parted
pub mod Scripts
pub mod Whole
