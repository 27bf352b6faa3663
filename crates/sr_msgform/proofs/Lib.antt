pub mod Parts
pub mod Sealing
pub mod Whole
