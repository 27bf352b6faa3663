pub mod Answers
pub mod Deeds
pub mod Movements
pub mod Parts
pub mod Reached
pub mod Readings
pub mod Told
