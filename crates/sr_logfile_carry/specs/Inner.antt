pub mod Carrying
pub mod Touching
