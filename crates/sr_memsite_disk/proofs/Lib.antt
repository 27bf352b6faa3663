pub mod Backing
pub mod Leaving
pub mod Standing
pub mod Tearing
pub mod Undone
