pub mod Shared
pub mod Swapped
