pub mod Kept
pub mod Watched
