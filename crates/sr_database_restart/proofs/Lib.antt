pub mod Beside
pub mod Kept
pub mod Named
pub mod Quiet
pub mod Standing
pub mod Steps
