pub mod Carried
pub mod Copied
pub mod Files
pub mod Steps
