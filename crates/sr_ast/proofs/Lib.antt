pub mod Sizes
pub mod Utf8
