pub mod Exact
pub mod Formats
pub mod Loop
pub mod NameCase
pub mod Truths
pub mod Utf8
