pub mod Gaps
pub mod Marks
pub mod Runs
pub mod Texts
pub mod Walk
