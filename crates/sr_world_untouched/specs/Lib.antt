pub mod Agreeing
pub mod Untouched
pub mod Inner
