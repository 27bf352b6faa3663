pub mod Judged
pub mod Inner
