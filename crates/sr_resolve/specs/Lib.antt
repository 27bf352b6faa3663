pub mod Named
pub mod Judging
pub mod Taking
pub mod Inner
