pub mod Places
pub mod Damages
pub mod Inner
