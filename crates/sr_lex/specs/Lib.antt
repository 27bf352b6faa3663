pub mod Tokens
pub mod Inner
