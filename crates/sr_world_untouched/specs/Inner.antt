pub mod Agreeing
pub mod Sample
