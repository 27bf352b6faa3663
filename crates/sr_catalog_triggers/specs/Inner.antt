pub mod Scopes
pub mod Triggers
