pub mod Judgements
pub mod Places
pub mod Plain
pub mod Sources
pub mod Typed
