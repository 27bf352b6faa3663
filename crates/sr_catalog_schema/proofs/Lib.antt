pub mod Counted
pub mod Indexed
pub mod Places
pub mod Scoped
pub mod Single
pub mod Spelled
