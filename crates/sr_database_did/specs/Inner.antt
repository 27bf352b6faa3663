pub mod Effects
pub mod Did
pub mod Places
