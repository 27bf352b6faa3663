mod Alone
pub mod Bases
mod Chains
mod Counted
mod Endings
mod Keeping
mod Lent
mod Lines
pub mod Lying
pub mod Prefixes
pub mod Stepping
pub mod Tasks
mod Telling
mod Worlds
