pub mod Entries
pub mod Limits
pub mod Ops
pub mod Outcomes
pub mod Rules
pub mod Inner
