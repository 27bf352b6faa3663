pub mod Damage
pub mod Log
pub mod Logs
pub mod Records
pub mod Inner
