pub mod Faults
pub mod Ready
pub mod Running
pub mod Steps
