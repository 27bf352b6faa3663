pub mod Doing
pub mod Living
pub mod Running
