pub mod Due
pub mod Ends
pub mod Reached
pub mod Reports
pub mod Runs
pub mod Said
pub mod Inner
