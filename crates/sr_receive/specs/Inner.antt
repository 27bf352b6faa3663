pub mod Noting
pub mod Passes
pub mod Ready
pub mod Reports
pub mod Running
pub mod Stands
