pub mod Acts
pub mod Entering
pub mod Reports
pub mod Passes
pub mod Inner
