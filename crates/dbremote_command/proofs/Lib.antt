pub mod AgentRuns
pub mod Cases
mod Catching
pub mod Caught
pub mod Completing
pub mod Counted
pub mod Ended
pub mod Keeping
pub mod Opened
pub mod Statuses
pub mod Scripts
pub mod Shown
mod Spelled
pub mod Unmade
