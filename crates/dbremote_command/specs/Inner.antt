pub mod Agents
pub mod Attaching
pub mod Kept
pub mod Orders
pub mod Running
pub mod Showing
pub mod Steps
pub mod Streams
