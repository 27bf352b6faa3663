pub mod Assembled
pub mod Inboxes
pub mod Reaching
pub mod Seen
pub mod Inner
