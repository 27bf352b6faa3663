pub mod Assembled
pub mod Inboxes
pub mod Shelves
pub mod Spans
pub mod Tracking
