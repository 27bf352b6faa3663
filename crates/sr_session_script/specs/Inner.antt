pub mod Answers
pub mod Synced
