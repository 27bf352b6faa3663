pub mod Unsent
pub mod PutFiles
pub mod Posting
pub mod Passes
pub mod TrueSentMessages
pub mod Inner
