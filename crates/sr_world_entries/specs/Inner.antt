pub mod Ends
pub mod Judging
pub mod Saying
pub mod Taking
