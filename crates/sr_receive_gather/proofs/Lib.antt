pub mod Bagging
pub mod Gatherings
pub mod MailEnds
pub mod Places
pub mod Refetching
pub mod Removing
