pub mod Options
pub mod Publications
pub mod Subscriptions
pub mod Tables
pub mod Users
pub mod Inner
