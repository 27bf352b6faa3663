pub mod MessageLaws
pub mod Messages
