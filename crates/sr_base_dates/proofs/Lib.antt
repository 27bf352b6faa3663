pub mod DateTexts
pub mod Dates
pub mod OkOr
