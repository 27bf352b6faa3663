pub mod Calls
pub mod Growing
pub mod Happenings
pub mod Images
