pub mod Briefs
pub mod Passing
