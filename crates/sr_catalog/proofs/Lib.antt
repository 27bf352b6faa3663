pub mod Printings
pub mod Refusals
pub mod Spelling
