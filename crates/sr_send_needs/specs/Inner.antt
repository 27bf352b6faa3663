pub mod Ends
pub mod Needs
pub mod Reading
pub mod Searching
pub mod Seeking
pub mod Starting
pub mod Surveying
pub mod Listing
