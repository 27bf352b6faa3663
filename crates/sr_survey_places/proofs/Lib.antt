pub mod Among
pub mod Joined
pub mod Leaving
pub mod Listing
pub mod Finding
pub mod First
