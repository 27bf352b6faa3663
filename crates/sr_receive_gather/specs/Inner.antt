pub mod Faults
pub mod Bags
pub mod Gathers
pub mod OneNote
pub mod Fetches
pub mod Purges
pub mod Lending
