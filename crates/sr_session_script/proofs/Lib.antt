pub mod Joins
pub mod Listings
pub mod Ranks
pub mod Regions
pub mod Synced
