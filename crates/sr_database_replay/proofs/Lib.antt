pub mod Booked
pub mod Followed
pub mod Fronts
pub mod Looped
pub mod Onward
pub mod ReadRecords
pub mod Records
pub mod Stopped
