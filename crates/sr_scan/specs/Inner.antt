pub mod Changed
pub mod Images
pub mod Laws
pub mod Meanings
pub mod Scanners
pub mod Views
