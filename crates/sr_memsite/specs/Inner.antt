pub mod Disks
pub mod HandedSites
pub mod Meaning
pub mod Numbering
pub mod Steps
pub mod Streams
