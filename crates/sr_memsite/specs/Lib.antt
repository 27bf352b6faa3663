pub mod Disks
pub mod Handing
pub mod Meaning
pub mod Inner
