pub mod Faults
pub mod Prefixes
pub mod Reading
