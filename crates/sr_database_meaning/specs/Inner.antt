pub mod Alike
pub mod Events
pub mod Going
pub mod Snapshots
