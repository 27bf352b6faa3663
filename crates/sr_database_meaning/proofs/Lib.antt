pub mod Alike
pub mod Beginnings
pub mod Going
pub mod Joining
pub mod Resting
pub mod Standing
