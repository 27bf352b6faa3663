pub mod Images
pub mod Others
