pub mod Folders
pub mod Places
