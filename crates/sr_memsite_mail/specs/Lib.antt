pub mod Folders
pub mod StoredFile
pub mod Places
pub mod Inner
