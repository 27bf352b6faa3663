pub mod Alone
pub mod Productions
pub mod Reading
