pub mod Alone
pub mod Combined
pub mod Equated
pub mod OtherRows
pub mod Places
pub mod Readied
pub mod Tallied
pub mod Whole
