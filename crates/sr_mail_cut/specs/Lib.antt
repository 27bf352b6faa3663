pub mod Bodies
pub mod Cuts
pub mod Hexadecimal
pub mod Truths
pub mod Inner
