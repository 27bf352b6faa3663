pub mod Judged
pub mod OneOp
pub mod Copies
