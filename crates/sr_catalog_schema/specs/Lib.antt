pub mod Catalogs
pub mod Causes
pub mod Expressions
pub mod Firsts
pub mod Members
pub mod Names
pub mod Rules
pub mod Inner
