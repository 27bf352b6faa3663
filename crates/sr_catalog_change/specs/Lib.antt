pub mod Changes
pub mod Inner
