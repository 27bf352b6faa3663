pub mod Real
pub mod Sample
