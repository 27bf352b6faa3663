pub mod Laws
pub mod Sample
