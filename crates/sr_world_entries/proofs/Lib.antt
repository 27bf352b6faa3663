pub mod Judgements
pub mod Roomy
pub mod Sayings
pub mod Takings
pub mod Ties
