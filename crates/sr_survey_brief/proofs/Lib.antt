pub mod Past
pub mod Briefs
