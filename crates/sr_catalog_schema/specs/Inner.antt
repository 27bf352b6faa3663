pub mod Keys
pub mod Singles
