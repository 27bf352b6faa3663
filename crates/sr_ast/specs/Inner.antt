pub mod ActionFalls
pub mod Chains
pub mod Classes
pub mod Falls
pub mod Statements
pub mod Terms
