pub mod SubscribedTables
pub mod Views
pub mod Inner
