pub mod Commands
pub mod Given
pub mod Numbers
pub mod Orders
pub mod Words
pub mod Inner
