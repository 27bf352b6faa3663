pub mod Books
pub mod Entries
pub mod Histories
pub mod Rising
