pub mod Damages
pub mod Places
pub mod Reading
pub mod RowsRead
pub mod ScriptRead
pub mod StateRead
pub mod TablesRead
pub mod Views
