pub mod Conditions
pub mod Edits
pub mod Laws
pub mod Making
pub mod Pending
pub mod RowsAfter
pub mod Unmoving
