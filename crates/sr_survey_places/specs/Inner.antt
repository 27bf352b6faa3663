pub mod Exact
pub mod Hashes
pub mod KeyOrder
pub mod Keys
pub mod Listed
pub mod Ready
pub mod Search
