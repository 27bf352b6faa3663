pub mod Copying
pub mod Scratches
pub mod Judgements
pub mod Pendings
pub mod Results
