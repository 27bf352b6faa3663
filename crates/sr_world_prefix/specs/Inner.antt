pub mod Runs
pub mod Partners
