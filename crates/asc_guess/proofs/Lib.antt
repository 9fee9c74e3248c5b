pub mod Best
pub mod Counts
pub mod Runs
