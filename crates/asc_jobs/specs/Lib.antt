pub mod Hands
pub mod JobRule
pub mod Jobs
