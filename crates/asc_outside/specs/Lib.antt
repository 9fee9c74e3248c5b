pub mod Outside
pub mod Failures
pub mod Lists
