pub mod Streams
pub mod Lists
