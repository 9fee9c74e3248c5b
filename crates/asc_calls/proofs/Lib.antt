pub mod Taken
pub mod Requests
pub mod Serve
