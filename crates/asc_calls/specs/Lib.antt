pub mod GuestCall
pub mod World
pub mod Serving
pub mod Filling
