pub mod Inside
pub mod Worker
pub mod Posts
pub mod Halting
pub mod Lanes
