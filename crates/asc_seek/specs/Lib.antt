pub mod Heads
pub mod Inside
pub mod Seek
