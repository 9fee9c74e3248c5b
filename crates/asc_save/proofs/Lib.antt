pub mod Files
pub mod Parsing
pub mod Putting
pub mod Tracing
