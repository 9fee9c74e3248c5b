pub mod Trace
pub mod Parts
pub mod Inside
pub mod Content
pub mod Made
pub mod Jump
pub mod Joining
