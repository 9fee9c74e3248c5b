pub mod Table
pub mod File
