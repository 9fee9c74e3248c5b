pub mod Words
pub mod Rows
pub mod Frequent
pub mod ByEncoding
