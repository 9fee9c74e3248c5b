pub mod Rows
pub mod Decode
pub mod Likely
pub mod Encodings
