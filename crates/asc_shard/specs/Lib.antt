pub mod Content
pub mod Groups
pub mod Inside
pub mod Laws
pub mod Fingerprints
pub mod Shard
