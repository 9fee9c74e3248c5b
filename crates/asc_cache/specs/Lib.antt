pub mod Cache
pub mod History
pub mod Insert
pub mod LogRule
pub mod ShardRule
