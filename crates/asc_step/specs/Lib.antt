pub mod Effect
pub mod Step
pub mod Execute
