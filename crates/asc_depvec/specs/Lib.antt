pub mod Touched
pub mod Tracer
pub mod Inside
pub mod Unfilled
pub mod Bits
pub mod Dependency
pub mod Laws
