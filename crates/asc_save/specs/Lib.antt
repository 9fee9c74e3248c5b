pub mod Laws
pub mod Listed
pub mod Load
pub mod Traced
