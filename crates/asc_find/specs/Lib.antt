pub mod Serial
pub mod Finder
pub mod Helper
pub mod Finders
