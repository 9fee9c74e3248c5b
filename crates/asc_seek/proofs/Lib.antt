pub mod Along
mod Candidates
mod Tables
