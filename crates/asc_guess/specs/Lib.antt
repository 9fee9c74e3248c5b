pub mod Choice
pub mod Guess
