pub mod Appending
pub mod Firsts
pub mod Fronts
pub mod History
pub mod Opened
pub mod Rows
pub mod Steps
pub mod Written
