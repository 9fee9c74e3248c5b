pub mod Fitting
pub mod Commands
pub mod Numbers
pub mod Addresses
pub mod Taken
pub mod Lines
pub mod Handed
