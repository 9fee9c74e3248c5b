pub mod Accepted
pub mod Cuts
pub mod Faults
pub mod Headers
pub mod Segments
pub mod Starts
