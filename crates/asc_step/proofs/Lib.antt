pub mod Products
pub mod Touches
pub mod Effects
pub mod Rooms
pub mod Steps
pub mod Settling
pub mod Passed
pub mod Staying
