pub mod Posts
pub mod Rounds
pub mod Joins
pub mod HaltSteps
pub mod HaltShared
