pub mod Budget
pub mod Due
pub mod Live
pub mod Laws
pub mod Crew
pub mod Rounds
