pub mod Outcomes
pub mod Runs
pub mod Laws
