pub mod Outcomes
pub mod StateData
