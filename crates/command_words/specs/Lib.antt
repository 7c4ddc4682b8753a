pub mod Options
pub mod Words
pub mod Parser
pub mod Outcomes
