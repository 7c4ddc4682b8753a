pub mod Fronts
pub mod Own
pub mod Places
pub mod Keeps
pub mod BookFacts
pub mod CallFacts
