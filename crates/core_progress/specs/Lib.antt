pub mod CoreFits
pub mod Progress
pub mod Rounds
pub mod WorkLeft
