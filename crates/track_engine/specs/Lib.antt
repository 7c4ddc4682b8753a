pub mod Tracks
pub mod Found
pub mod Faults
pub mod Answers
pub mod Writing
