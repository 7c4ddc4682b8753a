pub mod Parties
pub mod Copies
pub mod Runs
