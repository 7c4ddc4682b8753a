pub mod Copies
pub mod Places
pub mod Steps
pub mod Reads
pub mod Beside
