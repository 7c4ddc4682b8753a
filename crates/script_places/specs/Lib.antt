pub mod Places
pub mod Scripts
