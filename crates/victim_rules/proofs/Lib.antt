pub mod Narrowing
pub mod Places
pub mod Padded
pub mod Parts
pub mod Closing
