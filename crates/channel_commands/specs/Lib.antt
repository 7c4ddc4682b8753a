pub mod Codes
pub mod Data
pub mod Views
