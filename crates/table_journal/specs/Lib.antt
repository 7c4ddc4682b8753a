pub mod Slots
pub mod Appending
