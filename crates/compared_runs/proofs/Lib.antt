pub mod Added
mod Sound
mod Blank
pub mod Playing
pub mod Plainly
pub mod Alike
