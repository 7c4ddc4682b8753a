pub mod Shown
pub mod Sound
pub mod Faults
pub mod Changing
