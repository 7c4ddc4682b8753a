pub mod Owners
pub mod Console
pub mod Opening
pub mod Parts
pub mod Prepared
pub mod Begins
pub mod TakingUp
pub mod OneCopy
