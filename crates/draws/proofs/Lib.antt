pub mod Drawing
pub mod Owning
pub mod LoadKept
