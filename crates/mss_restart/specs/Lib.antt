pub mod Walks
pub mod Usable
pub mod Survey
pub mod Cartridges
pub mod Opening
pub mod Creations
pub mod Answers
pub mod OneCopy
