pub mod Texts
pub mod OneLines
pub mod Causes
pub mod Waiting
pub mod Refusals
