pub mod Alone
pub mod Comparing
pub mod Texts
pub mod Same
