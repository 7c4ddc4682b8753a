pub mod Rules
pub mod Padding
pub mod Closures
pub mod Texts
