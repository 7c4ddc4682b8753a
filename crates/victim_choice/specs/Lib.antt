pub mod Choosers
pub mod Order
