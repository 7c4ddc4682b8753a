pub mod Copies
pub mod Dues
