pub mod Openings
pub mod Entries
pub mod Views
pub mod Rule
pub mod Books
pub mod Passes
