pub mod States
pub mod Row
pub mod RowInside
pub mod Grammar
pub mod Changes
pub mod Listed
pub mod Slots
