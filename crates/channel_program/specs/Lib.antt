pub mod Script
pub mod Views
pub mod Items
