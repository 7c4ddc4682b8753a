pub mod Served
pub mod Steps
pub mod Leaving
pub mod Chosen
pub mod WorkLaws
