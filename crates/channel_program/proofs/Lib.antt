pub mod Scripts
pub mod ScriptEnds
pub mod ItemFacts
mod Rows
mod Cursors
