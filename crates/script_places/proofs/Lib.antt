pub mod ScriptFacts
pub mod PlaceFacts
