pub mod BlankFacts
pub mod StateFacts
pub mod RunFacts
