pub mod StateLemmas
pub mod RowFacts
pub mod RowLemmas
pub mod PlaceFacts
pub mod GrammarLemmas
pub mod SpellingLemmas
pub mod OneSpelling
pub mod SlotFacts
mod BlankFacts
