pub mod WalkLemmas
pub mod SlotLemmas
pub mod SlotFacts
pub mod AppendLemmas
