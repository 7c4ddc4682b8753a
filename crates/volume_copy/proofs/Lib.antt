pub mod TakenFacts
pub mod StepFacts
pub mod EntryFacts
pub mod CopyFacts
pub mod EventFacts
pub mod BesideFacts
pub mod FaultFacts
