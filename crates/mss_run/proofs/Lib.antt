pub mod EventFacts
pub mod LedFacts
pub mod AnswerFacts
pub mod OwnPlaces
pub mod WalkFacts
pub mod RunFacts
pub mod GoingOn
pub mod NoneLeft
