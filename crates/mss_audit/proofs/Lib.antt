pub mod Joining
pub mod FirstRefusal
pub mod Surveying
pub mod Differing
pub mod Inspecting
pub mod RowFacts
pub mod TrackFacts
pub mod Audited
