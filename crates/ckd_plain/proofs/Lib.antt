pub mod Rows
pub mod Histories
pub mod TrackFacts
pub mod IndexFacts
pub mod CommandFacts
pub mod LooksFacts
pub mod Entries
pub mod HostFacts
pub mod VolumeFacts
mod MarkFacts
pub mod CheckFacts
pub mod CostFacts
pub mod SenseFacts
pub mod ReadBackFacts
pub mod WrittenFacts
pub mod ResponseFacts
pub mod ChainFacts
pub mod WriteFacts
