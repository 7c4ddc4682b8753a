pub mod LoggedLemmas
pub mod MemoryLemmas
pub mod StopLemmas
pub mod TearLemmas
