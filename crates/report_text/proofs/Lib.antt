pub mod LineLemmas
pub mod TrackTexts
pub mod Rows
pub mod Alike
