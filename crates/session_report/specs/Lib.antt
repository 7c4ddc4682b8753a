pub mod Parties
pub mod Answers
pub mod Reports
pub mod Parts
pub mod CopyTexts
pub mod Summaries
