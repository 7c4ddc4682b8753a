pub mod Listing
pub mod Findings
pub mod Walks
pub mod Auditing
pub mod Texts
