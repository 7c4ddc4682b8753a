pub mod Seen
pub mod Reporting
pub mod SessionFacts
mod Ended
pub mod FinishFacts
pub mod CopyTold
