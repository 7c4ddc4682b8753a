pub mod Asking
pub mod Answers
pub mod Leaves
pub mod Causes
pub mod Parts
pub mod Replies
pub mod Runs
