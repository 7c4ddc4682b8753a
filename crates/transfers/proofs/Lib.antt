pub mod CopyFacts
pub mod ExitFacts
pub mod DueFacts
