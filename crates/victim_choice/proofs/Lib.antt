pub mod OrderFacts
mod CacheFacts
