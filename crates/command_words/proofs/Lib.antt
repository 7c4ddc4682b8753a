pub mod Walks
pub mod Leafs
pub mod Tops
pub mod Spelled
pub mod Parsing
pub mod Meanings
pub mod Ruling
