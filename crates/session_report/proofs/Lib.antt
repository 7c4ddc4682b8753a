pub mod VolumeTexts
pub mod SiteReads
pub mod Told
pub mod Framing
pub mod Listings
pub mod Copied
mod Lines
