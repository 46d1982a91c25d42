pub mod Mapping
pub mod Batching
pub mod Sections
pub mod Leaving
pub mod Running
pub mod TwoParts
