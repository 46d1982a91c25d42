pub mod Comparison
pub mod Places
pub mod PlaceLaws
