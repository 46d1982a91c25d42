pub mod Crossing
pub mod States
pub mod inner
