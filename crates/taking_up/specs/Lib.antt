pub mod TakenBack
pub mod AsParked
pub mod inner
