pub mod Handed
pub mod Lanes
