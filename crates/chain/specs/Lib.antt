pub mod Chain
pub mod Cuts
pub mod Same
pub mod inner
