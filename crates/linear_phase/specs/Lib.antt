pub mod LinearPhase
pub mod Windows
pub mod LinearPhaseFir
pub mod inner
