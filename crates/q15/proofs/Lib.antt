mod Sums
pub mod Rounding
pub mod Filling
pub mod CutFilling
mod Rows
mod Counts
mod Between
mod Windows
mod Interpolating
pub mod FirSteps
pub mod FirStream
pub mod FirOpenings
pub mod FirBlocks
pub mod Readings
