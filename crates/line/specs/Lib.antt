pub mod Outputs
pub mod Openings
pub mod Line
pub mod Lent
pub mod Demand3
pub mod Pieces
pub mod Placed
pub mod inner
