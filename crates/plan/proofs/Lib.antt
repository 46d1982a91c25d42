pub mod Clocks
pub mod LineClock
pub mod Going
pub mod Listing
pub mod Start
pub mod EitherLine
mod Fine
