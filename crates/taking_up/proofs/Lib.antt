pub mod Rooms
pub mod Opened
pub mod Read
pub mod Again
pub mod Accepted
pub mod Histories
