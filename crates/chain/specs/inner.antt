pub mod Batched
pub mod Counting
pub mod Lending
pub mod Parts
