pub mod Decimator
pub mod FiveStages
pub mod HbfStreamBlock
