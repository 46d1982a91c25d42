pub mod Numbers
pub mod Together
