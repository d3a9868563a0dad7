pub mod Keeping
pub mod Loads
pub mod Summing
pub mod Saying
