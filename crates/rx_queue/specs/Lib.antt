pub mod Queue
pub mod Counts
