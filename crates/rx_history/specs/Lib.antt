pub mod Counts
pub mod Streams
pub mod Sides
pub mod Starts
pub mod Givings
pub mod Alone
