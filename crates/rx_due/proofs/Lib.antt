pub mod Writes
pub mod Orders
pub mod Levels
pub mod Ties
pub mod Moves
pub mod Opening
pub mod Taking
pub mod Seen
