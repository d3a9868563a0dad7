pub mod Worlds
pub mod Times
pub mod Promises
pub mod Pieces
pub mod Premises
