pub mod Standing
pub mod Lent
pub mod Added
pub mod Waiting
pub mod Times
