pub mod Standing
pub mod Lent
pub mod Added
pub mod Times
pub mod World
