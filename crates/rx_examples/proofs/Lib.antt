pub mod Story
pub mod Told
mod Shared
mod OneCall
mod Pieces
mod Times
mod Lives
mod Messages
mod Limits
mod Places
mod Wide
mod Keys
mod Rates
mod Losses
