pub mod Driving
pub mod EarlyLaws
pub mod KeptLaws
pub mod KeptTurns
pub mod LifeKeeps
pub mod LifeLaws
pub mod RequestStays
