-- How far a call is: it only grows, stands only where each of its parts does, and is bounded by the call's work.
pub mod FarParts
pub mod FarGrows
pub mod FarServed
pub mod FarBounds
pub mod FarStands
pub mod AtWork
pub mod FarWork
pub mod CausedHere
pub mod FinishedRead
pub mod FinishedOpen
pub mod FinishedShut
pub mod Waited
