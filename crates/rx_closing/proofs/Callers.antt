-- The turns of callers, seen from one call of a client.
pub mod AmongCallers
pub mod CallerHeld
pub mod CallerTurn
pub mod CallerReads
pub mod CallerRest
pub mod CallerSays
pub mod CallersLeave
pub mod CallersTurn
pub mod CallersHold
pub mod SceneTurn
