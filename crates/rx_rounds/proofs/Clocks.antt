pub mod Clocked
pub mod ClocksMove
pub mod NodeClock
pub mod GivesOrMoves
