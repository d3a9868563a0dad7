pub mod Arrive
pub mod ArrivingNext
pub mod ArrivingRound
pub mod FirstCame
pub mod WaitingRound
