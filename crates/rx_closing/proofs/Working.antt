-- Rounds as the two ends of one call among others have them.
pub mod WorkHere
pub mod WorkMeet
pub mod EndRounds
pub mod ClientRound
pub mod PassesOf
pub mod LoneOf
pub mod SinceRounds
pub mod StandsFrom
pub mod MemberRounds
pub mod StretchStands
