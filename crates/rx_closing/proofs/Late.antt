-- Twelve seconds don't pass in rounds through which no call comes further.
pub mod RestLate
pub mod LateEnds
pub mod AskerEarly
pub mod LateTold
pub mod LateWorks
pub mod NeverLate
