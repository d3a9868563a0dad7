pub mod RefuseCode
pub mod RefuseRound
pub mod RefuseTurn
pub mod Unrefused
pub mod Codes
