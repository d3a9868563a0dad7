pub mod Parts
pub mod JoinerState
pub mod Text
