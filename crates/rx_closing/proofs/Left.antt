-- What isn't left behind rounds that close calls, by what is said of these alone, and what wrong bodies leave.
pub mod NoMore
pub mod NoneLeft
pub mod LeftScene
pub mod LeftLive
pub mod TwoCalls
pub mod TwoLeft
