-- Through rounds in which no call comes further nothing is owed but what calls give.
pub mod ChannelsStay
pub mod MayOwe
pub mod OwesNone
pub mod MayGo
pub mod EndsThere
pub mod AreStill
pub mod NoResponse
pub mod OutOwesNone
pub mod MayNone
pub mod StillOwed
pub mod TooMuch
pub mod MayTakes
pub mod MayRounds
pub mod BareRound
pub mod AllBare
pub mod StillIn
