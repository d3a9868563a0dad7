-- Rounds of a call that its server doesn't know.
pub mod AheadOf
pub mod AheadRows
pub mod BegunAmong
pub mod FullAmong
pub mod HandledLeft
pub mod BegunSoon
pub mod UnservedMeet
pub mod WaitsOn
pub mod BegunOwes
