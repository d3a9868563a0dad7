-- A call that rounds find dead wasn't heard in them, or its server had no place for it.
pub mod DeadStep
pub mod DiesSilent
pub mod DeadTimes
pub mod DeadHeard
pub mod HeardBefore
pub mod DeadStops
pub mod DeadSoon
pub mod HearsSoon
