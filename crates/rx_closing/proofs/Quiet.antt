-- The channel of a call that is at work owes nothing of it, and no node of a plan owes a stray abort.
pub mod ActiveSteps
pub mod QuietSteps
pub mod QuietTakes
pub mod QuietEvents
pub mod QuietChannel
pub mod NoStrays
