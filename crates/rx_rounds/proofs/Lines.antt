pub mod LinesComplete
pub mod LinesInvoke
pub mod LinesLink
pub mod PlanLines
pub mod Complete
