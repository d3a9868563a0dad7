pub mod Dispatching
pub mod Handlers
pub mod Jobs
pub mod Keeping
pub mod History
pub mod Lives
