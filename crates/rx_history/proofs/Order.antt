pub mod Orderly
pub mod OrderlyClient
pub mod OrderlyEnter
pub mod OrderlyHistory
pub mod OrderlyMore
pub mod OrderlyOpens
pub mod OrderlyStart
pub mod OrderlyTaken
