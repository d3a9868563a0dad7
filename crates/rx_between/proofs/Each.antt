pub mod EachChange
pub mod EachEvent
pub mod EachGiven
pub mod EachItem
pub mod EachStep
pub mod EachTaken
