pub mod PlainBodies
pub mod PlainCalls
pub mod PlainGiven
pub mod PlainItems
pub mod PlainTaken
