pub mod Asked
pub mod Driving
pub mod Givings
pub mod Kept
pub mod KeptEvents
pub mod KeptTaken
pub mod Telling
pub mod CallerEvents
