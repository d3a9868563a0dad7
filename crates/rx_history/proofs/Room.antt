pub mod RoomEvents
pub mod RoomShut
pub mod RoomStarts
pub mod RoomTaken
pub mod Roomy
pub mod Tight
pub mod TightKept
