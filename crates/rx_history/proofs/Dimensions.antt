pub mod Dims
pub mod DimsEvents
pub mod DimsLeave
pub mod DimsTaken
