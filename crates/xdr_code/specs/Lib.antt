pub mod NumberSets
pub mod NumberSetView
pub mod Reading
pub mod Words
pub mod Opens
pub mod Reaches
pub mod Answers
