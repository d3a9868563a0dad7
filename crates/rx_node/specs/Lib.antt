pub mod Kinds
pub mod Lives
pub mod Node
pub mod Mirrors
pub mod Steps
pub mod Due
pub mod Moments
