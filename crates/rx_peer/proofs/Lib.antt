pub mod Flags
pub mod Carrying
pub mod Tags
pub mod Linked
pub mod Kept
pub mod Example
