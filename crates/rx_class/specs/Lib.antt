pub mod Writes
pub mod NullLaws
