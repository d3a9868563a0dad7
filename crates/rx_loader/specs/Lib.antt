pub mod Loaded
pub mod Showing
