pub mod Events
pub mod Joint
pub mod Waits
