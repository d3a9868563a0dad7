pub mod Arriving
pub mod Bounds
pub mod Clocks
pub mod Completing
pub mod Ended
