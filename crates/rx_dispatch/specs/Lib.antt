pub mod Calls
pub mod Wanting
pub mod Making
pub mod States
pub mod Desks
pub mod Rounds
