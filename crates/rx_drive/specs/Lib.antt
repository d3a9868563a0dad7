pub mod Tells
pub mod Nodes
pub mod Ran
pub mod Carried
pub mod Events
pub mod Turned
