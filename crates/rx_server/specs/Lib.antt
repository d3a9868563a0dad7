pub mod Server
pub mod Taking
pub mod Handling
pub mod Turned
pub mod Accepting
