pub mod Joint
pub mod Lending
pub mod Polls
pub mod Worlds
