pub mod Roles
pub mod PeerWorlds
pub mod Halves
