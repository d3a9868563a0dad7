pub mod Journal
pub mod Turns
pub mod MemWire
pub mod UdpWire
pub mod Wire
pub mod WireLog
