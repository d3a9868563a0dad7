pub mod Taking
pub mod TakingAck
