pub mod Client
pub mod Calling
pub mod Taking
