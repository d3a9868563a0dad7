pub mod Replies
pub mod Spelled
pub mod Sent
