pub mod Asks
pub mod View
pub mod History
