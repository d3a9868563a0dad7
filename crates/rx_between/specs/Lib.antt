pub mod Acknowledged
pub mod Told
pub mod Agreed
