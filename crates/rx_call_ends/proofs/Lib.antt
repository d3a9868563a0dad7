pub mod Changing
pub mod Most
