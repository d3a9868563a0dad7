pub mod Faults
pub mod Means
pub mod Tables
