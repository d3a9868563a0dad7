pub mod Estimates
