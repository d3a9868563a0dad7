pub mod Codes
pub mod Lives
pub mod From
