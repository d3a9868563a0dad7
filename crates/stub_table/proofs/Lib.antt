pub mod Known
pub mod Loops
pub mod Fronts
pub mod Opcodes
pub mod Again
pub mod Whole
