pub mod Names
pub mod Numbers
pub mod Parts
pub mod Reading
pub mod Rules
pub mod Options
pub mod Commands
pub mod Answers
