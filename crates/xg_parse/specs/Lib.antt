pub mod Terminals
pub mod Words
pub mod Rules
pub mod Reading
pub mod Grammar
pub mod Refusals
pub mod Gives
