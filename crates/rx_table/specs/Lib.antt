pub mod Names
pub mod Records
pub mod Layout
pub mod Lending
pub mod Uses
