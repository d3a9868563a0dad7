pub mod Standing
pub mod Choosing
pub mod Kept
pub mod Keys
pub mod Lending
