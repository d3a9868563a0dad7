pub mod GivenLaws
pub mod GivingItems
pub mod Givings
pub mod HeldLaws
pub mod HeldNumbers
