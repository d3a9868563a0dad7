pub mod Chosen
pub mod DigestLaws
pub mod TokenLaws
