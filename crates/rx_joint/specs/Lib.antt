pub mod Nodes
pub mod Lending
