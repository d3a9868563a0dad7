pub mod Lowest
pub mod LawsMoves
