pub mod PieceLemmas
pub mod NumberLemmas
pub mod WordLemmas
pub mod TextLemmas
pub mod ProcLemmas
pub mod LoopLemmas
pub mod RowLemmas
pub mod SameLaw
