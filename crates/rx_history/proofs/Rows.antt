pub mod RowsAborting
pub mod RowsInFront
pub mod RowsKept
