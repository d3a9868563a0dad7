pub mod AbortCauses
pub mod AbortComes
pub mod Aborted
pub mod AbortsGiven
pub mod ClientAborts
pub mod RowsOver
pub mod OwedCodes
