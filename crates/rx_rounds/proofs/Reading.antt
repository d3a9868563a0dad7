pub mod ReadOn
pub mod ReadWhole
pub mod ReadsNext
pub mod ReadsOut
