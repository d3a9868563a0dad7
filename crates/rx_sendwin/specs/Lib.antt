pub mod Pieces
pub mod Marks
pub mod Lost
pub mod Window
pub mod Next
