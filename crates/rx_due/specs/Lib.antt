pub mod Book
pub mod Cost
pub mod Heap
