pub mod Fronts
pub mod Streams
pub mod Spoken
pub mod Arrays
