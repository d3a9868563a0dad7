pub mod ServeDecides
pub mod ServeTurns
pub mod ServeWrites
pub mod SaysOn
pub mod SaidMore
pub mod SendsLaws
