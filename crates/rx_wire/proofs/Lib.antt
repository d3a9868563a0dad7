pub mod TurnLaws
mod LogLemmas
