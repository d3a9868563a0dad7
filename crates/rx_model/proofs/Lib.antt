pub mod NameLaws
pub mod FieldLaws
pub mod Fronts
pub mod SpellsLaws
pub mod SpelledLaws
pub mod MadeLaws
pub mod MessageLaws
pub mod HexText
pub mod Pieces
pub mod NumberText
pub mod NameText
pub mod WordText
pub mod AnswerText
pub mod ResultText
pub mod StreamText
pub mod EventText
pub mod TextLaw
mod TextExample
