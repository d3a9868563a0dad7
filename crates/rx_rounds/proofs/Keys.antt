pub mod KeyAnswers
pub mod KeyAsks
pub mod KeyChallenges
pub mod KeyClass
pub mod KeyFirst
pub mod KeyMarks
pub mod KeySteps
