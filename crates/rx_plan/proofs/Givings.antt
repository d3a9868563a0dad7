pub mod Answered
pub mod AnswersGiven
pub mod ChallengesGiven
pub mod Given
pub mod ItemsTell
pub mod Promised
