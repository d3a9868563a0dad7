-- Who lives at nodes while fair rounds are made: no calls but some, each with its client.
pub mod AmongSteps
pub mod Before
pub mod ClientOf
pub mod CrowdRounds
pub mod Crowds
pub mod CrowdWithin
pub mod Few
pub mod InLists
pub mod LifeBetween
pub mod BegunIn
pub mod LivesOver
pub mod LivesThere
pub mod RoundOnes
pub mod LivesOn
