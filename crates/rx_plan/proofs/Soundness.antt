pub mod Sound
pub mod SoundLines
pub mod SoundLossy
pub mod SoundPlan
pub mod SoundRounds
pub mod SoundTurns
