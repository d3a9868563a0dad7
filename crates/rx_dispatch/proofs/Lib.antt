pub mod CallLaws
pub mod Remembered
pub mod RoundLaws
pub mod StepLaws
