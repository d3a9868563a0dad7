pub mod PolledEnd
pub mod PolledOut
pub mod QuietPolls
