pub mod FindLaws
pub mod SplitLaws
pub mod Places
pub mod HeadLaws
pub mod Extended
pub mod JoinLaws
pub mod KeptLaws
