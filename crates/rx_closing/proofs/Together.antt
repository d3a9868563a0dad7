-- All calls that live as rounds begin, together: who they are, and how far all of them are.
pub mod JobsGo
pub mod JobsAre
pub mod Members
pub mod AllRounds
pub mod MembersHere
pub mod AllGrows
pub mod MembersStand
