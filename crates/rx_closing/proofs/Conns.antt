-- The connections of a driven plan's clients are with the host of its server.
pub mod PeersTo
pub mod PlanPeers
pub mod PlanLinks
