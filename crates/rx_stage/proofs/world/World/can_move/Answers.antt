use Rattle.std.proofs.Common.{◌≡◌, ◌-◌, ◌^◌, rules}
use Rattle.rx_stage.specs.contracts.world.World.{the_view}
use Rattle.rx_stage.proofs.RoundsKept.{can_early, can_exact}
use Rattle.rx_stage.proofs.RoundsMade.{early_found, may_found}
use Rattle.rx_stage.proofs.world.World.can_move.Goals as goal

pub returns-then-time-ne0-clause-exact : goal.returns-then-time-ne0-clause-exact
returns-then-time-ne0-clause-exact c =
    let left : c.saturating_sub.result ≡ 2 ^ 62 - c.latest_moment.result = search rules in
    λ s shown. can_exact (2 ^ 62) c.args.time c.saturating_sub.result c.latest_moment.result _ c.if-time-ne0.true left
    (may_found (the_view c.self.inside) c.args.self.now c.args.time c.latest_moment.result s c.self.view_is
    c.latest_moment.ensures shown)

pub returns-then-time-ne0-clause-early : goal.returns-then-time-ne0-clause-early
returns-then-time-ne0-clause-early c =
    let left : c.saturating_sub.result ≡ 2 ^ 62 - c.latest_moment.result = search rules in
    λ less node. early_found (the_view c.self.inside) c.args.self.now c.args.time c.latest_moment.result c.self.view_is
    c.latest_moment.ensures (can_early (2 ^ 62) c.args.time c.saturating_sub.result c.latest_moment.result left less)
    node
