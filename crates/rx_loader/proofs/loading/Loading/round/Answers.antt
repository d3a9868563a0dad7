use Rattle.std.proofs.Common.{◌≡◌, ◌+◌, subst}
use Rattle.std.specs.Prelude.{OnOk}
use Rattle.rx_load.specs.Loads.{lossy_with, opens_all}
use Rattle.rx_loader.proofs.Made.{both_played, first_stops}
use Rattle.rx_stage.specs.Ran.{stop_of}
use Rattle.rx_loader.proofs.loading.Loading.round.Goals as goal

pub returns-in_err-open_all-clause-plays : goal.returns-in_err-open_all-clause-plays
returns-in_err-open_all-clause-plays g c =
    first_stops (opens_all c.args.calls) lossy_with c.args.self.now c.open_all.new.self c.open_all.new.self
    c.from_residual.result c.in_err-open_all.field-0.0 _ _ c.in_err-open_all.ensures.plays c.from_residual.ensures

pub returns-clause-plays : goal.returns-clause-plays
returns-clause-plays g c =
    both_played (opens_all c.args.calls) lossy_with c.args.self.now c.open_all.new.self c.lossy_round.new.self
    (stop_of c.lossy_round.result) _ _ _ c.in_ok-open_all.ensures.plays c.lossy_round.ensures.plays

pub returns-clause-rounds : goal.returns-clause-rounds
returns-clause-rounds g c =
    subst (λ n. OnOk c.lossy_round.result (c.lossy_round.new.self.rounds ≡ n + 1)) c.open_all.ensures.rounds
    c.lossy_round.ensures.rounds
