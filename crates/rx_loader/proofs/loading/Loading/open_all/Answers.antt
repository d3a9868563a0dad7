use Rattle.std.proofs.Common.{◌≡◌, ◌∙◌, arith, refl}
use Rattle.rx_load.specs.Loads.{opens_free}
use Rattle.rx_loader.specs.Showing.{ShowsLoad}
use Rattle.rx_loader.proofs.Made.{client_stops, clients_made}
use Rattle.rx_stage.proofs.Following.{on_none}
use Rattle.rx_stage.proofs.RoundsMade.{client_more}
use Rattle.rx_loader.proofs.loading.Loading.open_all.Goals as goal

pub loop-client-init : goal.loop-client-init
loop-client-init g c = record {
  plays = on_none (opens_free c.args.calls 4) (ShowsLoad c.args.self.now) _;
  script = refl;
  rounds = refl;
}

pub returns-in_err-open_free-clause-plays : goal.returns-in_err-open_free-clause-plays
returns-in_err-open_free-clause-plays g c =
    client_stops (opens_free c.args.calls 4) c.loop-client.client (ShowsLoad c.args.self.now)
    (ShowsLoad c.loop-client.self) (ShowsLoad c.open_free.new.self) c.from_residual.result
    c.in_err-open_free.field-0.0 _ _ _ c.loop-client.auto.client c.loop-client-test.true
    c.loop-client.invariant.plays c.in_err-open_free.ensures.plays c.from_residual.ensures

pub loop-client-preserved : goal.loop-client-preserved
loop-client-preserved g c = record {
  plays = client_more (opens_free c.args.calls 4) c.loop-client.client (ShowsLoad c.args.self.now)
      (ShowsLoad c.loop-client.self) (ShowsLoad c.open_free.new.self) _ _ _ c.loop-client.auto.client
      c.loop-client.invariant.plays c.in_ok-open_free.ensures.plays;
  script = c.open_free.ensures.script ∙ c.loop-client.invariant.script;
  rounds = c.open_free.ensures.rounds ∙ c.loop-client.invariant.rounds;
}

pub returns-clause-plays : goal.returns-clause-plays
returns-clause-plays g c =
    let all : c.loop-client.client ≡ 5 = omega (arith, c.loop-client-test.false, c.loop-client.auto.client-end) in
    clients_made (opens_free c.args.calls 4) c.loop-client.client (ShowsLoad c.args.self.now)
    (ShowsLoad c.loop-client.self) _ _ all c.loop-client.invariant.plays
