use Rattle.std.proofs.Common.{◌≡◌, ◌∙◌, ap, arith, refl}
use Rattle.rx_loader.proofs.Made.{client_stops, clients_made, connected, connecting}
use Rattle.rx_loader.specs.declared.loading.Loading.{Loading}
use Rattle.rx_stage.specs.Ran.{stop_of}
use Rattle.rx_stage.specs.Shown.{Shows}
use Rattle.rx_stage.proofs.Following.{on_none}
use Rattle.rx_stage.proofs.RoundsMade.{client_more}
use Rattle.rx_loader.proofs.loading.Loading.connect_all.Goals as goal

pub loop-client-init : goal.loop-client-init
loop-client-init g c = record {
  plays = on_none connecting (Shows c.args.self.now.world) _;
  rest = refl;
  script = refl;
}

pub returns-in_err-connect_line-clause-plays : goal.returns-in_err-connect_line-clause-plays
returns-in_err-connect_line-clause-plays g c =
    connected c.args.self.now (record c.loop-client.self { world = c.connect_line.new.self })
    (stop_of c.from_residual.result) _ _
    (client_stops connecting c.loop-client.client (Shows c.args.self.now.world) (Shows c.loop-client.self.world)
    (Shows c.connect_line.new.self) c.from_residual.result c.in_err-connect_line.field-0.0 _ _ _
    c.loop-client.auto.client c.loop-client-test.true c.loop-client.invariant.plays
    c.in_err-connect_line.ensures.plays c.from_residual.ensures)
    (ap (λ (v : Loading). record v { world = c.connect_line.new.self }) c.loop-client.invariant.rest)

pub loop-client-preserved : goal.loop-client-preserved
loop-client-preserved g c = record {
  plays = client_more connecting c.loop-client.client (Shows c.args.self.now.world) (Shows c.loop-client.self.world)
      (Shows c.connect_line.new.self) _ _ _ c.loop-client.auto.client c.loop-client.invariant.plays
      c.in_ok-connect_line.ensures.plays;
  rest = ap (λ (v : Loading). record v { world = c.connect_line.new.self }) c.loop-client.invariant.rest;
  script = c.connect_line.ensures.script ∙ c.loop-client.invariant.script;
}

pub returns-clause-plays : goal.returns-clause-plays
returns-clause-plays g c =
    let all : c.loop-client.client ≡ 5 = omega (arith, c.loop-client-test.false, c.loop-client.auto.client-end) in
    connected c.args.self.now c.loop-client.self _ _ _
    (clients_made connecting c.loop-client.client (Shows c.args.self.now.world) (Shows c.loop-client.self.world) _ _ all
    c.loop-client.invariant.plays) c.loop-client.invariant.rest
