use Rattle.std.proofs.Common.{◌≡◌, ◌+◌, ◌∙◌, refl, ap, length, arith}
use Rattle.rx_plan.specs.Parts.{each}
use Rattle.rx_stage.specs.Ran.{stop_of}
use Rattle.rx_plan.specs.Rounds.{Polled, clients_first, polls_out}
use Rattle.rx_stage.specs.RoundsPlayed.{ShowsGiven}
use Rattle.rx_stage.specs.Shown.{WorldState}
use Rattle.rx_stage.proofs.Following.{on_none}
use Rattle.rx_stage.proofs.Numbers.{given_few}
use Rattle.rx_stage.proofs.RoundsMade.{client_ended, client_more, given_listed, server_last}
use Rattle.rx_stage.proofs.world.World.poll_all.Goals as goal

pub loop-node-init : goal.loop-node-init
loop-node-init g c = record {
  plays = on_none polls_out (ShowsGiven c.args.self.now c.args.given.now.items) _;
  script = refl;
  clients = refl;
}

pub poll_out-requires : goal.poll_out-requires
poll_out-requires g c =
    let same : length c.self.inside.nodes.clients ≡ length c.args.self.now.nodes.clients =
    ap (λ (w : WorldState). length w.nodes.clients) c.self.view_is in
    omega (arith, same, c.node_count-node-end.ensures.there, c.loop-node-test.true, c.loop-node.invariant.clients)

pub returns-in_err-poll_out-clause-plays : goal.returns-in_err-poll_out-clause-plays
returns-in_err-poll_out-clause-plays g c =
    let same : length c.self.inside.nodes.clients ≡ length c.args.self.now.nodes.clients =
    ap (λ (w : WorldState). length w.nodes.clients) c.self.view_is in
    given_few (λ p. each polls_out (clients_first p.stage) p) c.args.self.now c.poll_out.new.self
    c.args.given.now.items c.poll_out.new.given.items (stop_of c.from_residual.result) _ _ (λ few.
    let long : c.node_count-node-end.result ≡ length c.args.self.now.nodes.clients + 1 =
    c.node_count-node-end.ensures.count (omega (arith, same, few)) ∙ ap (λ n. n + 1) same in
    client_ended polls_out (λ (p : Polled). clients_first p.stage) c.loop-node.node c.node_count-node-end.result
    (ShowsGiven c.args.self.now c.args.given.now.items) (ShowsGiven c.loop-node.self c.loop-node.given.items)
    (ShowsGiven c.poll_out.new.self c.poll_out.new.given.items) c.from_residual.result
    c.in_err-poll_out.field-0.0 _ _ _ c.loop-node.auto.node c.loop-node-test.true
    (λ p shown. given_listed c.args.self.now c.args.given.now.items c.node_count-node-end.result p long shown)
    c.loop-node.invariant.plays c.in_err-poll_out.ensures.plays c.from_residual.ensures)

pub loop-node-preserved : goal.loop-node-preserved
loop-node-preserved g c = record {
  plays = client_more polls_out c.loop-node.node (ShowsGiven c.args.self.now c.args.given.now.items)
      (ShowsGiven c.loop-node.self c.loop-node.given.items) (ShowsGiven c.poll_out.new.self c.poll_out.new.given.items)
      _ _ _ c.loop-node.auto.node c.loop-node.invariant.plays c.in_ok-poll_out.ensures.plays;
  script = c.poll_out.ensures.script ∙ c.loop-node.invariant.script;
  clients = c.poll_out.ensures.clients ∙ c.loop-node.invariant.clients;
}

pub returns-clause-plays : goal.returns-clause-plays
returns-clause-plays g c =
    let same : length c.self.inside.nodes.clients ≡ length c.args.self.now.nodes.clients =
    ap (λ (w : WorldState). length w.nodes.clients) c.self.view_is in
    let all : c.loop-node.node ≡ c.node_count-node-end.result =
    omega (arith, c.node_count-node-end.ensures.some, c.loop-node-test.false, c.loop-node.auto.node-end) in
    given_few (λ p. each polls_out (clients_first p.stage) p) c.args.self.now c.poll_out-2.new.self
    c.args.given.now.items c.poll_out-2.new.given.items _ _ _ (λ few.
    let long : c.node_count-node-end.result ≡ length c.args.self.now.nodes.clients + 1 =
    c.node_count-node-end.ensures.count (omega (arith, same, few)) ∙ ap (λ n. n + 1) same in
    server_last polls_out (λ (p : Polled). clients_first p.stage) c.loop-node.node c.node_count-node-end.result
    (ShowsGiven c.args.self.now c.args.given.now.items) (ShowsGiven c.loop-node.self c.loop-node.given.items)
    (ShowsGiven c.poll_out-2.new.self c.poll_out-2.new.given.items) _ _ _ _ all
    (λ p shown. given_listed c.args.self.now c.args.given.now.items c.node_count-node-end.result p long shown)
    c.loop-node.invariant.plays c.poll_out-2.ensures.plays)
