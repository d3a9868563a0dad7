use Rattle.std.proofs.Common.{◌≡◌, ◌+◌, ◌∙◌, inl, inr, refl, ap, length, arith}
use Rattle.rx_plan.specs.Parts.{each}
use Rattle.rx_stage.specs.Ran.{stop_of}
use Rattle.rx_plan.specs.Rounds.{clients_first, moves_on}
use Rattle.rx_stage.specs.Shown.{Shows, WorldState}
use Rattle.rx_plan.specs.Stages.{Stage}
use Rattle.rx_stage.proofs.Following.{on_none}
use Rattle.rx_stage.proofs.Numbers.{clients_listed, plays_few}
use Rattle.rx_stage.proofs.RoundsMade.{client_ended, client_more, early_left, server_last}
use Rattle.rx_stage.proofs.world.World.move_all.Goals as goal

pub loop-node-init : goal.loop-node-init
loop-node-init g c = record {
  plays = on_none (moves_on c.args.time) (Shows c.args.self.now) _;
  script = refl;
  clients = refl;
  early = λ k others. c.requires k;
}

pub move_on-requires : goal.move_on-requires
move_on-requires g c =
    let same : length c.self.inside.nodes.clients ≡ length c.args.self.now.nodes.clients =
    ap (λ (w : WorldState). length w.nodes.clients) c.self.view_is in
    record {
      there = omega (
        arith,
        same,
        c.node_count-node-end.ensures.there,
        c.loop-node-test.true,
        c.loop-node.invariant.clients,
      );
      early = c.loop-node.invariant.early c.loop-node.node (inr (omega arith));
    }

pub returns-in_err-move_on-clause-plays : goal.returns-in_err-move_on-clause-plays
returns-in_err-move_on-clause-plays g c =
    let same : length c.self.inside.nodes.clients ≡ length c.args.self.now.nodes.clients =
    ap (λ (w : WorldState). length w.nodes.clients) c.self.view_is in
    plays_few (λ (s : Stage). each (moves_on c.args.time) (clients_first s) s) c.args.self.now c.move_on.new.self
    (stop_of c.from_residual.result) _ _ (λ few.
    let long : c.node_count-node-end.result ≡ length c.args.self.now.nodes.clients + 1 =
    c.node_count-node-end.ensures.count (omega (arith, same, few)) ∙ ap (λ n. n + 1) same in
    client_ended (moves_on c.args.time) clients_first c.loop-node.node c.node_count-node-end.result
    (Shows c.args.self.now) (Shows c.loop-node.self) (Shows c.move_on.new.self) c.from_residual.result
    c.in_err-move_on.field-0.0 _ _ _ c.loop-node.auto.node c.loop-node-test.true
    (λ s shown. clients_listed c.args.self.now s c.node_count-node-end.result shown long)
    c.loop-node.invariant.plays c.in_err-move_on.ensures.plays c.from_residual.ensures)

pub loop-node-preserved : goal.loop-node-preserved
loop-node-preserved g c = record {
  plays = client_more (moves_on c.args.time) c.loop-node.node (Shows c.args.self.now) (Shows c.loop-node.self)
      (Shows c.move_on.new.self) _ _ _ c.loop-node.auto.node c.loop-node.invariant.plays c.in_ok-move_on.ensures.plays;
  script = c.move_on.ensures.script ∙ c.loop-node.invariant.script;
  clients = c.move_on.ensures.clients ∙ c.loop-node.invariant.clients;
  early = early_left c.loop-node.self.nodes c.move_on.new.self.nodes c.loop-node.node c.args.time c.loop-node.auto.node
      c.move_on.ensures.others c.loop-node.invariant.early;
}

pub move_on-requires-2 : goal.move_on-requires-2
move_on-requires-2 g c = record { there = omega arith; early = c.loop-node.invariant.early 0 (inl refl) }

pub returns-clause-plays : goal.returns-clause-plays
returns-clause-plays g c =
    let same : length c.self.inside.nodes.clients ≡ length c.args.self.now.nodes.clients =
    ap (λ (w : WorldState). length w.nodes.clients) c.self.view_is in
    let all : c.loop-node.node ≡ c.node_count-node-end.result =
    omega (arith, c.node_count-node-end.ensures.some, c.loop-node-test.false, c.loop-node.auto.node-end) in
    plays_few (λ (s : Stage). each (moves_on c.args.time) (clients_first s) s) c.args.self.now c.move_on-2.new.self
    _ _ _ (λ few.
    let long : c.node_count-node-end.result ≡ length c.args.self.now.nodes.clients + 1 =
    c.node_count-node-end.ensures.count (omega (arith, same, few)) ∙ ap (λ n. n + 1) same in
    server_last (moves_on c.args.time) clients_first c.loop-node.node c.node_count-node-end.result
    (Shows c.args.self.now) (Shows c.loop-node.self) (Shows c.move_on-2.new.self) _ _ _ _ all
    (λ s shown. clients_listed c.args.self.now s c.node_count-node-end.result shown long)
    c.loop-node.invariant.plays c.move_on-2.ensures.plays)
