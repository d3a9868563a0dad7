-- One clock is set after another, the server's last.
use Rattle.std.proofs.Common.{◌≡◌, ◌<◌, ◌≤◌, ◌∙◌, suc, ap, arith, length, refl, subst, sym}
use Rattle.rx_plan.specs.Lines.{sets_clocks}
use Rattle.rx_stage.specs.Ran.{stop_of}
use Rattle.rx_stage.specs.Shown.{WorldState}
use Rattle.rx_stage.proofs.Clocking.{clocks_all_set, clocks_more, clocks_stop_as, count_kept, moment_kept}
use Rattle.rx_stage.proofs.Clocking.{none_later, sets}
use Rattle.rx_stage.proofs.Numbers.{plays_few}
use Rattle.rx_stage.proofs.Playing.{each_none}
use Rattle.rx_stage.proofs.world.World.set_clocks.Goals as goal

pub loop-node-init : goal.loop-node-init
loop-node-init g c = record {
  plays = each_none (sets c.args.now) c.args.self.now _;
  count = refl;
  early = λ k some. none_later c.args.self.now.nodes c.args.now k c.requires.later;
  server = none_later c.args.self.now.nodes c.args.now 0 c.requires.later;
  script = refl;
}

pub returns-in_err-clock-clause-plays : goal.returns-in_err-clock-clause-plays
returns-in_err-clock-clause-plays g c =
    (let some : 1 ≤ c.loop-node.node = omega arith in
    let same : length c.self.inside.nodes.clients ≡ length c.args.self.now.nodes.clients =
    ap (λ (v : WorldState). length v.nodes.clients) c.self.view_is in
    let less : c.loop-node.node < suc (length c.args.self.now.nodes.clients) =
    omega (arith, same, c.node_count-node-end.ensures.there, c.loop-node-test.true) in
    clocks_stop_as c.args.now c.loop-node.node c.args.self.now c.loop-node.self c.clock.new.self
    c.from_residual.result c.in_err-clock.field-0.0 _ _ _ c.from_residual.ensures some less
    c.loop-node.invariant.plays c.in_err-clock.ensures.plays)

pub loop-node-preserved : goal.loop-node-preserved
loop-node-preserved g c =
    (let some : 1 ≤ c.loop-node.node = omega arith in
    let keeps = c.clock.ensures.others in
    record {
      plays = clocks_more c.args.now c.loop-node.node c.args.self.now c.loop-node.self c.clock.new.self _ _ _ some
          c.loop-node.invariant.plays c.in_ok-clock.ensures.plays;
      count = count_kept c.loop-node.self.nodes c.clock.new.self.nodes c.clock.ensures.nodes
          ∙ c.loop-node.invariant.count;
      early = λ k later. subst (λ m. m ≤ c.args.now)
          (sym (moment_kept c.loop-node.self.nodes c.clock.new.self.nodes c.loop-node.node k keeps
          (omega (arith, later)))) (c.loop-node.invariant.early k (omega (arith, later)));
      server = subst (λ m. m ≤ c.args.now)
          (sym (moment_kept c.loop-node.self.nodes c.clock.new.self.nodes c.loop-node.node 0 keeps
          (omega (arith, some)))) c.loop-node.invariant.server;
      script = c.clock.ensures.script ∙ c.loop-node.invariant.script;
    })

pub returns-clause-plays : goal.returns-clause-plays
returns-clause-plays g c =
    (let same : length c.self.inside.nodes.clients ≡ length c.args.self.now.nodes.clients =
    ap (λ (v : WorldState). length v.nodes.clients) c.self.view_is in
    plays_few (sets_clocks c.args.now) c.args.self.now c.clock-2.new.self (stop_of c.clock-2.result) _ _ (λ few.
    let all : c.loop-node.node ≡ suc (length c.args.self.now.nodes.clients) =
    omega (
      arith,
      same,
      c.node_count-node-end.ensures.count (omega (arith, same, few)),
      c.loop-node-test.false,
      c.loop-node.auto.node-end,
    ) in
    clocks_all_set c.args.now c.loop-node.node c.args.self.now c.loop-node.self c.clock-2.new.self
    (stop_of c.clock-2.result) _ _ _ all c.loop-node.invariant.plays c.clock-2.ensures.plays))
