use Rattle.std.proofs.Common.{◌≡◌, Some, true, subst}
use Rattle.rx_rules.specs.Life.{Life, is_live}
use Rattle.rx_rules.specs.Looks.{CallRecord, latest, latest_name, on_life}
use Rattle.rx_history.proofs.LifeFalls.{Falls}
use Rattle.rx_node.specs.Lives.{after_turn, life_of}
use Rattle.rx_node.specs.Mirrors.{Mirrors}
use Rattle.rx_node.proofs.Steps.ActiveSteps.{no_call, reached_by}
use Rattle.rx_node.proofs.LifeLaws.{turn_ended, turn_falls, turn_of}
use Rattle.rx_node.proofs.SameChannels.{same_itself}
use Rattle.std.proofs.Common.{Option, option_map, ap, ◌∙◌}
use Rattle.rx_rules.specs.Life.{is_active}
use Rattle.rx_node.specs.Node.{is_active_life}
use Rattle.rx_node.proofs.Steps.MomentSteps.{end_lifeless}
use Rattle.rx_node.specs.Node.{life_at}
use Rattle.std.proofs.Common.{None, sym}
use Rattle.rx_node.proofs.node.Node.make_turn.Goals as goal

pub set_life-requires-clause-kind : goal.set_life-requires-clause-kind
set_life-requires-clause-kind g c =
    rw c.after.ensures (turn_of _ c.args.turn (life_of c.in-Some.life) c.in-Some.ensures.kind)

pub returns-in-Some-clause-steps : goal.returns-in-Some-clause-steps
returns-in-Some-clause-steps g c =
    let turn = c.args.turn in
    let class = g.C.Class.class_of in
    let before : Life = life_of c.in-Some.life in
    λ l ch m at. reached_by class c.args.self.now c.set_life.new.self l ch m before (after_turn turn)
    (c.in-Some.ensures.answered l ch m at) (turn_falls turn) (turn_ended turn)
    (subst (λ (x : Life). (k : CallRecord) → latest l ch ≡ Some k → is_live k.life ≡ true → Falls k.life x
    → Mirrors class c.set_life.new.self (on_life (latest_name l ch) (λ b. x) l)) c.after.ensures
    (λ k is live falls. c.set_life.ensures.steps l ch k m at is live falls))
    (c.set_life.ensures.ended l ch m at)

pub returns-in_default-clause-steps : goal.returns-in_default-clause-steps
returns-in_default-clause-steps g c =
    let turn = c.args.turn in
    λ l ch m at. no_call g.C.Class.class_of c.args.self.now l ch m (λ k. record k { life = after_turn turn k.life })
    (c.in_default.ensures.answered l ch m at)

pub returns-in_default-clause-others : goal.returns-in_default-clause-others
returns-in_default-clause-others g c =
    λ q apart. same_itself _ q

pub returns-in-Some-clause-idle : goal.returns-in-Some-clause-idle
returns-in-Some-clause-idle g c =
    let turn = c.args.turn in
    λ idle. c.set_life.ensures.idle
    (ap is_active c.after.ensures
    ∙ ap (λ (o : Option Life). is_active_life (option_map (after_turn turn) o)) c.in-Some.ensures.value ∙ idle)

pub returns-in_default-clause-idle : goal.returns-in_default-clause-idle
returns-in_default-clause-idle g c =
    let n = c.args.self.now in
    let none : None ≡ life_at n c.args.key = c.in_default.ensures.value in
    λ idle. end_lifeless n c.args.key (ap is_active_life (sym none))
