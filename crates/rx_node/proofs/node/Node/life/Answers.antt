use Rattle.std.proofs.Common.{◌≡◌, ◌<◌, ◌/◌, Some, None, option_map, length, ap, sym, subst, ◌∙◌}
use Rattle.std.specs.Prelude.{slice_get}
use Rattle.rx_rules.specs.Life.{Life}
use Rattle.rx_rules.specs.Setup.{is_client}
use Rattle.rx_table.specs.Records.{seat_at}
use Rattle.rx_node.specs.Lives.{ended_life, life_of}
use Rattle.rx_node.specs.Node.{NodeState}
use Rattle.rx_node.proofs.Steps.ActiveSteps.{indexed, key_low, life_ended_at, life_latest, life_named_at}
use Rattle.rx_node.proofs.node.Node.life.Goals as goal

pub returns-in_err-seat-in-None-clause-answered : goal.returns-in_err-seat-in-None-clause-answered
returns-in_err-seat-in-None-clause-answered g c =
    let key = c.args.key in
    let seat = c.seat-seat.result.now in
    let there : seat_at c.args.self.now.table key ≡ Some seat =
    ap (λ (n : NodeState). seat_at n.table key) (sym c.self.view_is) ∙ c.seat-seat.ensures in
    λ l ch m at. ap (option_map life_of) c.from_residual.ensures
    ∙ life_ended_at c.args.self.now key None seat there c.in-None.is c.in_err-seat-in-None.was
    ∙ life_latest g.C.Class.class_of c.args.self.now l m key ch at seat there

pub returns-in-Some-clause-value : goal.returns-in-Some-clause-value
returns-in-Some-clause-value g c =
    let key = c.args.key in
    let seat = c.seat-seat.result.now in
    let code = c.index.result.now in
    let there : seat_at c.args.self.now.table key ≡ Some seat =
    ap (λ (n : NodeState). seat_at n.table key) (sym c.self.view_is) ∙ c.seat-seat.ensures in
    let low = subst (λ (n : NodeState). key / 4 < length n.table.conns) (sym c.self.view_is) c.requires in
    let its : slice_get c.args.self.now.lives key ≡ Some code =
    ap (λ (n : NodeState). slice_get n.lives key) (sym c.self.view_is)
    ∙ indexed c.self.inside.lives.items key code (key_low g.C.Class.class_of _ key c.self.invariant.0 low)
    c.index.ensures in
    life_named_at c.args.self.now key c.in-Some._end code seat there c.in-Some.is its

pub returns-in-Some-clause-kind : goal.returns-in-Some-clause-kind
returns-in-Some-clause-kind g c =
    let key = c.args.key in
    let seat = c.seat-seat.result.now in
    let code = c.index.result.now in
    let low = subst (λ (n : NodeState). key / 4 < length n.table.conns) (sym c.self.view_is) c.requires in
    let its = indexed c.self.inside.lives.items key code (key_low g.C.Class.class_of _ key c.self.invariant.0 low)
    c.index.ensures in
    rw (← c.self.view_is) (c.self.invariant.1.kinds key seat c.in-Some._end code c.seat-seat.ensures c.in-Some.is its)

pub returns-in-Some-clause-answered : goal.returns-in-Some-clause-answered
returns-in-Some-clause-answered g c =
    let key = c.args.key in
    let seat = c.seat-seat.result.now in
    let code = c.index.result.now in
    let there : seat_at c.args.self.now.table key ≡ Some seat =
    ap (λ (n : NodeState). seat_at n.table key) (sym c.self.view_is) ∙ c.seat-seat.ensures in
    let low = subst (λ (n : NodeState). key / 4 < length n.table.conns) (sym c.self.view_is) c.requires in
    let its : slice_get c.args.self.now.lives key ≡ Some code =
    ap (λ (n : NodeState). slice_get n.lives key) (sym c.self.view_is)
    ∙ indexed c.self.inside.lives.items key code (key_low g.C.Class.class_of _ key c.self.invariant.0 low)
    c.index.ensures in
    λ l ch m at. life_named_at c.args.self.now key c.in-Some._end code seat there c.in-Some.is its
    ∙ life_latest g.C.Class.class_of c.args.self.now l m key ch at seat there

pub returns-in_ok-seat-in-None-clause-answered : goal.returns-in_ok-seat-in-None-clause-answered
returns-in_ok-seat-in-None-clause-answered g c =
    let key = c.args.key in
    let seat = c.seat-seat.result.now in
    let end = c.in_ok-seat-in-None.field-0 in
    let there : seat_at c.args.self.now.table key ≡ Some seat =
    ap (λ (n : NodeState). seat_at n.table key) (sym c.self.view_is) ∙ c.seat-seat.ensures in
    let its : life_of c.ended_life.result ≡ ended_life (is_client c.args.self.now.kind) end =
    c.ended_life.ensures
    ∙ ap (λ b. ended_life b end) (c.side.ensures ∙ ap (λ (n : NodeState). is_client n.kind) c.self.view_is) in
    λ l ch m at. ap (λ (x : Life). Some x) its
    ∙ life_ended_at c.args.self.now key (Some end) seat there c.in-None.is c.in_ok-seat-in-None.was
    ∙ life_latest g.C.Class.class_of c.args.self.now l m key ch at seat there
