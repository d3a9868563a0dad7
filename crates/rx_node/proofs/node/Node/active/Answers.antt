use Rattle.std.proofs.Common.{◌≡◌, ◌<◌, ◌/◌, Some, length, ap, sym, subst, ◌∙◌}
use Rattle.std.specs.Prelude.{is_some, slice_get}
use Rattle.rx_table.specs.Records.{seat_at}
use Rattle.rx_node.specs.Node.{NodeState}
use Rattle.rx_node.proofs.Steps.ActiveSteps.{free_inactive, indexed, is_active_at, key_low, named_active}
use Rattle.rx_node.proofs.Steps.MomentSteps.{end_active, end_free, end_inactive}
use Rattle.rx_node.proofs.node.Node.active.Goals as goal

pub returns-in_err-end-clause-answered : goal.returns-in_err-end-clause-answered
returns-in_err-end-clause-answered g c =
    let key = c.args.key in
    let there : seat_at c.args.self.now.table key ≡ Some c.seat.result.now =
    ap (λ (n : NodeState). seat_at n.table key) (sym c.self.view_is) ∙ c.seat.ensures in
    λ l ch m at. ap is_some c.from_residual.ensures
    ∙ sym (free_inactive g.C.Class.class_of c.args.self.now l m key ch at c.seat.result.now there c.in_err-end.was)

pub returns-then-is_active-clause-some : goal.returns-then-is_active-clause-some
returns-then-is_active-clause-some g c =
    let key = c.args.key in
    let code = c.index.result.now in
    let low = subst (λ (n : NodeState). key / 4 < length n.table.conns) (sym c.self.view_is) c.requires in
    let its = indexed c.self.inside.lives.items key code (key_low g.C.Class.class_of _ key c.self.invariant.0 low)
    c.index.ensures in
    rw (← c.self.view_is)
    (is_active_at _ key c.in_ok-end.end code c.seat.result.now c.seat.ensures c.in_ok-end.was its
    (sym c.if-is_active.ensures))

pub returns-then-is_active-clause-answered : goal.returns-then-is_active-clause-answered
returns-then-is_active-clause-answered g c =
    let key = c.args.key in
    let code = c.index.result.now in
    let low = subst (λ (n : NodeState). key / 4 < length n.table.conns) (sym c.self.view_is) c.requires in
    let its = indexed c.self.inside.lives.items key code (key_low g.C.Class.class_of _ key c.self.invariant.0 low)
    c.index.ensures in
    rw (← c.self.view_is)
    (λ l ch m at. c.if-is_active.ensures
    ∙ sym (named_active g.C.Class.class_of _ l m key ch at c.seat.result.now c.seat.ensures c.in_ok-end.end code
    c.in_ok-end.was its))

pub returns-clause-answered : goal.returns-clause-answered
returns-clause-answered g c =
    let key = c.args.key in
    let code = c.index.result.now in
    let low = subst (λ (n : NodeState). key / 4 < length n.table.conns) (sym c.self.view_is) c.requires in
    let its = indexed c.self.inside.lives.items key code (key_low g.C.Class.class_of _ key c.self.invariant.0 low)
    c.index.ensures in
    rw (← c.self.view_is)
    (λ l ch m at. c.if-is_active.ensures
    ∙ sym (named_active g.C.Class.class_of _ l m key ch at c.seat.result.now c.seat.ensures c.in_ok-end.end code
    c.in_ok-end.was its))

pub returns-in_err-end-clause-call : goal.returns-in_err-end-clause-call
returns-in_err-end-clause-call g c =
    let n = c.args.self.now in
    let key = c.args.key in
    let there : seat_at n.table key ≡ Some c.seat.result.now =
    ap (λ (n : NodeState). seat_at n.table key) (sym c.self.view_is) ∙ c.seat.ensures in
    rw c.from_residual.ensures (end_free n key c.seat.result.now there c.in_err-end.was)

pub returns-then-is_active-clause-call : goal.returns-then-is_active-clause-call
returns-then-is_active-clause-call g c =
    let n = c.args.self.now in
    let key = c.args.key in
    let code = c.index.result.now in
    let low = subst (λ (n : NodeState). key / 4 < length n.table.conns) (sym c.self.view_is) c.requires in
    let its : slice_get n.lives key ≡ Some code =
    ap (λ (n : NodeState). slice_get n.lives key) (sym c.self.view_is)
    ∙ indexed c.self.inside.lives.items key code (key_low g.C.Class.class_of _ key c.self.invariant.0 low)
    c.index.ensures in
    let there : seat_at n.table key ≡ Some c.seat.result.now =
    ap (λ (n : NodeState). seat_at n.table key) (sym c.self.view_is) ∙ c.seat.ensures in
    end_active n key c.seat.result.now there c.in_ok-end.end code c.in_ok-end.was its (sym c.if-is_active.ensures)

pub returns-clause-call : goal.returns-clause-call
returns-clause-call g c =
    let n = c.args.self.now in
    let key = c.args.key in
    let code = c.index.result.now in
    let low = subst (λ (n : NodeState). key / 4 < length n.table.conns) (sym c.self.view_is) c.requires in
    let its : slice_get n.lives key ≡ Some code =
    ap (λ (n : NodeState). slice_get n.lives key) (sym c.self.view_is)
    ∙ indexed c.self.inside.lives.items key code (key_low g.C.Class.class_of _ key c.self.invariant.0 low)
    c.index.ensures in
    let there : seat_at n.table key ≡ Some c.seat.result.now =
    ap (λ (n : NodeState). seat_at n.table key) (sym c.self.view_is) ∙ c.seat.ensures in
    end_inactive n key c.seat.result.now there c.in_ok-end.end code c.in_ok-end.was its (sym c.if-is_active.ensures)
