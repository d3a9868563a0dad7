use Rattle.std.proofs.Common.{◌<◌, ◌∙◌, length, sym, subst}
use Rattle.std.specs.List.{All}
use Rattle.rx_stage.specs.Done.{is_done_at}
use Rattle.rx_plan.specs.Turned.{turns_all, turns_at}
use Rattle.rx_stage.proofs.CallersMade.{callers_all, callers_seen}
use Rattle.rx_stage.proofs.Done.{keeps_at, leaves_low, left_turned, rests_at}
use Rattle.rx_stage.proofs.Polling.{told_seen}
use Rattle.rx_stage.proofs.invokes.Callers.turn_all.Goals as goal

pub turn_each-requires : goal.turn_each-requires
turn_each-requires g c =
    subst (λ xs. All (λ p. p < length c.self.inside.all.items) xs) (sym c.as_slice.ensures.value)
    (leaves_low (is_done_at c.self.inside.all.items) c.self.inside.at_work.items (length c.self.inside.all.items)
    c.self.invariant)

pub invariant_of-self : goal.invariant_of-self
invariant_of-self g c =
    left_turned c.self.inside.all.items c.turn_each.new.callers.items c.self.inside.at_work.items
    c.turn_each.ensures.done
    c.turn_each.ensures.count c.self.invariant

pub returns : goal.returns
returns g c =
    let book = c.book-1.given.1 (sym c.turn_each.ensures.book) in
    let out = c.out-1.given.1 (sym c.turn_each.ensures.sink) in
    callers_seen turns_all c.args.self.now _ c.args.nodes.now _ _ _ _ _
    (told_seen g.J.Journal.told g.O.Sink.told g.O.Sink.faults _ _ _ _ book out)
    (callers_all turns_at rests_at keeps_at c.self.inside.at_work.items c.as_slice.result.now c.self.inside.all.items
    c.args.self.now c.turn_each.new.callers.items c.args.nodes.now c.turn_each.new.nodes _ _ _ c.self.invariant
    c.as_slice.ensures.value (c.self.view_is ∙ c.leave_done.ensures) c.turn_each.ensures.plays)
