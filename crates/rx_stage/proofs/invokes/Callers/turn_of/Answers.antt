use Rattle.std.proofs.Common.{◌<◌, ◌∙◌, length, sym, subst}
use Rattle.std.specs.List.{All}
use Rattle.rx_stage.specs.Done.{is_done_at}
use Rattle.rx_plan.specs.Turned.{turns_for, turns_on}
use Rattle.rx_stage.proofs.CallersMade.{callers_all, callers_seen}
use Rattle.rx_stage.proofs.Done.{keeps_for, leaves_low, left_turned, rests_for}
use Rattle.rx_stage.proofs.Polling.{told_seen}
use Rattle.rx_stage.proofs.invokes.Callers.turn_of.Goals as goal

pub turn_each_of-requires : goal.turn_each_of-requires
turn_each_of-requires g c =
    subst (λ xs. All (λ p. p < length c.self.inside.all.items) xs) (sym c.as_slice.ensures.value)
    (leaves_low (is_done_at c.self.inside.all.items) c.self.inside.at_work.items (length c.self.inside.all.items)
    c.self.invariant)

pub invariant_of-self : goal.invariant_of-self
invariant_of-self g c =
    left_turned c.self.inside.all.items c.turn_each_of.new.callers.items c.self.inside.at_work.items
    c.turn_each_of.ensures.done
    c.turn_each_of.ensures.count c.self.invariant

pub returns : goal.returns
returns g c =
    let book = c.book-1.given.1 (sym c.turn_each_of.ensures.book) in
    let out = c.out-1.given.1 (sym c.turn_each_of.ensures.sink) in
    callers_seen (turns_on c.args.node) c.args.self.now _ c.args.nodes.now _ _ _ _ _
    (told_seen g.J.Journal.told g.O.Sink.told g.O.Sink.faults _ _ _ _ book out)
    (callers_all (turns_for c.args.node) (rests_for c.args.node) (keeps_for c.args.node) c.self.inside.at_work.items
    c.as_slice.result.now c.self.inside.all.items
    c.args.self.now c.turn_each_of.new.callers.items c.args.nodes.now c.turn_each_of.new.nodes _ _ _ c.self.invariant
    c.as_slice.ensures.value (c.self.view_is ∙ c.leave_done.ensures) c.turn_each_of.ensures.plays)
