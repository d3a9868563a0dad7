-- Where the places are in order and a joiner takes the datagrams, they are delivered.
use Rattle.std.proofs.Common.{◌+◌, ◌∙◌, ap, refl, sym}
use Rattle.rx_plan.specs.Lines.{can_join, joins_to}
use Rattle.rx_stage.specs.Shown.{WorldState}
use Rattle.rx_stage.specs.declared.stop.Stop.TheVariants as stops
use Rattle.rx_stage.proofs.Joining.{joins_cut, joins_fail, order_fails, order_holds, slice_is}
use Rattle.rx_stage.proofs.Making.{cut_as}
use Rattle.rx_stage.proofs.world.World.join_line.Goals as goal

pub returns-then-to-from-clause-plays : goal.returns-then-to-from-clause-plays
returns-then-to-from-clause-plays g c =
    joins_fail (c.args.from + 1) (c.args.to + 1) c.args.self.now _ (order_fails c.args.from c.args.to _
    c.if-to-from.true)

pub returns-in_err-joins-clause-plays : goal.returns-in_err-joins-clause-plays
returns-in_err-joins-clause-plays g c =
    cut_as (joins_to (c.args.from + 1) (c.args.to + 1)) _ _ c.from_residual.result stops.OutOfMemory _
    c.from_residual.ensures refl (joins_cut (c.args.from + 1) (c.args.to + 1))

pub returns-clause-plays : goal.returns-clause-plays
returns-clause-plays g c =
    (let same = slice_is c.args.from c.args.to c.deref.result.now c.args.self.now.packets
    (c.deref.ensures.value ∙ ap (λ (v : WorldState). v.packets) c.self.view_is) in
    joins_fail (c.args.from + 1) (c.args.to + 1) c.args.self.now _
    (order_holds c.args.from c.args.to _ c.if-to-from.false ∙ sym (ap can_join same) ∙ sym c.in_ok-joins.ensures
    ∙ c.if-joins.false))
