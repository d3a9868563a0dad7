use Rattle.std.proofs.Common.{arith, sym, subst}
use Rattle.rx_due.specs.declared.heap.Heap.{Heap}
use Rattle.rx_due.specs.Heap.{IsOpen, IsAboveNoGreater, KeepsOthers}
use Rattle.rx_due.proofs.Levels.{climbs_down, climbs_most}
use Rattle.rx_due.proofs.Moves.{goes_down, less_above, keeps_then}
use Rattle.rx_due.proofs.heap.Heap.sink.Goals as goal

pub loop-below-preserved : goal.loop-below-preserved
loop-below-preserved g c =
    let so = c.loop-below.invariant in
    let step = c.in-Some.ensures.found in
    let below = c.in-Some.below in
    let old = c.loop-below.self in
    let moves = goes_down old c.loop-below.place c.args.entry below so.opens step in
    let keeps = subst (λ (h : Heap). KeepsOthers old h c.args.entry.1) (sym c.stand.ensures.stood) moves.keeps in
    record {
      opens = subst (λ (h : Heap). IsOpen h below.place c.args.entry.1) (sym c.stand.ensures.stood) moves.open_still;
      above = subst (λ (h : Heap). IsAboveNoGreater h below.place c.args.entry) (sym c.stand.ensures.stood)
          (less_above old c.loop-below.place c.args.entry below so.opens step);
      keeps = keeps_then c.args.self.now old c.stand.new.self c.args.entry.1 so.keeps keeps;
      climbs = climbs_down 4 c.args.hole c.loop-below.place below.place c.args.steps.now c.loop-below.steps
          c.stand.new.steps so.climbs step.stands.below
          (record {
            grows = omega (arith, c.stand.ensures.steps, c.in-Some.ensures.steps.grows);
            most = omega (arith, c.stand.ensures.steps, c.in-Some.ensures.steps.most);
          });
    }

pub returns-clause-steps : goal.returns-clause-steps
returns-clause-steps g c d bound =
    let last = c.before_below.ensures.steps in
    let so = c.loop-below.invariant in
    climbs_most 4 c.args.hole c.loop-below.place c.args.self.now.len d c.args.steps.now c.loop-below.steps
    c.before_below.new.steps so.climbs (omega (arith, so.opens.hole_within, so.keeps.len)) bound
    (record { grows = last.grows; most = omega (arith, last.most) })
