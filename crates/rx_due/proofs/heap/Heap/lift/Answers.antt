use Rattle.std.proofs.Common.{arith, sym, subst}
use Rattle.rx_due.specs.declared.heap.Heap.{Heap}
use Rattle.rx_due.specs.Heap.{IsOpen, KeepsOthers}
use Rattle.rx_due.proofs.Levels.{climbs_up, climbs_most}
use Rattle.rx_due.proofs.Moves.{goes_up, keeps_then}
use Rattle.rx_due.proofs.heap.Heap.lift.Goals as goal

pub loop-above-preserved : goal.loop-above-preserved
loop-above-preserved g c =
    let so = c.loop-above.invariant in
    let step = c.in-Some.ensures.found in
    let above = c.in-Some.above in
    let old = c.loop-above.self in
    let moves = goes_up old c.loop-above.place c.args.entry above so.opens step in
    let keeps = subst (λ (h : Heap). KeepsOthers old h c.args.entry.1) (sym c.stand.ensures.stood) moves.keeps in
    record {
      opens = subst (λ (h : Heap). IsOpen h above.place c.args.entry.1) (sym c.stand.ensures.stood) moves.open_still;
      keeps = keeps_then c.args.self.now old c.stand.new.self c.args.entry.1 so.keeps keeps;
      climbs = climbs_up 3 above.place c.loop-above.place c.args.hole c.args.steps.now c.loop-above.steps
          c.stand.new.steps so.climbs step.stands.above
          (record {
            grows = omega (arith, c.stand.ensures.steps, c.in-Some.ensures.steps.grows);
            most = omega (arith, c.stand.ensures.steps, c.in-Some.ensures.steps.most);
          });
    }

pub returns-clause-steps : goal.returns-clause-steps
returns-clause-steps g c d bound =
    let last = c.after_above.ensures.steps in
    climbs_most 3 c.loop-above.place c.args.hole c.args.self.now.len d c.args.steps.now c.loop-above.steps
    c.after_above.new.steps c.loop-above.invariant.climbs c.requires.open.hole_within bound
    (record { grows = last.grows; most = omega (arith, last.most) })
