use Rattle.std.proofs.Common.{◌≡◌, ◌+◌, ◌∙◌, ℕ, List, Option, None, Some, length, refl, sym, subst}
use Rattle.std.specs.Prelude.{slice_set}
use Rattle.rx_queue.proofs.Renumbering.{Renumbers, length_set, renumbers_all, renumbers_more}
use Rattle.rx_queue.proofs.renumber.renumber.Goals as goal

pub given-preserved : goal.given-preserved
given-preserved c =
    record {
      renumbers = subst (λ (left : List (Option ℕ)). Renumbers c.args.counts.now
          (slice_set c.given.counts c.in-Some.key (Some c.given.count)) left c.args.next (c.given.count + 1))
          (sym c.clear.ensures)
          (renumbers_more c.args.counts.now c.given.counts c.given.ready c.args.next c.given.count c.in-Some.key
          c.in-Some._count c.given.invariant.renumbers c.in-Some.ensures.least);
      room = subst (λ (left : List (Option ℕ)). length left ≡ length c.args.ready.now) (sym c.clear.ensures)
          (length_set c.given.ready c.in-Some.key None ∙ c.given.invariant.room);
    }

pub returns-clause-order : goal.returns-clause-order
returns-clause-order c =
    (renumbers_all c.args.counts.now c.given.counts c.given.ready c.admit_all-2.new.ready c.args.next c.given.count
    c.given.invariant.renumbers (c.in_default.ensures.empty.0 refl) c.admit_all-2.ensures.room
    c.admit_all-2.ensures.each).1
