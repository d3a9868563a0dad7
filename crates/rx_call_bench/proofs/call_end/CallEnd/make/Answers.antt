use Rattle.std.proofs.Common.{ℕ, List, sym, subst}
use Rattle.std.proofs.lemmas.Bool.{false≢true}
use Rattle.rx_rules.specs.CallLooks.{fresh_call}
use Rattle.rx_pool.specs.Held.{Holds}
use Rattle.rx_call_bench.proofs.call_end.CallEnd.make.Goals as goal

pub returns : goal.returns
returns c =
    let slots = c.in_ok-slots.slots in
    record {
      looks = fresh_call c.in_ok-call.call.pace 0;
      stands = c.start.ensures.stands slots;
      holds =
          subst (λ (held : List ℕ). Holds slots held) (sym c.start.ensures.slots)
          (record { of = λ s h. absurd (false≢true h); apart = tt });
    }
