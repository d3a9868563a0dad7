-- One call between two stages at which it is as far: at each stage between both its ends stand.
use Rattle.std.proofs.Common.{◌≡◌, Option, Some, None, refl, sym, subst, ◌∙◌}
use Rattle.rx_rules.specs.Looks.{CallRecord}
use Rattle.rx_closing.proofs.Ends.BothEnds.{Stood}
use Rattle.rx_closing.proofs.Far.FarStands.{StandsAt, StandsOf}

some_is : (a b : CallRecord) → ◌≡◌ {A = Option CallRecord} (Some a) (Some b) → a ≡ b
some_is a b same = cc

-- of a call that was there and stands
pub stands_from : (o p : Option CallRecord) (a : CallRecord) → o ≡ Some a → StandsOf o p
    → (b : CallRecord) × (p ≡ Some b) × StandsAt a b
stands_from None p a is stands = absurd (let no : ◌≡◌ {A = Option CallRecord} None (Some a) = is in cc (no))
stands_from (Some d) None a is stands = absurd stands
stands_from (Some d) (Some b) a is stands =
    (b, refl, subst (λ (e : CallRecord). StandsAt e b) (some_is d a is) stands)

-- an end between two moments at which it stands
pub stood_between : (x a b : CallRecord) → StandsAt x a → StandsAt x b → Stood a.looks b.looks
stood_between x a b p q =
    record {
      pieces = q.pieces ∙ sym p.pieces;
      given = q.given ∙ sym p.given;
      acked = q.acked ∙ sym p.acked;
      shut = q.shut ∙ sym p.shut;
      front = q.front ∙ sym p.front;
      used = q.used ∙ sym p.used;
      ended = q.ended ∙ sym p.ended;
    }
