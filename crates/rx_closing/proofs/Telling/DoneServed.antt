-- A call's server is done with it, or it is at work with it or doesn't know it; and in this it was so before.
use Rattle.std.proofs.Common.{◌≡◌, ◌⊎◌, Bool, true, false, ℕ, Option, Some, None, inl, inr, refl, ◌∙◌, sym, subst}
use Rattle.rx_model.specs.declared.names.CallName.{CallName}
use Rattle.rx_rules.specs.Life.{is_active}
use Rattle.rx_rules.specs.Looks.{CallRecord}
use Rattle.rx_history.specs.Sides.{Node}
use Rattle.rx_plan.specs.Stages.{Stage}
use Rattle.rx_closing.proofs.Frame.{OneOf, served_in}
use Rattle.rx_closing.proofs.Rounds.Chains.{Adds}
use Rattle.rx_closing.proofs.Telling.DoneLate.{IsDone, done_later}

-- its server doesn't know it, or is at work with it
abbrev pub IsOpen : CallName → Node → Stage → Type 0
IsOpen c server s = (r : CallRecord) → served_in c server s ≡ Some r → is_active r.life ≡ true

-- it was so before
pub open_before : (c : CallName) (k : ℕ) (client server : Node) (s t : Stage) → OneOf c k client server t
    → Adds s.history t.history → IsOpen c server t → IsOpen c server s
open_before c k client server s t one a open_ r there = by (is_active r.life) refl
  where
    by : (b : Bool) → is_active r.life ≡ b → b ≡ true
    by true is = refl
    by false is =
        (let d = done_later c k client server s t one a (record { call = r; there = there; idle = is }) in
        let active = open_ d.call d.there in
        let idle = d.idle in
        let no : true ≡ false = sym active ∙ idle in absurd (cc (no)))

-- one of both
pub done_or_open : (c : CallName) (server : Node) (s : Stage) → IsDone c server s ⊎ IsOpen c server s
done_or_open c server s = of (served_in c server s) refl
  where
    some_is : (x y : CallRecord) → ◌≡◌ {A = Option CallRecord} (Some x) (Some y) → x ≡ y
    some_is x y is = cc

    of : (o : Option CallRecord) → served_in c server s ≡ o → IsDone c server s ⊎ IsOpen c server s
    of None none =
        inr (λ r there. absurd (let no : ◌≡◌ {A = Option CallRecord} None (Some r) = sym none ∙ there in cc (no)))
    of (Some y) some = by (is_active y.life) refl
      where
        by : (b : Bool) → is_active y.life ≡ b → IsDone c server s ⊎ IsOpen c server s
        by true active =
            inr (λ r there. subst (λ (x : CallRecord). is_active x.life ≡ true)
            (some_is y r (sym some ∙ there)) active)
        by false idle = inl (record { call = y; there = some; idle = idle })
