-- A client that was given one call has no other.
use Rattle.std.proofs.Common.{◌≡◌, true, false, List, [], ◌∷◌, Option, Some, None, Ok, Err, Bool, refl, sym, subst, ◌∙◌}
use Rattle.rx_model.proofs.NameLaws.{name_is}
use Rattle.rx_model.specs.Names.{same_name}
use Rattle.rx_model.specs.Reading.{reading_of}
use Rattle.rx_model.specs.declared.event.Event.{Event}
use Rattle.rx_model.specs.declared.event.Event.TheVariants as events
use Rattle.rx_model.specs.declared.names.CallName.{CallName}
use Rattle.rx_model.specs.declared.names.Host.{Host}
use Rattle.std.proofs.Common.{ℕ}
use Rattle.rx_rules.specs.After.{looks}
use Rattle.rx_rules.specs.Looks.{CallRecord, Looks, call_at}
use Rattle.rx_rules.specs.Rules.{AllowedClient, Legal}
use Rattle.rx_rules.specs.Setup.{Setup, Client}
use Rattle.rx_rules.proofs.EveryLaws.{Every}
use Rattle.rx_asks.proofs.KeptEvents.{StartsNoCall}
use Rattle.rx_plan.proofs.ClientEnds.{IsThere, Onward, none_of, onward_after}
use Rattle.rx_history.proofs.ClientHistory.{clients}

-- a call that is answered is this one
abbrev pub CallsOnly : CallName → Event → Type 0
CallsOnly c (events.Called cid (Ok d)) = d ≡ c
CallsOnly c _ = Unit {0}

module _ (s : Setup) (host : Host) (epoch : ℕ) (kind : s.kind ≡ Client host epoch) (c : CallName) where
  starts_no : (l : Looks) (e : Event) (d : CallName) → AllowedClient s host epoch l e → same_name d c ≡ false
      → CallsOnly c e
      → StartsNoCall s l d e
  starts_no l (events.Called cid (Ok g)) d allowed other only =
      subst (λ (n : CallName). same_name d n ≡ false) (sym only) other
  starts_no l (events.Called cid (Err refused)) d allowed other only = tt
  starts_no l (events.Taken from bytes got) d allowed other only =
      none_of s host epoch kind l from bytes got (reading_of bytes) d allowed.1 refl
  starts_no l _ d allowed other only = tt

  none_on : (o : Option CallRecord) → Onward None o → o ≡ None
  none_on None on = refl
  none_on (Some k) on = absurd on

  pub no_other : (h : List Event) (d : CallName) → Legal s h → Every (CallsOnly c) h → same_name d c ≡ false
      → call_at (looks s h) d ≡ None
  no_other [] d legal only other = refl
  no_other (e ∷ h) d legal only other =
      let allowed = clients s.kind s host epoch (looks s h) e kind legal.0 in
      none_on (call_at (looks s (e ∷ h)) d)
      (subst (λ (o : Option CallRecord). Onward o (call_at (looks s (e ∷ h)) d)) (no_other h d legal.1 only.1 other)
      (onward_after s host epoch (looks s h) d e allowed (starts_no (looks s h) e d allowed other only.0)))

  -- so one that is there is this one
  pub there_is : (h : List Event) (d : CallName) → Legal s h → Every (CallsOnly c) h → IsThere (looks s h) d → d ≡ c
  there_is h d legal only there = of (same_name d c) refl
    where
      of : (b : Bool) → same_name d c ≡ b → d ≡ c
      of true same = name_is d c same
      of false other =
          absurd (let never : Some there.call ≡ None = sym there.there ∙ no_other h d legal only other in cc)
