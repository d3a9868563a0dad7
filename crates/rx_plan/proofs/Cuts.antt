-- Histories cut at an event.
use Rattle.std.proofs.Common.{◌≡◌, ◌==◌, cond, ℕ, ℤ, suc}
use Rattle.std.proofs.Common.{Bool, true, false, List, [], ◌∷◌, ◌++◌, Ok}
use Rattle.std.proofs.Common.{Err, refl, ap, sym}
use Rattle.rx_model.specs.declared.event.Event.{Event}
use Rattle.rx_model.specs.declared.event.Event.TheVariants as events
use Rattle.rx_model.specs.declared.event.Noted.{Noted}
use Rattle.rx_model.specs.declared.names.CallName.{CallName}
use Rattle.rx_model.specs.Names.{same_name}
use Rattle.rx_model.proofs.NameLaws.{both, name_is, same_number}
use Rattle.rx_rules.specs.Setup.{Setup}
use Rattle.rx_history.specs.Counts.{Once, finishes, times_finished}
use Rattle.rx_history.specs.Sides.{side}
use Rattle.rx_history.specs.Starts.{StartsOnce}
use Rattle.rx_plan.proofs.Finishing.{once_before}

-- ---- splits of a history

pub once_at : (later before : List Event) → Once (later ++ before) → Once before
once_at [] before once = once
once_at (e ∷ later) before once = once_at later before (once_before e (later ++ before) once)

-- an event that finishes a call, with its code
finish_is : (e : Event) (c : CallName) → finishes e c ≡ true → (code : ℤ) × (e ≡ events.Finished c code (Ok tt))
finish_is (events.Finished d code (Ok done)) c is =
    (code, ap (λ (n : CallName). events.Finished n code (Ok tt)) (sym (name_is c d (both (same_name c d) true is).0)))
finish_is (events.Finished d code (Err refused)) c is =
    absurd (let no = (both (same_name c d) false is).1 in cc)
finish_is _ c is = absurd cc

-- where it stands in a joint history
pub record FinishIn (h : List Noted) (c : CallName) : Type 0 where
  pub later : List Noted
  pub code : ℤ
  pub before : List Noted
  pub is : h ≡ later ++ record { node = 0; event = events.Finished c code (Ok tt) } ∷ before

behind_one : (e : Noted) (h : List Noted) (c : CallName) → FinishIn h c → FinishIn (e ∷ h) c
behind_one e h c f =
    record { later = e ∷ f.later; code = f.code; before = f.before; is = ap (λ (es : List Noted). e ∷ es) f.is }

pub finish_in : (h : List Noted) (c : CallName) (n : ℕ) → times_finished (side 0 h) c ≡ suc n → FinishIn h c
finish_in [] c n is = absurd cc
finish_in (e ∷ h) c n is = by (e.node == 0) (finishes e.event c) refl refl is (finish_in h c n)
  where
    by : (here fin : Bool) → (e.node == 0) ≡ here → finishes e.event c ≡ fin
        → times_finished (cond here (e.event ∷ side 0 h) (side 0 h)) c ≡ suc n
        → (times_finished (side 0 h) c ≡ suc n → FinishIn h c) → FinishIn (e ∷ h) c
    by false fin here_is fin_is many again = behind_one e h c (again many)
    by true false here_is fin_is many again =
        (let rest : times_finished (side 0 h) c ≡ suc n = rw fin_is at many in behind_one e h c (again rest))
    by true true here_is fin_is many again =
        (let f = finish_is e.event c fin_is in
        let node_is : e.node ≡ 0 = same_number e.node 0 here_is in
        record {
          later = [];
          code = f.0;
          before = h;
          is = λ i. record { node = node_is i; event = f.1 i } ∷ h;
        })

pub starts_at : (s : Setup) (later now : List Event) (c : CallName) → StartsOnce s (later ++ now) c → StartsOnce s now c
starts_at s [] now c starts = starts
starts_at s (e ∷ later) now c starts = starts_at s later now c starts.1
