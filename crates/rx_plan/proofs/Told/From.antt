-- Why a call of a server has a code, in a joint history: its handler finished it so, a message told it, or nothing was
-- heard of it.
use Rattle.std.proofs.Common.{◌≡◌, ◌⊎◌, ◌==◌, ◌++◌, cond, ℕ, ℤ, Bool, true, false, List, [], ◌∷◌, Ok}
use Rattle.std.proofs.Common.{Err, refl, inl, inr, ap, sym, subst}
use Rattle.rx_model.specs.declared.answers.Took.{Took}
use Rattle.rx_model.specs.declared.event.Event.{Event}
use Rattle.rx_model.specs.declared.event.Event.TheVariants as events
use Rattle.rx_model.specs.declared.event.Noted.{Noted}
use Rattle.rx_model.specs.declared.names.CallName.{CallName}
use Rattle.rx_model.specs.declared.names.Host.{Host}
use Rattle.rx_model.specs.declared.wire.TheConstants.{RX_CALL_DEAD}
use Rattle.rx_model.proofs.NameLaws.{same_number}
use Rattle.rx_rules.specs.After.{is_zero, looks}
use Rattle.rx_rules.specs.Looks.{Looks}
use Rattle.rx_rules.specs.Rules.{AllowedAt, Legal}
use Rattle.rx_rules.specs.Setup.{Setup, Kind, Server, Client, IsServer}
use Rattle.rx_history.specs.Sides.{side}
use Rattle.rx_history.proofs.Client.{StoppedBy}
use Rattle.rx_wire.specs.Turns.{noted}
use Rattle.rx_plan.specs.Causes.{IsSilenced}
use Rattle.rx_plan.proofs.Aborts.AbortCauses.{GivesCode, HasCode, LaterBy, WrongBy}

-- a handler finished the call with the code, which isn't 0
pub record FinishedIn (h : List Noted) (c : CallName) (code : ℤ) : Type 0 where
  pub later : List Noted
  pub before : List Noted
  pub is : h ≡ later ++ noted 0 (events.Finished c code (Ok tt)) ∷ before
  pub some : is_zero code ≡ false

finished_later : (e : Noted) (h : List Noted) (c : CallName) (code : ℤ) → FinishedIn h c code
    → FinishedIn (e ∷ h) c code
finished_later e h c code f =
    record { later = e ∷ f.later; before = f.before; is = ap (λ (g : List Noted). e ∷ g) f.is; some = f.some }

-- a server gives no call up
no_cancel : (kind : Kind) (s : Setup) (l : Looks) (d : CallName) (code : ℤ) (done : Unit {0}) → IsServer kind
    → AllowedAt kind s l (events.Cancelled d code (Ok done)) → ⊥
no_cancel (Server service nonces) s l d code done server allowed = allowed
no_cancel (Client host epoch) s l d code done server allowed = server

-- an ABORT told the server's call the code, or data of a later call or a wrong RESPONSE came
pub record ToldIn (s : Setup) (h : List Noted) (c : CallName) (code : ℤ) : Type 0 where
  pub later : List Noted
  pub before : List Noted
  pub from : Host
  pub bytes : List ℕ
  pub got : Took
  pub is : h ≡ later ++ noted 0 (events.Taken from bytes got) ∷ before
  pub by :
      StoppedBy s (looks s (side 0 before)) from bytes c code
      ⊎ (LaterBy s (looks s (side 0 before)) from bytes c code
      ⊎ WrongBy s (looks s (side 0 before)) from bytes got c code)

told_later : (s : Setup) (e : Noted) (h : List Noted) (c : CallName) (code : ℤ) → ToldIn s h c code
    → ToldIn s (e ∷ h) c code
told_later s e h c code t =
    record {
      later = e ∷ t.later;
      before = t.before;
      from = t.from;
      bytes = t.bytes;
      got = t.got;
      is = ap (λ (g : List Noted). e ∷ g) t.is;
      by = t.by;
    }

-- why a call of the server has a code
abbrev pub Why : Setup → List Noted → List Event → CallName → ℤ → Type 0
Why s h sv c code = FinishedIn h c code ⊎ (ToldIn s h c code ⊎ ((code ≡ RX_CALL_DEAD) × IsSilenced s sv c))

-- an event of the server
one_code : (s : Setup) (h : List Noted) (c : CallName) (code : ℤ) (e : Event) → IsServer s.kind
    → AllowedAt s.kind s (looks s (side 0 h)) e
    → GivesCode s (looks s (side 0 h)) c code e
    → Why s (noted 0 e ∷ h) (e ∷ side 0 h) c code
one_code s h c code (events.Finished d told (Ok done)) server allowed gives =
    inl (record {
      later = [];
      before = h;
      is = λ i. noted 0 (events.Finished (gives.0 i) (gives.1 i) (Ok done)) ∷ h;
      some = subst (λ (n : ℤ). is_zero n ≡ false) gives.1 gives.2;
    })
one_code s h c code (events.Finished d told (Err refused)) server allowed gives = absurd gives
one_code s h c code (events.Cancelled d told (Ok done)) server allowed gives =
    absurd (no_cancel s.kind s (looks s (side 0 h)) d told done server allowed)
one_code s h c code (events.Cancelled d told (Err closed)) server allowed gives = absurd gives
one_code s h c code (events.Polled got) server allowed gives = inr (inr (gives.0, inl gives.1))
one_code s h c code (events.Taken from given got) server allowed gives =
    inr (inl (record { later = []; before = h; from = from; bytes = given; got = got; is = refl; by = gives }))
one_code s h c code (events.Linked to service first got) server allowed gives = absurd gives
one_code s h c code (events.Called cid got) server allowed gives = absurd gives
one_code s h c code (events.Wrote d offered got given) server allowed gives = absurd gives
one_code s h c code (events.Shut d got) server allowed gives = absurd gives
one_code s h c code (events.HasRead d max got given) server allowed gives = absurd gives
one_code s h c code (events.Ended d got) server allowed gives = absurd gives
one_code s h c code (events.Accepted got) server allowed gives = absurd gives
one_code s h c code (events.Clocked now) server allowed gives = absurd gives

-- where the server's events gave the call a code, its handler finished it so, a message told it, or nothing was
-- heard of it
pub code_from : (s : Setup) (h : List Noted) (c : CallName) (code : ℤ) → IsServer s.kind → Legal s (side 0 h)
    → HasCode s (side 0 h) c code → Why s h (side 0 h) c code
code_from s [] c code server legal has = absurd has
code_from s (e ∷ h) c code server legal has =
    of (e.node == 0) refl legal has (λ before more. code_from s h c code server before more)
  where
    own : (e.node == 0) ≡ true → noted 0 e.event ≡ e
    own is = λ i. record { node = sym (same_number e.node 0 is) i; event = e.event }

    later : Why s h (side 0 h) c code → Why s (e ∷ h) (e.event ∷ side 0 h) c code
    later (inl f) = inl (finished_later e h c code f)
    later (inr (inl told)) = inr (inl (told_later s e h c code told))
    later (inr (inr silent)) = inr (inr (silent.0, inr silent.1))

    head : (e.node == 0) ≡ true → Legal s (e.event ∷ side 0 h)
        → GivesCode s (looks s (side 0 h)) c code e.event ⊎ HasCode s (side 0 h) c code
        → (Legal s (side 0 h) → HasCode s (side 0 h) c code → Why s h (side 0 h) c code)
        → Why s (e ∷ h) (e.event ∷ side 0 h) c code
    head is legal (inl gives) more =
        subst (λ (n : Noted). Why s (n ∷ h) (e.event ∷ side 0 h) c code) (own is)
        (one_code s h c code e.event server legal.0 gives)
    head is legal (inr has) more = later (more legal.1 has)

    other : Why s h (side 0 h) c code → Why s (e ∷ h) (side 0 h) c code
    other (inl f) = inl (finished_later e h c code f)
    other (inr (inl told)) = inr (inl (told_later s e h c code told))
    other (inr (inr silent)) = inr (inr silent)

    of : (b : Bool) → (e.node == 0) ≡ b → Legal s (cond b (e.event ∷ side 0 h) (side 0 h))
        → HasCode s (cond b (e.event ∷ side 0 h) (side 0 h)) c code
        → (Legal s (side 0 h) → HasCode s (side 0 h) c code → Why s h (side 0 h) c code)
        → Why s (e ∷ h) (cond b (e.event ∷ side 0 h) (side 0 h)) c code
    of true is legal has more = head is legal has more
    of false is legal has more = other (more legal has)

-- ---- later moments

pub silenced_over : (s : Setup) (c : CallName) (later now : List Noted) → IsSilenced s (side 0 now) c
    → IsSilenced s (side 0 (later ++ now)) c
silenced_over s c [] now silent = silent
silenced_over s c (e ∷ later) now silent = of (e.node == 0) (silenced_over s c later now silent)
  where
    of : (b : Bool) → IsSilenced s (side 0 (later ++ now)) c
        → IsSilenced s (cond b (e.event ∷ side 0 (later ++ now)) (side 0 (later ++ now))) c
    of true here = inr here
    of false here = here

pub finished_over : (c : CallName) (code : ℤ) (later now : List Noted) → FinishedIn now c code
    → FinishedIn (later ++ now) c code
finished_over c code [] now f = f
finished_over c code (e ∷ later) now f = finished_later e (later ++ now) c code (finished_over c code later now f)
