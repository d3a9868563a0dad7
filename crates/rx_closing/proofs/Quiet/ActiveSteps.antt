-- What an event leaves of this: a call is active. A call that isn't active isn't so again, but by a start.
use Rattle.std.proofs.Common.{◌≡◌, ◌⊎◌, ℤ, Bool, true, false, List, ◌∷◌, Option, Some, None, refl, inl, inr, ◌∙◌, ap}
use Rattle.std.proofs.Common.{sym, subst}
use Rattle.rx_model.specs.declared.answers.End.{End}
use Rattle.rx_model.specs.declared.event.Event.{Event}
use Rattle.rx_model.specs.declared.names.CallName.{CallName}
use Rattle.rx_model.specs.declared.wire.TheConstants.{RX_CALL_DEAD}
use Rattle.rx_rules.specs.After.{is_end, is_zero, looks}
use Rattle.rx_rules.specs.CallLooks.{CallLooks, is_delivered}
use Rattle.rx_rules.specs.Life.{Life, after_accept, after_acks, after_cancel, after_code, after_end, after_finish}
use Rattle.rx_rules.specs.Life.{after_gone, after_later, after_silence, is_active}
use Rattle.rx_rules.specs.Life as lives
use Rattle.rx_rules.specs.Looks.{CallRecord, Looks, call_at}
use Rattle.rx_rules.specs.Rules.{Legal}
use Rattle.rx_rules.specs.Setup.{Setup, FitsSetup}
use Rattle.rx_between.proofs.Each.EachEvent.{each_step}
use Rattle.rx_between.proofs.Each.EachStep.{CallStep, LifeStep, Starts, accepted, cancelled, finished, gone, is_acked}
use Rattle.rx_between.proofs.Each.EachStep.{is_busy, is_followed, is_silent, is_stopped, lives_on, read_out}

-- ---- lives

-- a step of lives by which none is active again
abbrev pub NoneRises : (Life → Life) → Type 0
NoneRises f = (x : Life) → is_active (f x) ≡ true → is_active x ≡ true

rises_none : (f : Life → Life) → ((end : End) → is_active (f (lives.Ended end)) ≡ false)
    → ((code : ℤ) → is_active (f (lives.Broken code)) ≡ false)
    → ((code : Option ℤ) → is_active (f (lives.Over code)) ≡ false) → NoneRises f
rises_none f ended broken over (lives.Ended end) is = sym (ended end) ∙ is
rises_none f ended broken over (lives.Broken code) is = sym (broken code) ∙ is
rises_none f ended broken over (lives.Over code) is = sym (over code) ∙ is
rises_none f ended broken over _ is = refl

finish_rises : (fine : Bool) (code : ℤ) → NoneRises (after_finish fine code)
finish_rises true code = rises_none (after_finish true code) (λ end. refl) (λ told. refl) (λ told. refl)
finish_rises false code = rises_none (after_finish false code) (λ end. refl) (λ told. refl) (λ told. refl)

end_rises : (end : Bool) → NoneRises (after_end end)
end_rises true = rises_none (after_end true) (λ end. refl) (λ told. refl) (λ told. refl)
end_rises false = rises_none (after_end false) (λ end. refl) (λ told. refl) (λ told. refl)

-- each step is one
pub active_back : (s : Setup) (l : Looks) (e : Event) (c : CallName) (b : CallLooks) (x y : Life)
    → LifeStep s l e c b x y → is_active y ≡ true → is_active x ≡ true
active_back s l e c b x y step active = by step
  where
    at : (f : Life → Life) → NoneRises f → y ≡ f x → is_active x ≡ true
    at f none is = none x (sym (ap is_active is) ∙ active)

    by : LifeStep s l e c b x y → is_active x ≡ true
    by (lives_on is) = sym (ap is_active is) ∙ active
    by (is_stopped code stops is) =
        at (after_code code) (rises_none (after_code code) (λ end. refl) (λ told. refl) (λ told. refl)) is
    by (is_busy busy is) =
        at (after_code RX_CALL_DEAD)
        (rises_none (after_code RX_CALL_DEAD) (λ end. refl) (λ told. refl) (λ told. refl)) is
    by (is_followed later is) =
        at after_later (rises_none after_later (λ end. refl) (λ told. refl) (λ told. refl)) is
    by (is_acked m judges is) =
        at (after_acks (is_delivered b))
        (rises_none (after_acks (is_delivered b)) (λ end. refl) (λ told. refl) (λ told. refl)) is
    by (is_silent got silence event is) =
        at (after_silence silence)
        (rises_none (after_silence silence) (λ end. refl) (λ told. refl) (λ told. refl)) is
    by (accepted event is) =
        at after_accept (rises_none after_accept (λ end. refl) (λ told. refl) (λ told. refl)) is
    by (finished code event is) = at (after_finish (is_zero code) code) (finish_rises (is_zero code) code) is
    by (gone code told event is) = at after_gone (rises_none after_gone (λ end. refl) (λ t. refl) (λ t. refl)) is
    by (read_out most got bytes event is) = at (after_end (is_end got)) (end_rises (is_end got)) is
    by (cancelled code event is) =
        at (after_cancel code) (rises_none (after_cancel code) (λ end. refl) (λ told. refl) (λ told. refl)) is

-- ---- a call behind an event

-- it was active before, or it starts
pub active_or_starts : (s : Setup) (h : List Event) (e : Event) (d : CallName) (r : CallRecord) → FitsSetup s
    → Legal s (e ∷ h) → call_at (looks s (e ∷ h)) d ≡ Some r → is_active r.life ≡ true
    → ((q : CallRecord) × (call_at (looks s h) d ≡ Some q) × (is_active q.life ≡ true)) ⊎ Starts s (looks s h) e d r
active_or_starts s h e d r fits legal there active =
    of (call_at (looks s h) d) refl
    (subst (λ (o : Option CallRecord). CallStep s (looks s h) e d (call_at (looks s h) d) o) there
    (each_step s h e d fits legal))
  where
    of : (o : Option CallRecord) → call_at (looks s h) d ≡ o → CallStep s (looks s h) e d o (Some r)
        → ((q : CallRecord) × (call_at (looks s h) d ≡ Some q) × (is_active q.life ≡ true))
        ⊎ Starts s (looks s h) e d r
    of None at starts = inr starts
    of (Some q) at (inl goes) =
        inl (q, at, active_back s (looks s h) e d r.looks q.life r.life goes.life active)
    of (Some q) at (inr starts) = inr starts
