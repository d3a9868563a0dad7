-- A call that lives behind an event of its node lived before it, or starts by it.
use Rattle.std.proofs.Common.{◌≡◌, ◌⊎◌, ℤ, Bool, true, false, List, ◌∷◌, Option, Some, None, refl, inl, inr, ◌∙◌, ap}
use Rattle.std.proofs.Common.{sym, subst}
use Rattle.rx_model.specs.declared.answers.End.{End}
use Rattle.rx_model.specs.declared.event.Event.{Event}
use Rattle.rx_model.specs.declared.names.CallName.{CallName}
use Rattle.rx_model.specs.declared.wire.TheConstants.{RX_CALL_DEAD}
use Rattle.rx_rules.specs.After.{is_end, is_zero, looks}
use Rattle.rx_rules.specs.CallLooks.{CallLooks, is_delivered}
use Rattle.rx_rules.specs.Life.{Life, after_accept, after_acks, after_cancel, after_code, after_end, after_finish}
use Rattle.rx_rules.specs.Life.{after_gone, after_later, after_silence, is_live}
use Rattle.rx_rules.specs.Life as lives
use Rattle.rx_rules.specs.Looks.{CallRecord, Looks, call_at}
use Rattle.rx_rules.specs.Rules.{Legal}
use Rattle.rx_rules.specs.Setup.{Setup, FitsSetup}
use Rattle.rx_between.proofs.Each.EachEvent.{each_step}
use Rattle.rx_between.proofs.Each.EachStep.{CallStep, LifeStep, Starts, accepted, cancelled, finished, gone, is_acked}
use Rattle.rx_between.proofs.Each.EachStep.{is_busy, is_followed, is_silent, is_stopped, lives_on, read_out}

-- ---- lives

-- a step of lives by which none comes back
abbrev pub NoneWakes : (Life → Life) → Type 0
NoneWakes f = (x : Life) → is_live (f x) ≡ true → is_live x ≡ true

wakes_none : (f : Life → Life) → ((end : End) → is_live (f (lives.Ended end)) ≡ false)
    → ((code : Option ℤ) → is_live (f (lives.Over code)) ≡ false) → NoneWakes f
wakes_none f ended over (lives.Ended end) is = sym (ended end) ∙ is
wakes_none f ended over (lives.Over code) is = sym (over code) ∙ is
wakes_none f ended over _ is = refl

finish_wakes : (fine : Bool) (code : ℤ) → NoneWakes (after_finish fine code)
finish_wakes true code = wakes_none (after_finish true code) (λ end. refl) (λ told. refl)
finish_wakes false code = wakes_none (after_finish false code) (λ end. refl) (λ told. refl)

end_wakes : (end : Bool) → NoneWakes (after_end end)
end_wakes true = wakes_none (after_end true) (λ end. refl) (λ told. refl)
end_wakes false = wakes_none (after_end false) (λ end. refl) (λ told. refl)

-- each step is one
pub life_back : (s : Setup) (l : Looks) (e : Event) (c : CallName) (b : CallLooks) (x y : Life)
    → LifeStep s l e c b x y → is_live y ≡ true → is_live x ≡ true
life_back s l e c b x y step living = by step
  where
    at : (f : Life → Life) → NoneWakes f → y ≡ f x → is_live x ≡ true
    at f none is = none x (sym (ap is_live is) ∙ living)

    by : LifeStep s l e c b x y → is_live x ≡ true
    by (lives_on is) = sym (ap is_live is) ∙ living
    by (is_stopped code stops is) =
        at (after_code code) (wakes_none (after_code code) (λ end. refl) (λ told. refl)) is
    by (is_busy busy is) =
        at (after_code RX_CALL_DEAD) (wakes_none (after_code RX_CALL_DEAD) (λ end. refl) (λ told. refl)) is
    by (is_followed later is) = at after_later (wakes_none after_later (λ end. refl) (λ told. refl)) is
    by (is_acked m judges is) =
        at (after_acks (is_delivered b)) (wakes_none (after_acks (is_delivered b)) (λ end. refl) (λ told. refl)) is
    by (is_silent got silence event is) =
        at (after_silence silence) (wakes_none (after_silence silence) (λ end. refl) (λ told. refl)) is
    by (accepted event is) = at after_accept (wakes_none after_accept (λ end. refl) (λ told. refl)) is
    by (finished code event is) = at (after_finish (is_zero code) code) (finish_wakes (is_zero code) code) is
    by (gone code told event is) = at after_gone (wakes_none after_gone (λ end. refl) (λ told. refl)) is
    by (read_out most got bytes event is) = at (after_end (is_end got)) (end_wakes (is_end got)) is
    by (cancelled code event is) =
        at (after_cancel code) (wakes_none (after_cancel code) (λ end. refl) (λ told. refl)) is

-- ---- a call behind an event

-- it lived before, or it starts
pub lived_or_starts : (s : Setup) (h : List Event) (e : Event) (d : CallName) (r : CallRecord) → FitsSetup s
    → Legal s (e ∷ h) → call_at (looks s (e ∷ h)) d ≡ Some r → is_live r.life ≡ true
    → ((q : CallRecord) × (call_at (looks s h) d ≡ Some q) × (is_live q.life ≡ true)) ⊎ Starts s (looks s h) e d r
lived_or_starts s h e d r fits legal there living =
    of (call_at (looks s h) d) refl
    (subst (λ (o : Option CallRecord). CallStep s (looks s h) e d (call_at (looks s h) d) o) there
    (each_step s h e d fits legal))
  where
    of : (o : Option CallRecord) → call_at (looks s h) d ≡ o → CallStep s (looks s h) e d o (Some r)
        → ((q : CallRecord) × (call_at (looks s h) d ≡ Some q) × (is_live q.life ≡ true))
        ⊎ Starts s (looks s h) e d r
    of None at starts = inr starts
    of (Some q) at (inl goes) =
        inl (q, at, life_back s (looks s h) e d r.looks q.life r.life goes.life living)
    of (Some q) at (inr starts) = inr starts
