-- A call whose handler ended well was read to its end.
use Rattle.std.proofs.Common.{◌≡◌, ◌∷◌, ◌||◌, not, ℕ, ℤ, Bool, true, false, List, [], refl, ap, sym, subst, ◌∙◌, Option}
use Rattle.std.proofs.Common.{Some, None, inl, inr, Result, Ok}
use Rattle.rx_model.specs.declared.answers.ServeRefused.{ServeRefused}
use Rattle.rx_model.specs.declared.event.Event.{Event}
use Rattle.rx_model.specs.declared.event.Event.TheVariants as events
use Rattle.rx_model.specs.declared.names.CallName.{CallName}
use Rattle.rx_model.specs.declared.wire.TheConstants.{RX_CALL_DEAD}
use Rattle.rx_rules.specs.After.{is_end, is_zero, looks}
use Rattle.rx_rules.specs.CallLooks.{CallLooks, is_delivered}
use Rattle.rx_rules.specs.Life.{Life, after_accept, after_acks, after_cancel, after_code, after_end, after_finish}
use Rattle.rx_rules.specs.Life.{after_gone, after_later, after_silence}
use Rattle.rx_rules.specs.Life as lives
use Rattle.rx_rules.specs.Looks.{CallRecord, Looks, call_at}
use Rattle.rx_rules.specs.Rules.{AllowedServer, Legal, served_by, served_finish}
use Rattle.rx_rules.specs.Setup.{FitsSetup, IsServer, Setup}
use Rattle.rx_history.proofs.Laws.OnceLaw.{served}
use Rattle.rx_between.proofs.Each.EachEvent.{each_step}
use Rattle.rx_between.proofs.Each.EachStep.{CallStep, LifeStep, Starts, accepted, cancelled, finished, gone, is_acked}
use Rattle.rx_between.proofs.Each.EachStep.{is_busy, is_followed, is_silent, is_stopped, lives_on, read_out}
use Rattle.rx_between.proofs.Grows.{step_grows}

-- ---- a life

-- a step that leads to a handler's good end has it before, or is that finish
pub data FinishedBy (x : Life) (e : Event) (c : CallName) : Type 0 where
  was_finished : x ≡ lives.Finished → FinishedBy x e c
  finishes_now : (code : ℤ) → e ≡ events.Finished c code (Ok tt) → is_zero code ≡ true → x ≡ lives.Accepted
      → FinishedBy x e c

-- the others lead there from there alone
code_from : (code : ℤ) (x : Life) → after_code code x ≡ lives.Finished → x ≡ lives.Finished
code_from code lives.Finished is = refl
code_from code _ is = absurd cc

later_from : (x : Life) → after_later x ≡ lives.Finished → x ≡ lives.Finished
later_from lives.Finished is = refl
later_from _ is = absurd cc

pub acks_from : (all : Bool) (x : Life) → after_acks all x ≡ lives.Finished → x ≡ lives.Finished
acks_from all lives.Finished is = refl
acks_from all _ is = absurd cc

silence_from : (n : ℕ) (x : Life) → after_silence n x ≡ lives.Finished → x ≡ lives.Finished
silence_from n lives.Finished is = refl
silence_from n _ is = absurd cc

accept_from : (x : Life) → after_accept x ≡ lives.Finished → x ≡ lives.Finished
accept_from lives.Finished is = refl
accept_from _ is = absurd cc

gone_from : (x : Life) → after_gone x ≡ lives.Finished → x ≡ lives.Finished
gone_from lives.Finished is = refl
gone_from _ is = absurd cc

end_from : (end : Bool) (x : Life) → after_end end x ≡ lives.Finished → x ≡ lives.Finished
end_from false lives.Calling is = absurd cc
end_from end lives.Finished is = refl
end_from false lives.Waiting is = absurd cc
end_from false (lives.Ended how) is = absurd cc
end_from false lives.Accepted is = absurd cc
end_from false (lives.Broken before) is = absurd cc
end_from false (lives.Over before) is = absurd cc
end_from true _ is = absurd cc

cancel_from : (code : ℤ) (x : Life) → after_cancel code x ≡ lives.Finished → x ≡ lives.Finished
cancel_from code lives.Finished is = refl
cancel_from code _ is = absurd cc

finish_from : (e : Event) (c : CallName) (code : ℤ) (fine : Bool) (x : Life) → e ≡ events.Finished c code (Ok tt)
    → is_zero code ≡ fine → after_finish fine code x ≡ lives.Finished → FinishedBy x e c
finish_from e c code true lives.Accepted event zero_ is = finishes_now code event zero_ refl
finish_from e c code fine lives.Finished event zero_ is = was_finished refl
finish_from e c code true lives.Calling event zero_ is = absurd cc
finish_from e c code true lives.Waiting event zero_ is = absurd cc
finish_from e c code true (lives.Ended end) event zero_ is = absurd cc
finish_from e c code true (lives.Broken before) event zero_ is = absurd cc
finish_from e c code true (lives.Over before) event zero_ is = absurd cc
finish_from e c code false _ event zero_ is = absurd cc

pub finished_by : (s : Setup) (l : Looks) (e : Event) (c : CallName) (b : CallLooks) (x y : Life)
    → LifeStep s l e c b x y
    → y ≡ lives.Finished → FinishedBy x e c
finished_by s l e c b x y (lives_on is) fine = was_finished (sym is ∙ fine)
finished_by s l e c b x y (is_stopped code stops is) fine = was_finished (code_from code x (sym is ∙ fine))
finished_by s l e c b x y (is_busy busy is) fine = was_finished (code_from RX_CALL_DEAD x (sym is ∙ fine))
finished_by s l e c b x y (is_followed later is) fine = was_finished (later_from x (sym is ∙ fine))
finished_by s l e c b x y (is_acked m judges is) fine = was_finished (acks_from (is_delivered b) x (sym is ∙ fine))
finished_by s l e c b x y (is_silent got silence event is) fine = was_finished (silence_from silence x (sym is ∙ fine))
finished_by s l e c b x y (accepted event is) fine = was_finished (accept_from x (sym is ∙ fine))
finished_by s l e c b x y (finished code event is) fine =
    finish_from e c code (is_zero code) x event refl (sym is ∙ fine)
finished_by s l e c b x y (gone code told event is) fine = was_finished (gone_from x (sym is ∙ fine))
finished_by s l e c b x y (read_out most got bytes event is) fine =
    was_finished (end_from (is_end got) x (sym is ∙ fine))
finished_by s l e c b x y (cancelled code event is) fine = was_finished (cancel_from code x (sym is ∙ fine))

-- ---- at every moment of a server

abbrev ReadOf : Option CallRecord → Type 0
ReadOf None = Unit {0}
ReadOf (Some r) = r.life ≡ lives.Finished → r.looks.received.ended ≡ true

-- such a finish is done behind the end alone
finish_read : (s : Setup) (l : Looks) (c : CallName) (code : ℤ) (a : CallRecord)
    → AllowedServer s l (events.Finished c code (Ok tt)) → call_at l c ≡ Some a → a.life ≡ lives.Accepted
    → is_zero code ≡ true → a.looks.received.ended ≡ true
finish_read s l c code a allowed there life zero_ =
    by a.looks.received.ended
    (allowed.1 ∙ ap (λ (o : Option CallRecord). served_finish o code) there
    ∙ ap (λ (x : Life). served_by x (a.looks.received.ended || not (is_zero code)) tt) life
    ∙ ap (λ (z : Bool). served_by lives.Accepted (a.looks.received.ended || not z) tt) zero_)
  where
    by : (b : Bool)
        → ◌≡◌ {A = Result (Unit {0}) ServeRefused} (Ok tt) (served_by lives.Accepted (b || false) tt) → b ≡ true
    by true is = refl
    by false is = absurd cc

starts_read : (s : Setup) (l : Looks) (e : Event) (c : CallName) (b : CallRecord) → Starts s l e c b → ReadOf (Some b)
starts_read s l e c b (named, inl opens) fine =
    absurd (let wrong : lives.Waiting ≡ lives.Finished = sym opens.life ∙ fine in cc (wrong))
starts_read s l e c b (named, inr made) fine =
    absurd (let wrong : lives.Calling ≡ lives.Finished = sym made.life ∙ fine in cc (wrong))

read_of : (s : Setup) (h : List Event) (c : CallName) → IsServer s.kind → FitsSetup s → Legal s h
    → ReadOf (call_at (looks s h) c)
read_of s [] c server fits legal = tt
read_of s (e ∷ h) c server fits legal =
    of (call_at (looks s h) c) (call_at (looks s (e ∷ h)) c) refl (each_step s h e c fits legal)
    (read_of s h c server fits legal.1)
  where
    allowed : AllowedServer s (looks s h) e
    allowed = served s.kind s (looks s h) e server legal.0

    ended : (a b : CallRecord) → call_at (looks s h) c ≡ Some a → FinishedBy a.life e c → ReadOf (Some a)
        → a.looks.received.ended ≡ true
    ended a b there (was_finished is) before = before is
    ended a b there (finishes_now code event zero_ life) before =
        finish_read s (looks s h) c code a (subst (λ (x : Event). AllowedServer s (looks s h) x) event
        allowed) there life
        zero_

    of : (a b : Option CallRecord) → call_at (looks s h) c ≡ a → CallStep s (looks s h) e c a b → ReadOf a → ReadOf b
    of None None there step before = tt
    of None (Some b) there starts before = starts_read s (looks s h) e c b starts
    of (Some a) None there step before = absurd step
    of (Some a) (Some b) there (inl goes) before = λ fine.
        (step_grows s (looks s h) e c a.looks b.looks goes.end).ended
        (ended a b there (finished_by s (looks s h) e c b.looks a.life b.life goes.life fine) before)
    of (Some a) (Some b) there (inr starts) before = starts_read s (looks s h) e c b starts

pub finished_read : (s : Setup) (h : List Event) (c : CallName) (r : CallRecord) → IsServer s.kind → FitsSetup s
    → Legal s h → call_at (looks s h) c ≡ Some r → r.life ≡ lives.Finished → r.looks.received.ended ≡ true
finished_read s h c r server fits legal there = subst ReadOf there (read_of s h c server fits legal)
