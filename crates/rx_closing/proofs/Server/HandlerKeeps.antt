-- No event of a server but an accept and a finish of a call changes whether a handler has it.
use Rattle.std.proofs.Common.{◌≡◌, inl, inr, ◌∷◌, ℤ, Bool, true, false, List, refl, ap, sym, ◌∙◌, Option, Some, None}
use Rattle.std.proofs.Common.{Result, Ok, Err}
use Rattle.rx_model.specs.declared.answers.ServeRefused.{ServeRefused}
use Rattle.rx_model.specs.declared.answers.ServeRefused.TheVariants as refusals
use Rattle.rx_model.specs.declared.event.Event.{Event}
use Rattle.rx_model.specs.declared.event.Event.TheVariants as events
use Rattle.rx_model.specs.declared.names.CallName.{CallName}
use Rattle.rx_model.specs.declared.wire.TheConstants.{RX_CALL_DEAD}
use Rattle.rx_rules.specs.After.{is_end, looks}
use Rattle.rx_rules.specs.CallLooks.{CallLooks, is_delivered}
use Rattle.rx_rules.specs.Life.{Life, after_acks, after_cancel, after_code, after_end, after_later, after_silence}
use Rattle.rx_rules.specs.Life.{is_handled}
use Rattle.rx_rules.specs.Life as lives
use Rattle.rx_rules.specs.Looks.{CallRecord, Looks, call_at, is_call}
use Rattle.rx_rules.specs.Rules.{Legal}
use Rattle.rx_rules.specs.Setup.{FitsSetup, IsServer, Setup}
use Rattle.rx_history.specs.Starts.{StartsOnce}
use Rattle.rx_between.proofs.Each.EachEvent.{each_step}
use Rattle.rx_between.proofs.Each.EachStep.{CallStep, LifeStep, Starts, accepted as life_accepted, cancelled}
use Rattle.rx_between.proofs.Each.EachStep.{finished as life_finished, gone as life_gone, is_acked, is_busy}
use Rattle.rx_between.proofs.Each.EachStep.{is_followed}
use Rattle.rx_between.proofs.Each.EachStep.{is_silent, is_stopped, lives_on, read_out}
use Rattle.rx_between.proofs.Onward.{server_anew}

-- ---- whether a handler has a call

abbrev pub has_handler : Option CallRecord → Bool
has_handler o = is_call (λ r. is_handled r.life) o

-- a step of its life that is neither its accept nor its finish leaves that
life_keeps : (s : Setup) (l : Looks) (e : Event) (c : CallName) (b : CallLooks) (x y : Life) → LifeStep s l e c b x y
    → (e ≡ events.Accepted (Some c) → ⊥) → ((code : ℤ) (got : Result (Unit {0}) ServeRefused)
    → e ≡ events.Finished c code got → ⊥) → is_handled y ≡ is_handled x
life_keeps s l e c b x y (lives_on is) no_accept no_finish = ap is_handled is
life_keeps s l e c b x y (is_stopped code stops is) no_accept no_finish = ap is_handled is ∙ by x
  where
    by : (z : Life) → is_handled (after_code code z) ≡ is_handled z
    by lives.Calling = refl
    by (lives.Ended end) = refl
    by lives.Waiting = refl
    by lives.Accepted = refl
    by lives.Finished = refl
    by (lives.Broken before) = refl
    by (lives.Over before) = refl
life_keeps s l e c b x y (is_busy busy is) no_accept no_finish = ap is_handled is ∙ by x
  where
    by : (z : Life) → is_handled (after_code RX_CALL_DEAD z) ≡ is_handled z
    by lives.Calling = refl
    by (lives.Ended end) = refl
    by lives.Waiting = refl
    by lives.Accepted = refl
    by lives.Finished = refl
    by (lives.Broken before) = refl
    by (lives.Over before) = refl
life_keeps s l e c b x y (is_followed later is) no_accept no_finish = ap is_handled is ∙ by x
  where
    by : (z : Life) → is_handled (after_later z) ≡ is_handled z
    by lives.Waiting = refl
    by lives.Finished = refl
    by z = refl
life_keeps s l e c b x y (is_acked m judges is) no_accept no_finish = ap is_handled is ∙ by x (is_delivered b)
  where
    by : (z : Life) (all : Bool) → is_handled (after_acks all z) ≡ is_handled z
    by lives.Finished true = refl
    by lives.Finished false = refl
    by z all = refl
life_keeps s l e c b x y (is_silent got silence event is) no_accept no_finish = ap is_handled is ∙ by x
  where
    by : (z : Life) → is_handled (after_silence silence z) ≡ is_handled z
    by lives.Calling = refl
    by (lives.Ended end) = refl
    by lives.Waiting = refl
    by lives.Accepted = refl
    by lives.Finished = refl
    by (lives.Broken before) = refl
    by (lives.Over before) = refl
life_keeps s l e c b x y (life_accepted event is) no_accept no_finish = absurd (no_accept event)
life_keeps s l e c b x y (life_finished code event is) no_accept no_finish = absurd (no_finish code (Ok tt) event)
life_keeps s l e c b x y (life_gone code told event is) no_accept no_finish =
    absurd (no_finish code (Err (refusals.Gone told)) event)
life_keeps s l e c b x y (read_out most got bytes event is) no_accept no_finish = ap is_handled is ∙ by x (is_end got)
  where
    by : (z : Life) (end : Bool) → is_handled (after_end end z) ≡ is_handled z
    by lives.Calling true = refl
    by z true = refl
    by z false = refl
life_keeps s l e c b x y (cancelled code event is) no_accept no_finish = ap is_handled is ∙ by x
  where
    by : (z : Life) → is_handled (after_cancel code z) ≡ is_handled z
    by lives.Calling = refl
    by z = refl

-- nor does any other event of a server change it
pub handler_keeps : (s : Setup) (h : List Event) (e : Event) (c : CallName) → IsServer s.kind → FitsSetup s
    → Legal s (e ∷ h)
    → StartsOnce s (e ∷ h) c → (e ≡ events.Accepted (Some c) → ⊥)
    → ((code : ℤ) (got : Result (Unit {0}) ServeRefused) → e ≡ events.Finished c code got → ⊥)
    → has_handler (call_at (looks s (e ∷ h)) c) ≡ has_handler (call_at (looks s h) c)
handler_keeps s h e c server fits legal once no_accept no_finish =
    of (call_at (looks s h) c) (call_at (looks s (e ∷ h)) c) refl (each_step s h e c fits legal)
  where
    waits_first : (b : CallRecord) → Starts s (looks s h) e c b → is_handled b.life ≡ false
    waits_first b (named, inl opens) = ap is_handled opens.life
    waits_first b (named, inr made) = ap is_handled made.life

    of : (a b : Option CallRecord) → call_at (looks s h) c ≡ a → CallStep s (looks s h) e c a b
        → has_handler b ≡ has_handler a
    of None None is step = refl
    of None (Some b) is starts = waits_first b starts
    of (Some a) None is step = absurd step
    of (Some a) (Some b) is (inl goes) =
        life_keeps s (looks s h) e c b.looks a.life b.life goes.life no_accept no_finish
    of (Some a) (Some b) is (inr starts) =
        absurd (let none : ◌≡◌ {A = Option CallRecord} (Some a) None =
        sym is ∙ server_anew s e h c server legal once.0 b starts in cc (none))
