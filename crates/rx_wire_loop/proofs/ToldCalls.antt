-- What holds of a call that was made and ended.
use Rattle.std.proofs.Common.{◌≡◌, ◌<◌, ◌^◌, ℕ, true, List, [], ◌++◌, Option, Ok, refl, inl, inr}
use Rattle.std.proofs.Common.{sym, subst}
use Rattle.std.specs.Prelude.{is_some}
use Rattle.rx_asks.specs.History.{Drives}
use Rattle.rx_asks.specs.View.{CallerState, caller_for}
use Rattle.rx_asks.specs.declared.ask.TheConstants.{REPLY_BYTES}
use Rattle.rx_asks.proofs.Driving.{tells_driven}
use Rattle.rx_model.specs.declared.event.Event.{Event}
use Rattle.rx_model.specs.declared.event.Noted.{Noted}
use Rattle.rx_model.specs.declared.names.CallName.{CallName}
use Rattle.rx_model.specs.declared.names.Host.{Host}
use Rattle.rx_rules.specs.Classes.{Class, FitsClass}
use Rattle.rx_rules.specs.Rules.{Legal}
use Rattle.rx_rules.specs.Setup.{FitsLimits, Setup}
use Rattle.rx_wire.specs.Wire.{Logged}
use Rattle.rx_wire.specs.Turns.{HasNotedAll, after_all}
use Rattle.rx_wire.proofs.TurnLaws.{HasNotedAll-append, after_all-append}
use Rattle.rx_wire_loop.specs.declared.calling.CallEnd.TheVariants as call_ends
use Rattle.rx_wire_loop.specs.declared.calling.Calling.{Calling as Words}
use Rattle.rx_wire_loop.specs.Calls.{CallCame, CallEnds, CallIs, CallMade, CallTerms, Calls, CallsBound}
use Rattle.rx_wire_loop.specs.Calls.{IsCut, IsEnded, IsSpent, begins, call_terms, client_setup}
use Rattle.rx_wire_loop.specs.Parts.{Place, To, behind}
use Rattle.rx_wire_loop.specs.Tells.{Gains, Told}
use Rattle.rx_wire_loop.specs.ToldCalls.{CallTold, CallsTell}
use Rattle.rx_wire_loop.proofs.Driving.{call_begun, call_ended}

-- a call that ended is one whose passes ended so
by_came : (t : CallTerms) (v u : CallerState) (p : Place) (es : List Event) (ls : List Logged) (before after : Told)
    (came : CallCame) → Calls t v p es ls came → CallEnds 1 (Ok (call_ends.Ended u)) came before after es ls
    → Calls t v p es ls (IsEnded u) × Gains 1 before after es ls
by_came t v u p es ls before after (IsEnded x) made told =
    (subst (λ (y : CallerState). Calls t v p es ls (IsEnded y)) (sym told.0) made, told.1)
by_came t v u p es ls before after IsSpent made told = absurd told
by_came t v u p es ls before after (IsCut why) made told = absurd told

module _ (w : Words) (request : List ℕ) (class : Class) (v : CallerState) (before after : Told)
    (epoch : w.epoch < 2 ^ 32) (limits : FitsLimits w.limits) (fits : FitsClass class) where
  -- it was begun, and passes were made
  made_told : (host : Host) (bound between : Told) (name : CallName) (es : List Event) (ls : List Logged)
      → bound.noted ≡ before.noted
      → begins w (record { history = []; now = bound.wire.moment }) es ls (To name) → Gains 1 bound between es ls
      → CallMade (call_terms w (client_setup w class host)) (caller_for name request)
      (behind es ls (record { history = []; now = bound.wire.moment })) (Ok (call_ends.Ended v)) between after
      → CallTold w request class v before after
  made_told host bound between name es ls same begins_so gains made =
      record {
        host = host;
        events = es ++ made.events;
        noted = HasNotedAll-append before.noted between.noted after.noted 1 es made.events
            (subst (λ (old : Option (List Noted)). HasNotedAll old between.noted 1 es) same gains.noted) came.1.noted;
        legal = legal;
        finished = ended.0;
        tells = tells_driven s host w.epoch REPLY_BYTES request v (after_all (es ++ made.events) []) refl
            (record { kind = epoch; limits = limits; class = fits }) legal
            (subst (λ (h : List Event). Drives REPLY_BYTES request v h) (sym joined) ended.1);
      }
    where
      s : Setup
      s = client_setup w class host

      start : Place
      start = record { history = []; now = bound.wire.moment }

      came : Calls (call_terms w s) (caller_for name request) (behind es ls start) made.events made.log (IsEnded v)
          × Gains 1 between after made.events made.log
      came =
          by_came (call_terms w s) (caller_for name request) v (behind es ls start) made.events made.log between after
          made.came made.calls made.ends

      ended : (is_some v.end ≡ true) × Drives REPLY_BYTES request v (after_all made.events (after_all es []))
      ended =
          call_ended request (call_terms w s) (caller_for name request) (behind es ls start) made.events made.log v
          (call_begun request w start es ls name tt begins_so) came.0

      joined : after_all (es ++ made.events) [] ≡ after_all made.events (after_all es [])
      joined = after_all-append es made.events []

      legal : Legal s (after_all (es ++ made.events) [])
      legal = subst (Legal s) (sym joined) made.legal

  bound_told : (host : Host) (bound : Told) → bound.noted ≡ before.noted
      → CallsBound w request (client_setup w class host) (Ok (call_ends.Ended v)) bound after
      → CallTold w request class v before after
  bound_told host bound same (inl wants) = absurd (cc (wants.0))
  bound_told host bound same (inr (inl refused)) = absurd (cc (refused.0))
  bound_told host bound same (inr (inr b)) = made_told host bound b.3 b.0 b.1 b.2 same b.4 b.5 b.6

  told_of : CallIs w request class (Ok (call_ends.Ended v)) before after → CallTold w request class v before after
  told_of (inl nothing) = absurd (cc (nothing.result_is))
  told_of (inr c) = bound_told c.0 c.1 c.2 c.7

-- each call that ended is told
pub call_told : CallsTell
call_told w request class v before after epoch limits fits is =
    told_of w request class v before after epoch limits fits is
