-- A BUSY that a channel of the server owes behind the deliveries of a round is owed at its end.
use Rattle.std.proofs.Common.{◌≡◌, ◌&&◌, cond, ℕ, ℤ, Bool, true, false, List, ◌∷◌, Option, Some, None, Ok, Err, Result}
use Rattle.std.proofs.Common.{sym, subst}
use Rattle.rx_model.specs.declared.answers.ServeRefused.{ServeRefused}
use Rattle.rx_model.specs.declared.answers.ServeRefused.TheVariants as refusals
use Rattle.rx_model.specs.declared.event.Event.{Event}
use Rattle.rx_model.specs.declared.event.Event.TheVariants as events
use Rattle.rx_model.specs.declared.names.CallName.{CallName}
use Rattle.rx_model.specs.Names.{channel_of}
use Rattle.rx_rules.specs.After.{after, finish_done, finished, is_zero, looks, owing_abort, owing_ackall, read_done}
use Rattle.rx_rules.specs.CallLooks.{after_shut}
use Rattle.rx_rules.specs.Life.{is_calling}
use Rattle.rx_rules.specs.Looks.{CallRecord, Looks, call_at, channel_at, is_call, on_channel, on_looks}
use Rattle.rx_rules.specs.Setup.{Setup}
use Rattle.rx_history.specs.Sides.{Node}
use Rattle.rx_events.specs.Events.{IsClocked}
use Rattle.rx_jobs.specs.Handlers.{Handlers}
use Rattle.rx_jobs.specs.Jobs.{Ask, IsCall, accept, finish, read, write}
use Rattle.rx_plan.specs.Stages.{Stage}
use Rattle.rx_rounds.proofs.Rounded.{RoundMade}
use Rattle.rx_closing.specs.Living.{looks_of}
use Rattle.rx_closing.proofs.Messages.OwingStays.{OwesBusy, busy_stays}
use Rattle.rx_closing.proofs.Telling.TurnsKeep.{calls_leave, channel_holds, dispatch_keeps, settles_keeps}

module _ (c : CallName) (number : ℕ) where
  -- the channel of the call owes it
  abbrev pub OwesIt : Looks → Type 0
  OwesIt l = (channel_at l (channel_of c)).owed_busy ≡ Some number

  it_read : (d : CallName) (end : Bool) (bytes : List ℕ) (l : Looks) → OwesIt l → OwesIt (read_done d end bytes l)
  it_read d end bytes l o =
      channel_holds (OwesBusy number) l (channel_of d) (channel_of c)
      (owing_ackall (end && is_call (λ (k : CallRecord). is_calling k.life) (call_at l d)))
      ((busy_stays number).ackall (end && is_call (λ (k : CallRecord). is_calling k.life) (call_at l d))) o

  it_finished : (d : CallName) (code : ℤ) (l : Looks) → OwesIt l → OwesIt (finished d code l)
  it_finished d code l o = of (is_zero code)
    where
      of : (b : Bool)
          → OwesIt (cond b (on_looks d after_shut l) (on_channel (channel_of d) (owing_abort (Some code)) l))
      of true = o
      of false =
          channel_holds (OwesBusy number) l (channel_of d) (channel_of c) (owing_abort (Some code))
          ((busy_stays number).abort (Some code)) o

  it_finish : (d : CallName) (code : ℤ) (got : Result (Unit {0}) ServeRefused) (l : Looks) → OwesIt l
      → OwesIt (finish_done d code got l)
  it_finish d code (Ok done) l o = it_finished d code l o
  it_finish d code (Err (refusals.Gone told)) l o = o
  it_finish d code (Err refusals.NotOpen) l o = o
  it_finish d code (Err refusals.Unread) l o = o

  it_accepted : (s : Setup) (got : Option CallName) (l : Looks) → OwesIt l → OwesIt (after s (events.Accepted got) l)
  it_accepted s (Some d) l o = o
  it_accepted s None l o = o

  -- what a handler asks leaves it owed
  it_asked : (s : Setup) (a : Ask) (e : Event) (l : Looks) → IsCall a e → OwesIt l → OwesIt (after s e l)
  it_asked s accept e l is o =
      subst (λ (f : Event). OwesIt (after s f l)) (sym is.1) (it_accepted s is.0 l o)
  it_asked s (read d) e l is o = subst (λ (f : Event). OwesIt (after s f l)) (sym is.2) (it_read d _ is.1 l o)
  it_asked s (write d offer) e l is o = subst (λ (f : Event). OwesIt (after s f l)) (sym is.1) o
  it_asked s (finish d code) e l is o =
      subst (λ (f : Event). OwesIt (after s f l)) (sym is.1) (it_finish d code is.0 l o)

  -- so does a clock
  it_clocked : (s : Setup) (now : ℕ) (e : Event) (l : Looks) → IsClocked now e → OwesIt l → OwesIt (after s e l)
  it_clocked s now (events.Clocked at) l is o = o
  it_clocked s now _ l is o = absurd is

-- through the turns and the clocks of a round
pub told_round : (c : CallName) (server : Node) (g : Handlers) (s t : Stage) (r : RoundMade g s t)
    → (channel_at (looks_of r.delivered 0 server) (channel_of c)).owed_busy ≡ Some c.number
    → (channel_at (looks_of t 0 server) (channel_of c)).owed_busy ≡ Some c.number
told_round c server g s t r owes =
    settles_keeps Owes asks clocks _ r.called t r.settles_are
    (subst Owes (sym (calls_leave r.served r.called r.calls_are))
    (dispatch_keeps Owes asks clocks g r.delivered r.served r.serves_are owes))
  where
    Owes : List Event → Type 0
    Owes h = OwesIt c c.number (looks server.setup h)

    asks : (h : List Event) (q : Ask) (e : Event) → IsCall q e → OwesIt c c.number (looks server.setup h)
        → OwesIt c c.number (looks server.setup (e ∷ h))
    asks h q e is o = it_asked c c.number server.setup q e (looks server.setup h) is o

    clocks : (h : List Event) (now : ℕ) (e : Event) → IsClocked now e → OwesIt c c.number (looks server.setup h)
        → OwesIt c c.number (looks server.setup (e ∷ h))
    clocks h now e is o = it_clocked c c.number server.setup now e (looks server.setup h) is o
