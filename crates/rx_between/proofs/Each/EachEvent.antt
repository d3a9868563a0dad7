-- What each event makes of each call of a node: exactly one of the steps.
use Rattle.std.proofs.Common.{◌≡◌, ℕ, List, ◌∷◌}
use Rattle.std.proofs.Common.{Option, Some, None, Ok, Err, refl, ◌∙◌, ap, sym}
use Rattle.rx_model.specs.declared.answers.Took.{Took}
use Rattle.rx_model.specs.declared.event.Event.{Event}
use Rattle.rx_model.specs.declared.event.Event.TheVariants as events
use Rattle.rx_model.specs.declared.names.CallName.{CallName}
use Rattle.rx_model.specs.declared.names.Host.{Host}
use Rattle.rx_rules.specs.After.{looks}
use Rattle.rx_rules.specs.After.{linked}
use Rattle.rx_rules.specs.CallLooks.{after_shut}
use Rattle.rx_rules.specs.CallLooks.{after_write}
use Rattle.rx_rules.specs.Items.{poll_answer}
use Rattle.rx_rules.specs.Judging.{took_of}
use Rattle.rx_rules.specs.Life.{after_accept, after_cancel}
use Rattle.rx_rules.specs.Looks.{call_at}
use Rattle.rx_rules.specs.Rules.{Allowed, AllowedAt, Legal}
use Rattle.rx_rules.specs.Setup.{Setup, Kind, Server, Client, FitsSetup}
use Rattle.rx_between.proofs.Each.EachStep.{CallStep, EndStep, Goes, IsBusyBy, IsFollowedBy, IsMade, Judges, LifeStep}
use Rattle.rx_between.proofs.Each.EachStep.{Opens}
use Rattle.rx_between.proofs.Each.EachStep.{Starts, Stops, Takes, TellsCode, ViewOf, is_own, is_start}
use Rattle.rx_between.proofs.Each.EachStep as steps
use Rattle.rx_between.proofs.PollSays.{poll_says}
use Rattle.rx_between.proofs.Each.EachChange.{linked_calls, step_called, step_finish, step_life, step_looks, step_read}
use Rattle.rx_between.proofs.Each.EachChange.{step_same, step_stays}
use Rattle.rx_between.proofs.Each.EachGiven.{step_polled}
use Rattle.rx_between.proofs.Each.EachTaken.{step_taken}

-- ---- each event

module _ (s : Setup) (h : List Event) (c : CallName) (fits : FitsSetup s) (legal : Legal s h) where
  polled_is : (kind : Kind) (got : Option (Host × List ℕ)) → AllowedAt kind s (looks s h) (events.Polled got)
      → got ≡ poll_answer s (looks s h)
  polled_is (Server service nonces) got allowed = allowed
  polled_is (Client host epoch) got allowed = allowed

  taken_is : (kind : Kind) (from : Host) (bytes : List ℕ) (got : Took)
      → AllowedAt kind s (looks s h) (events.Taken from bytes got) → got ≡ took_of s (looks s h) from bytes
  taken_is (Server service nonces) from bytes got allowed = allowed.1
  taken_is (Client host epoch) from bytes got allowed = allowed.1

  by_event : (e : Event) → Allowed s (looks s h) e
      → CallStep s (looks s h) e c (call_at (looks s h) c) (call_at (looks s (e ∷ h)) c)
  by_event (events.Linked to service first (Ok cid)) allowed =
      step_same s (looks s h) c (events.Linked to service first (Ok cid))
      (linked s.kind to service first cid (looks s h))
      (linked_calls s (looks s h) c s.kind to service first cid)
  by_event (events.Linked to service first (Err full)) allowed =
      step_stays s (looks s h) c (events.Linked to service first (Err full)) (call_at (looks s h) c)
  by_event (events.Called cid (Ok d)) allowed = step_called s (looks s h) c cid d
  by_event (events.Called cid (Err refused)) allowed =
      step_stays s (looks s h) c (events.Called cid (Err refused)) (call_at (looks s h) c)
  by_event (events.Wrote d offered got bytes) allowed =
      step_looks s (looks s h) c (events.Wrote d offered got bytes) d (after_write bytes) (looks s h)
      (λ k same there. steps.writes offered got bytes
      (ap (λ (n : CallName). events.Wrote n offered got bytes) (sym same)) refl)
  by_event (events.Shut d (Ok done)) allowed =
      step_looks s (looks s h) c (events.Shut d (Ok done)) d after_shut (looks s h)
      (λ k same there. steps.shuts (ap (λ (n : CallName). events.Shut n (Ok done)) (sym same)) refl)
  by_event (events.Shut d (Err closed)) allowed =
      step_stays s (looks s h) c (events.Shut d (Err closed)) (call_at (looks s h) c)
  by_event (events.HasRead d most got bytes) allowed = step_read s (looks s h) c d most got bytes
  by_event (events.Ended d got) allowed = step_stays s (looks s h) c (events.Ended d got) (call_at (looks s h) c)
  by_event (events.Cancelled d code (Ok done)) allowed =
      step_life s (looks s h) c (events.Cancelled d code (Ok done)) d (after_cancel code) (looks s h)
      (λ k same. steps.cancelled code (ap (λ (n : CallName). events.Cancelled n code (Ok done)) (sym same)) refl)
  by_event (events.Cancelled d code (Err closed)) allowed =
      step_stays s (looks s h) c (events.Cancelled d code (Err closed)) (call_at (looks s h) c)
  by_event (events.Accepted (Some d)) allowed =
      step_life s (looks s h) c (events.Accepted (Some d)) d after_accept (looks s h)
      (λ k same. steps.accepted (ap (λ (n : CallName). events.Accepted (Some n)) (sym same)) refl)
  by_event (events.Accepted None) allowed =
      step_stays s (looks s h) c (events.Accepted None) (call_at (looks s h) c)
  by_event (events.Finished d code got) allowed = step_finish s (looks s h) c d code got
  by_event (events.Taken from bytes got) allowed =
      step_taken s (looks s h) c from bytes got (taken_is s.kind from bytes got allowed)
  by_event (events.Polled got) allowed =
      step_polled s (looks s h) c got
      (λ to bytes m gave reads stream.
      poll_says s h fits legal to bytes m reads stream (sym (polled_is s.kind got allowed) ∙ gave))
  by_event (events.Clocked now) allowed =
      step_stays s (looks s h) c (events.Clocked now) (call_at (looks s h) c)

-- of any legal history
pub each_step : (s : Setup) (h : List Event) (e : Event) (c : CallName) → FitsSetup s → Legal s (e ∷ h)
    → CallStep s (looks s h) e c (call_at (looks s h) c) (call_at (looks s (e ∷ h)) c)
each_step s h e c fits legal = by_event s h c fits legal.1 e legal.0
