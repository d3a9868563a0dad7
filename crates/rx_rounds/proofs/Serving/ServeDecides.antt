-- What a dispatcher's job does in a turn behind the end of its request: it waits, or writes the reply that is served,
-- or finishes with its code.
use Rattle.std.proofs.Common.{◌≡◌, ◌≢◌, ◌<◌, ◌||◌, if◌then◌else◌, not, ℕ, ℤ, pos, negsuc, suc, zero, Bool, true, false}
use Rattle.std.proofs.Common.{List, []}
use Rattle.std.proofs.Common.{◌∷◌, refl, ap, sym, subst, ◌∙◌, Option, Some, None, Ok, length, nat_lt, arith}
use Rattle.std.proofs.lemmas.Bool.{ltb-true, or_right}
use Rattle.rx_model.proofs.NameLaws.{number_itself}
use Rattle.rx_model.specs.declared.event.Event.{Event}
use Rattle.rx_model.specs.declared.event.Event.TheVariants as events
use Rattle.rx_model.specs.declared.names.CallName.{CallName}
use Rattle.rx_model.specs.Spelling.{IsCode}
use Rattle.rx_rules.specs.After.{after, is_zero}
use Rattle.rx_rules.specs.CallLooks.{CallLooks}
use Rattle.rx_rules.specs.Life as lives
use Rattle.rx_rules.specs.Looks.{CallRecord, Looks, call_at, fresh_channel}
use Rattle.rx_rules.specs.Rules.{Allowed, served_finish}
use Rattle.rx_script.specs.Served.{Served, bytes, refusal}
use Rattle.rx_jobs.specs.declared.job.Phase.TheVariants as phases
use Rattle.rx_jobs.specs.Dispatching.{Turning, over, dispatching, settle}
use Rattle.rx_jobs.specs.Handlers.{Handlers, early_code, served_for, wait_of}
use Rattle.rx_jobs.specs.Jobs.{JobState, begun, coded, decided, settled, settled_by, waited}
use Rattle.rx_jobs.specs.Jobs as asks
use Rattle.rx_jobs.proofs.EarlyLaws.{early_served}
use Rattle.rx_plan.specs.Stages.{InvokedState, Stage}
use Rattle.rx_rounds.proofs.Between.{server_at}
use Rattle.rx_rounds.proofs.Making.{turn_goes}
use Rattle.rx_rounds.proofs.One.OneCall.{Ends, Link, from_server, node_of, server_setup, the_call}
use Rattle.rx_rounds.proofs.One.OneSteps.{call_is}
use Rattle.rx_rounds.proofs.Serving.ServeWrites.{CanWrite, Written, writes_out}
use Rattle.rx_rounds.proofs.Turned.{Serves, Serves_, serves_finish, serves_over}
use Rattle.rx_rounds.proofs.Two.{Two, at_server, two_as}

-- a code that isn't 0 is no good end
pub no_zero : (code : ℤ) → code ≢ pos 0 → is_zero code ≡ false
no_zero (pos zero) some = absurd (some refl)
no_zero (pos (suc n)) some = refl
no_zero (negsuc n) some = refl

-- the server, whose handler finished with a code: it owes an ABORT
abbrev pub owing_code : Ends → ℤ → ℕ → ℕ → Link
owing_code x code given used =
    record (from_server x given used) { channel = record (fresh_channel x.first) { owed_abort = Some code } }

abbrev pub refused_at : Ends → ℤ → ℕ → ℕ → ℕ → CallLooks → Looks
refused_at x code given used now k =
    node_of x (owing_code x code given used) (the_call x ∷ []) now (lives.Over (Some code)) k

pub server_refused : (x : Ends) (now given used : ℕ) (code : ℤ) (k : CallLooks) → is_zero code ≡ false
    → after (server_setup x) (events.Finished (the_call x) code (Ok tt)) (server_at x given used now lives.Accepted k)
    ≡ refused_at x code given used now k
server_refused x now given used code k open_ =
    simp (
      open_,
      number_itself x.client.addr,
      number_itself x.client.port,
      number_itself x.epoch,
      number_itself
          x.first,
    ) refl

module _ (x : Ends) (g : Handlers) (lc : Looks) (cs : List InvokedState) (js : List JobState) (now given used : ℕ) where
  abbrev c : CallName
  c = the_call x

  -- a job that decided a code finishes with it
  pub finishes_with : (j : JobState) (code : ℤ) (k : CallLooks) (s t : Stage) (w : Turning) → j.call ≡ c
      → code ≢ pos 0
      → Two x (server_at x given used now lives.Accepted k) lc cs js s
      → Serves g (settle g [] (record { job = coded code j; phase = phases.Moves }) []) s w t
      → Two x (refused_at x code given used now k) lc cs js t × (w ≡ over []) × IsCode code
  finishes_with j code k s t w own some two goes =
      let open_ : is_zero code ≡ false = no_zero code some in
      let v : Turning = settle g [] (record { job = coded code j; phase = phases.Moves }) [] in
      let asked : (dispatching g).asks v ≡ Some (asks.finish c code) = rw (open_, own) refl in
      let e : Event = events.Finished c code (Ok tt) in
      let fine : (k.received.ended || not (is_zero code)) ≡ true = or_right k.received.ended (not (is_zero code))
      (ap not open_) in
      let is : events.Finished c code (served_finish (call_at (server_at x given used now lives.Accepted k) c) code) ≡
      e =
      ap (λ (o : Option CallRecord). events.Finished c code (served_finish o code))
      (call_is x (from_server x given used) (c ∷ []) now lives.Accepted k)
      ∙ rw fine refl in
      let n = turn_goes (dispatching g) 0 v w (asks.finish c code) s t goes.0 asked goes.1 in
      let both = at_server x (server_at x given used now lives.Accepted k) lc cs js s
      ((dispatching g).is (asks.finish c code)) n.event two n.allowed in
      let allowed : Allowed (server_setup x) (server_at x given used now lives.Accepted k)
      (events.Finished c code both.0.0) = subst
      (λ (q : Event). Allowed (server_setup x) (server_at x given used now lives.Accepted k) q) both.0.1 both.1 in
      let i = subst (λ (q : Event). Serves_ x g (server_at x given used now lives.Accepted k) lc cs js v q w t) is
      (serves_finish x g (server_at x given used now lives.Accepted k) lc cs js v w s t c code two asked goes) in
      let o = serves_over g (over []) w i.stage t refl i.goes in (
        two_as x (after (server_setup x) e (server_at x given used now lives.Accepted k)) lc
            (refused_at x code given used now k) lc cs js i.stage t (server_refused x now given used code k open_)
            refl (sym o.1) i.two,
        o.0,
        allowed.0,
      )

  -- a job whose request was read to its end
  abbrev pub ended_job : List ℕ → ℕ → JobState
  ended_job kept steps = record (begun (the_call x)) { request = kept; ended = true; steps = steps }

  -- how its turn goes: it waits; it writes the reply; or it finished with a code
  pub data Decided (kept : List ℕ) (steps : ℕ) (k : CallLooks) (w : Turning) (t : Stage) : Type 0 where
    waits_on : steps < wait_of g kept → early_code g kept true ≡ None
        → Two x (server_at x given used now lives.Accepted k) lc cs js t → w ≡ over (ended_job kept steps ∷ [])
        → Decided kept steps k w t
    replies : (reply : List ℕ) (since : ℕ) → served_for g kept ≡ bytes reply
        → Written x g lc cs js now given used kept since 0 k reply w t → Decided kept steps k w t
    refuses : (code : ℤ) → served_for g kept ≡ refusal code → code ≢ pos 0 → IsCode code
        → Two x (refused_at x code given used now k) lc cs js t → w ≡ over [] → Decided kept steps k w t

  module _ (kept : List ℕ) (coded_some : (code : ℤ) → served_for g kept ≡ refusal code → code ≢ pos 0)
      (before steps : ℕ) (k : CallLooks) (can : CanWrite 0 k) (s t : Stage) (w : Turning)
      (two : Two x (server_at x given used now lives.Accepted k) lc cs js s) where
    abbrev Onward : JobState → Type 0
    Onward j = Serves g (settle g [] (record { job = j; phase = phases.Moves }) []) s w t

    by_served : (v : Served) → served_for g kept ≡ v → Onward (decided v (ended_job kept before))
        → Decided kept steps k w t
    by_served (refusal code) is goes =
        let some : code ≢ pos 0 = coded_some code is in
        let f = finishes_with (ended_job kept before) code k s t w refl some two goes in
        refuses code is some f.2 f.0 f.1
    by_served (bytes reply) is goes =
        replies reply before is
        (writes_out x g lc cs js now given used kept before (length reply) 0 k reply s t w (omega arith) can
        (two, goes))

    by_wait : (b : Bool) → nat_lt steps (wait_of g kept) ≡ b → early_code g kept true ≡ None
        → Onward (if b then record (ended_job kept before) { steps = steps }
        else decided (served_for g kept) (ended_job kept before)) → Decided kept steps k w t
    by_wait true less none goes =
        let o = serves_over g (over (ended_job kept steps ∷ [])) w s t refl goes in
        waits_on (ltb-true steps (wait_of g kept) less) none
        (subst (λ (u : Stage). Two x (server_at x given used now lives.Accepted k) lc cs js u) (sym o.1) two) o.0
    by_wait false last none goes = by_served (served_for g kept) refl goes

    by_code : (o : Option ℤ) → early_code g kept true ≡ o → Onward (settled_by g steps (ended_job kept before) o)
        → Decided kept steps k w t
    by_code (Some code) is goes =
        let served : served_for g kept ≡ refusal code = early_served g kept code is in
        let f = finishes_with (ended_job kept before) code k s t w refl (coded_some code served) two goes in
        refuses code served (coded_some code served) f.2 f.0 f.1
    by_code None is goes = by_wait (nat_lt steps (wait_of g kept)) refl is goes

    -- behind so many steps
    pub decides_then : Onward (settled g steps (ended_job kept before)) → Decided kept steps k w t
    decides_then goes = by_code (early_code g kept true) refl goes
