-- What one call of a handler or of a caller makes of a stage of a server and one client.
use Rattle.std.proofs.Common.{◌≡◌, ℕ, ℤ, List, Option, Some, None, Result, ap, subst, ◌∙◌, length, take}
use Rattle.rx_model.specs.declared.answers.NotOpen.{NotOpen}
use Rattle.rx_model.specs.declared.answers.ReadAns.{ReadAns}
use Rattle.rx_model.specs.declared.answers.ReadGot.TheVariants as readers
use Rattle.rx_model.specs.declared.answers.ServeRead.{ServeRead}
use Rattle.rx_model.specs.declared.answers.ServeRefused.{ServeRefused}
use Rattle.rx_model.specs.declared.answers.WroteGot.TheVariants as writers
use Rattle.rx_model.specs.declared.event.Event.{Event}
use Rattle.rx_model.specs.declared.event.Event.TheVariants as events
use Rattle.rx_model.specs.declared.event.Noted.{Noted}
use Rattle.rx_model.specs.declared.names.CallName.{CallName}
use Rattle.rx_rules.specs.After.{after}
use Rattle.rx_rules.specs.Looks.{Looks, call_at, is_call}
use Rattle.rx_rules.specs.Rules.{Allowed, accept_answer, can_say, client_read, client_write, done_where, own_call}
use Rattle.rx_rules.specs.Rules.{served_finish, served_read, served_write}
use Rattle.rx_asks.specs.Asks.{Asking, Offers, Shuts, Reads, IsAsked, calling}
use Rattle.rx_asks.specs.View.{CallerState}
use Rattle.rx_jobs.specs.declared.job.TheConstants.{OFFER_BYTES}
use Rattle.rx_jobs.specs.Dispatching.{Turning, dispatching}
use Rattle.rx_jobs.specs.Handlers.{Handlers}
use Rattle.rx_jobs.specs.Jobs.{Ask, IsCall, JobState, accepted}
use Rattle.rx_jobs.specs.Jobs as asks
use Rattle.rx_events.specs.Events.{written_count}
use Rattle.rx_plan.specs.Parts.{To}
use Rattle.rx_plan.specs.Programs.{Turn}
use Rattle.rx_plan.specs.Stages.{InvokedState, Stage, with_event}
use Rattle.rx_rounds.proofs.Making.{turn_over, turn_goes}
use Rattle.rx_rounds.proofs.One.OneCall.{Ends, client_setup, server_setup}
use Rattle.rx_rounds.proofs.Two.{Two, at_client, at_server, two_client, two_server}

-- ---- the dispatcher

-- from here on a turn goes to this end
abbrev pub Serves : Handlers → Turning → Stage → Turning → Stage → Type 0
Serves g v s w t = (es : List Noted) × Turn (dispatching g) 0 v s es (To (w, t))

-- its next call is this event
pub record Serves_ (x : Ends) (g : Handlers) (ls lc : Looks) (cs : List InvokedState) (js : List JobState)
    (v : Turning) (e : Event) (w : Turning) (t : Stage) : Type 0 where
  pub stage : Stage
  pub two : Two x (after (server_setup x) e ls) lc cs js stage
  pub goes : Serves g ((dispatching g).heard v e) stage w t

module _ (x : Ends) (g : Handlers) (ls lc : Looks) (cs : List InvokedState) (js : List JobState) (v w : Turning)
    (s t : Stage) where
  serves_by : (a : Ask) (e : Event) → Two x ls lc cs js s → (dispatching g).asks v ≡ Some a
      → ((f : Event) → IsCall a f → Allowed (server_setup x) ls f → f ≡ e) → Serves g v s w t
      → Serves_ x g ls lc cs js v e w t
  serves_by a e two asked is turn =
      let n = turn_goes (dispatching g) 0 v w a s t turn.0 asked turn.1 in
      let both = at_server x ls lc cs js s ((dispatching g).is a) n.event two n.allowed in
      let same : n.event ≡ e = is n.event both.0 both.1 in
      record {
        stage = with_event 0 e s;
        two = two_server x ls lc cs js s e two;
        goes = (
          n.more,
          subst (λ (f : Event). Turn (dispatching g) 0 ((dispatching g).heard v f)
              (with_event 0 f s) n.more (To (w, t))) same n.rest,
        );
      }

  -- it accepts
  pub serves_accept : Two x ls lc cs js s → (dispatching g).asks v ≡ Some asks.accept → Serves g v s w t
      → Serves_ x g ls lc cs js v (events.Accepted (accept_answer (server_setup x) ls)) w t
  serves_accept two asked turn =
      serves_by asks.accept (events.Accepted (accept_answer (server_setup x) ls)) two asked
      (λ f is allowed. is.1 ∙ ap (λ (got : Option CallName). events.Accepted got)
      (subst (λ (h : Event). Allowed (server_setup x) ls h) is.1 allowed)) turn

  -- it reads
  pub serves_read : (c : CallName) → Two x ls lc cs js s → (dispatching g).asks v ≡ Some (asks.read c)
      → Serves g v s w t
      → Serves_ x g ls lc cs js v (events.HasRead c OFFER_BYTES
      (readers.Server (served_read (call_at ls c) OFFER_BYTES).0) (served_read (call_at ls c) OFFER_BYTES).1) w t
  serves_read c two asked turn =
      serves_by (asks.read c)
      (events.HasRead c OFFER_BYTES (readers.Server (served_read (call_at ls c) OFFER_BYTES).0)
      (served_read (call_at ls c) OFFER_BYTES).1) two asked
      (λ f is allowed. is.2 ∙ ap (λ (r : ServeRead × List ℕ). events.HasRead c OFFER_BYTES (readers.Server r.0) r.1)
      (subst (λ (h : Event). Allowed (server_setup x) ls h) is.2 allowed).1) turn

  -- it writes
  pub serves_write : (c : CallName) (offer : List ℕ) → Two x ls lc cs js s
      → (dispatching g).asks v ≡ Some (asks.write c offer) → Serves g v s w t
      → Serves_ x g ls lc cs js v
      (events.Wrote c (length offer) (writers.Server (served_write (server_setup x) ls (call_at ls c)
      (length offer))) (accepted offer (served_write (server_setup x) ls (call_at ls c) (length offer)))) w t
  serves_write c offer two asked turn =
      serves_by (asks.write c offer)
      (events.Wrote c (length offer) (writers.Server
      (served_write (server_setup x) ls (call_at ls c) (length offer)))
      (accepted offer (served_write (server_setup x) ls (call_at ls c) (length offer)))) two asked
      (λ f is allowed. is.1 ∙ ap (λ (got : Result ℕ ServeRefused). events.Wrote c (length offer) (writers.Server got)
      (accepted offer got))
      (subst (λ (h : Event). Allowed (server_setup x) ls h) is.1 allowed).0) turn

  -- it finishes
  pub serves_finish : (c : CallName) (code : ℤ) → Two x ls lc cs js s
      → (dispatching g).asks v ≡ Some (asks.finish c code) → Serves g v s w t
      → Serves_ x g ls lc cs js v (events.Finished c code (served_finish (call_at ls c) code)) w t
  serves_finish c code two asked turn =
      serves_by (asks.finish c code)
      (events.Finished c code (served_finish (call_at ls c) code)) two asked
      (λ f is allowed. is.1 ∙ ap (λ (got : Result (Unit {0}) ServeRefused). events.Finished c code got)
      (subst (λ (h : Event). Allowed (server_setup x) ls h) is.1 allowed).1) turn

-- it is over
pub serves_over : (g : Handlers) (v w : Turning) (s t : Stage) → (dispatching g).asks v ≡ None → Serves g v s w t
    → (w ≡ v) × (t ≡ s)
serves_over g v w s t none turn = turn_over (dispatching g) 0 v w s t turn.0 none turn.1

-- ---- a caller

abbrev pub Calls : ℕ → CallerState → Stage → CallerState → Stage → Type 0
Calls limit v s w t = (es : List Noted) × Turn (calling limit) 1 v s es (To (w, t))

pub record Calls_ (x : Ends) (limit : ℕ) (ls lc : Looks) (cs : List InvokedState) (js : List JobState)
    (v : CallerState) (e : Event) (w : CallerState) (t : Stage) : Type 0 where
  pub stage : Stage
  pub two : Two x ls (after (client_setup x) e lc) cs js stage
  pub goes : Calls limit ((calling limit).heard v e) stage w t

module _ (x : Ends) (limit : ℕ) (ls lc : Looks) (cs : List InvokedState) (js : List JobState) (v w : CallerState)
    (s t : Stage) (a : Asking) (e : Event) where
  calls_by : Two x ls lc cs js s → (calling limit).asks v ≡ Some a
      → ((f : Event) → IsAsked a f → Allowed (client_setup x) lc f → f ≡ e) → Calls limit v s w t
      → Calls_ x limit ls lc cs js v e w t
  calls_by two asked is turn =
      let n = turn_goes (calling limit) 1 v w a s t turn.0 asked turn.1 in
      let both = at_client x ls lc cs js s ((calling limit).is a) n.event two n.allowed in
      let same : n.event ≡ e = is n.event both.0 both.1 in
      record {
        stage = with_event 1 e s;
        two = two_client x ls lc cs js s e two;
        goes = (
          n.more,
          subst (λ (f : Event). Turn (calling limit) 1 ((calling limit).heard v f)
              (with_event 1 f s) n.more (To (w, t))) same n.rest,
        );
      }

module _ (x : Ends) (lc : Looks) (c : CallName) where
  -- what an offer is answered
  abbrev pub write_got : ℕ → Result ℕ NotOpen
  write_got offered = client_write (client_setup x) lc (own_call lc c) offered

  abbrev pub offer_event : List ℕ → Event
  offer_event block = events.Wrote c (length block) (writers.Client (write_got (length block)))
      (take (written_count (write_got (length block))) block)

  offers_is : (block : List ℕ) (f : Event) → IsAsked (Offers c block) f → Allowed (client_setup x) lc f
      → f ≡ offer_event block
  offers_is block (events.Wrote d offered (writers.Client got) bytes) is allowed =
      ap (λ (n : CallName). events.Wrote n offered (writers.Client got) bytes) is.0
      ∙ ap (λ (k : ℕ). events.Wrote c k (writers.Client got) bytes) is.1
      ∙ ap (λ (bs : List ℕ). events.Wrote c (length block) (writers.Client got) bs) is.2
      ∙ ap (λ (r : Result ℕ NotOpen). events.Wrote c (length block) (writers.Client r) (take (written_count r) block))
      (allowed.0 ∙ ap (λ (n : CallName). client_write (client_setup x) lc (own_call lc n) offered) is.0
      ∙ ap (λ (k : ℕ). client_write (client_setup x) lc (own_call lc c) k) is.1)
  offers_is block _ is allowed = absurd is

  abbrev pub shut_event : Event
  shut_event = events.Shut c (done_where (is_call can_say (own_call lc c)))

  shuts_is : (f : Event) → IsAsked (Shuts c) f → Allowed (client_setup x) lc f → f ≡ shut_event
  shuts_is (events.Shut d got) is allowed =
      ap (λ (n : CallName). events.Shut n got) is
      ∙ ap (λ (r : Result (Unit {0}) NotOpen). events.Shut c r)
      (allowed ∙ ap (λ (n : CallName). done_where (is_call can_say (own_call lc n))) is)
  shuts_is _ is allowed = absurd is

  abbrev pub read_event : ℕ → Event
  read_event max = events.HasRead c max (readers.Client (client_read (own_call lc c) max).0)
      (client_read (own_call lc c) max).1

  reads_is : (max : ℕ) (f : Event) → IsAsked (Reads c max) f → Allowed (client_setup x) lc f → f ≡ read_event max
  reads_is max (events.HasRead d most (readers.Client got) bytes) is allowed =
      ap (λ (n : CallName). events.HasRead n most (readers.Client got) bytes) is.0
      ∙ ap (λ (k : ℕ). events.HasRead c k (readers.Client got) bytes) is.1
      ∙ ap (λ (r : ReadAns × List ℕ). events.HasRead c max (readers.Client r.0) r.1)
      (allowed.1 ∙ ap (λ (n : CallName). client_read (own_call lc n) most) is.0
      ∙ ap (λ (k : ℕ). client_read (own_call lc c) k) is.1)
  reads_is max _ is allowed = absurd is

module _ (x : Ends) (limit : ℕ) (ls lc : Looks) (cs : List InvokedState) (js : List JobState) (v w : CallerState)
    (s t : Stage) (c : CallName) where
  pub calls_offer : (block : List ℕ) → Two x ls lc cs js s → (calling limit).asks v ≡ Some (Offers c block)
      → Calls limit v s w t
      → Calls_ x limit ls lc cs js v (offer_event x lc c block) w t
  calls_offer block two asked turn = calls_by x limit ls lc cs js v w s t (Offers c block)
      (offer_event x lc c block) two asked (offers_is x lc c block) turn

  pub calls_shut : Two x ls lc cs js s → (calling limit).asks v ≡ Some (Shuts c) → Calls limit v s w t
      → Calls_ x limit ls lc cs js v (shut_event x lc c) w t
  calls_shut two asked turn = calls_by x limit ls lc cs js v w s t (Shuts c) (shut_event x lc c) two asked
      (shuts_is x lc c) turn

  pub calls_read : (max : ℕ) → Two x ls lc cs js s → (calling limit).asks v ≡ Some (Reads c max) → Calls limit v s w t
      → Calls_ x limit ls lc cs js v (read_event x lc c max) w t
  calls_read max two asked turn = calls_by x limit ls lc cs js v w s t (Reads c max) (read_event x lc c max) two asked
      (reads_is x lc c max) turn

pub calls_over : (limit : ℕ) (v w : CallerState) (s t : Stage) → (calling limit).asks v ≡ None → Calls limit v s w t
    → (w ≡ v) × (t ≡ s)
calls_over limit v w s t none turn = turn_over (calling limit) 1 v w s t turn.0 none turn.1
