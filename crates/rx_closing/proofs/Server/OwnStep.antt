-- What the step of a job that decided makes of its own call: it writes as much as there is room for; or it finishes.
use Rattle.std.proofs.Common.{◌≡◌, inl, inr, ◌<◌, ◌≤◌, ◌==◌, ◌&&◌, ◌||◌, cond, not, min, ℕ, ℤ, pos, Bool, true, false}
use Rattle.std.proofs.Common.{List, [], length, take, drop, refl, ap, sym, subst, ◌∙◌, Option, Some, None, option_map}
use Rattle.std.proofs.Common.{Result, Ok, arith, nat_lt, length-take, length-drop, is_some}
use Rattle.std.proofs.lemmas.Bool.{cases_lt, eqb-false, ltb-true}
use Rattle.std.proofs.lemmas.List.{length-append}
use Rattle.rx_model.specs.declared.answers.ServeRefused.{ServeRefused}
use Rattle.rx_model.specs.declared.answers.WroteGot.TheVariants as writers
use Rattle.rx_model.specs.declared.event.Event.{Event}
use Rattle.rx_model.specs.declared.event.Event.TheVariants as events
use Rattle.rx_model.specs.declared.names.CallName.{CallName}
use Rattle.rx_model.specs.Names.{same_name}
use Rattle.rx_rules.specs.After.{after, is_zero, looks}
use Rattle.rx_rules.specs.CallLooks.{CallLooks, after_shut, after_write}
use Rattle.rx_rules.specs.Life.{is_active}
use Rattle.rx_rules.specs.Life as lives
use Rattle.rx_rules.specs.Looks.{CallRecord, Looks, on_looks}
use Rattle.rx_rules.specs.Received.{is_complete, unread_of}
use Rattle.rx_rules.specs.Rules.{served_by}
use Rattle.rx_rules.specs.Sent.{opened}
use Rattle.rx_rules.specs.Setup.{Kind, Server, Client, IsServer, is_client}
use Rattle.rx_rules.specs.Slots.{room}
use Rattle.rx_history.proofs.Differ.{every_found}
use Rattle.rx_history.proofs.LifeFalls.{is_begun}
use Rattle.rx_history.proofs.Suffice.{roomy_history}
use Rattle.rx_history.proofs.Room.Tight.{TightOf}
use Rattle.rx_history.specs.Sides.{Node, side}
use Rattle.rx_script.specs.Served.{Served, refusal, bytes}
use Rattle.rx_jobs.specs.declared.job.Phase.TheVariants as phases
use Rattle.rx_jobs.specs.declared.job.TheConstants.{OFFER_BYTES}
use Rattle.rx_jobs.specs.declared.job.Want.TheVariants as wants
use Rattle.rx_jobs.specs.Dispatching.{left}
use Rattle.rx_jobs.specs.Handlers.{Handlers, early_code, served_for, wait_of}
use Rattle.rx_events.specs.Joint.{IsAllowedAt}
use Rattle.rx_jobs.specs.Jobs.{Ask, IsCall, JobState, Moving, accepted, ask_of, coded_want, decided, heard, next_want}
use Rattle.rx_jobs.specs.Jobs.{serving, settled, settled_by, waits}
use Rattle.rx_jobs.specs.Jobs as asks
use Rattle.rx_plan.specs.Stages.{IsAllowedNext, Stage, with_event}
use Rattle.rx_closing.proofs.Ends.RoomLaws.{room_spent}
use Rattle.rx_closing.proofs.Server.JobSteps.{StepGoes, some_ask, step_rests}
use Rattle.rx_closing.proofs.Server.OwnEvents.{At, finish_at, finish_got, step_induct, write_at, write_got}
use Rattle.rx_closing.proofs.Steps.{TurnsOn, turns_none, turns_shut, turns_write}

-- ---- a job that waits behind the end of its request

-- where it decided it waits no more
coded_over : (ended : Bool) (code : ℤ) → (ended && not (is_some (Some code))) ≡ true → ⊥
coded_over true code wrong = cc
coded_over false code wrong = cc

-- where it waits on so many steps are counted, fewer than its script has it wait
pub settled_is : (g : Handlers) (steps : ℕ) (j : JobState) → waits (settled g steps j) ≡ true
    → (settled g steps j ≡ record j { steps = steps }) × (steps < wait_of g j.request)
settled_is g steps j = by (early_code g j.request true)
  where
    Is : JobState → Type 0
    Is i = waits i ≡ true → (i ≡ record j { steps = steps }) × (steps < wait_of g j.request)

    by_wait : (b : Bool) → nat_lt steps (wait_of g j.request) ≡ b
        → Is (cond b (record j { steps = steps }) (decided (served_for g j.request) j))
    by_wait true less still = (refl, ltb-true steps (wait_of g j.request) less)
    by_wait false less still = absurd (not_served (served_for g j.request) still)
      where
        not_served : (x : Served) → waits (decided x j) ≡ true → ⊥
        not_served (refusal code) still = coded_over j.ended code still
        not_served (bytes out) still = coded_over j.ended (pos 0) still

    by : (o : Option ℤ) → Is (settled_by g steps j o)
    by (Some code) still = absurd (coded_over j.ended code still)
    by None still = by_wait (nat_lt steps (wait_of g j.request)) refl still

-- what it is that is settled
pub record SettledAs (j i : JobState) : Type 0 where
  pub call : i.call ≡ j.call
  pub ended : i.ended ≡ j.ended

pub settled_as : (g : Handlers) (steps : ℕ) (j : JobState) → SettledAs j (settled g steps j)
settled_as g steps j = by (early_code g j.request true)
  where
    by_served : (x : Served) → SettledAs j (decided x j)
    by_served (refusal code) = record { call = refl; ended = refl }
    by_served (bytes out) = record { call = refl; ended = refl }

    by_wait : (b : Bool) → SettledAs j (cond b (record j { steps = steps }) (decided (served_for g j.request) j))
    by_wait true = record { call = refl; ended = refl }
    by_wait false = by_served (served_for g j.request)

    by : (o : Option ℤ) → SettledAs j (settled_by g steps j o)
    by (Some code) = record { call = refl; ended = refl }
    by None = by_wait (nat_lt steps (wait_of g j.request))

-- a job whose request ended waits, or decided a code
pub data WaitsOr (j : JobState) : Type 0 where
  still_waits : waits j ≡ true → j.code ≡ None → WaitsOr j
  has_decided : (code : ℤ) → j.code ≡ Some code → WaitsOr j

pub waits_or : (j : JobState) → j.ended ≡ true → WaitsOr j
waits_or j ended = by j.code refl
  where
    by : (o : Option ℤ) → j.code ≡ o → WaitsOr j
    by None is =
        still_waits (ap (λ (b : Bool). b && not (is_some j.code)) ended ∙ ap (λ (o : Option ℤ). not (is_some o)) is) is
    by (Some code) is = has_decided code is

-- one that waits read the end, and decided nothing
pub waits_none : (j : JobState) → waits j ≡ true → (j.ended ≡ true) × (j.code ≡ None)
waits_none j still = by j.ended j.code still
  where
    by : (b : Bool) (o : Option ℤ) → (b && not (is_some o)) ≡ true → (b ≡ true) × (o ≡ None)
    by true None is = (refl, refl)
    by true (Some code) is = absurd cc
    by false None is = absurd cc
    by false (Some code) is = absurd cc

-- ---- what it asks

pub asked_is : (g : Handlers) (j : JobState) (o : Option ℤ) → j.code ≡ o
    → (serving g).asks (record { job = j; phase = phases.Moves }) ≡ option_map (ask_of j) (next_want j o)
asked_is g j o is = ap (λ (p : Option ℤ). option_map (ask_of j) (next_want j p)) is

module _ (g : Handlers) (node : Node) (serves : IsServer node.setup.kind) (c : CallName) (now : ℕ) where
  abbrev l : Stage → Looks
  l s = looks node.setup (side 0 s.history)

  abbrev Here : Stage → lives.Life → CallLooks → Type 0
  Here s x k = At node serves c now s x k

  abbrev moves : JobState → Moving
  moves j = record { job = j; phase = phases.Moves }

  abbrev rests : JobState → Moving
  rests j = record { job = j; phase = phases.Rests }

  abbrev gone : JobState → Moving
  gone j = record { job = j; phase = phases.Gone }

  -- a job that decided a code
  pub record Decided (k : CallLooks) (j : JobState) (code : ℤ) : Type 0 where
    pub own : j.call ≡ c
    pub coded : j.code ≡ Some code
    pub read : is_zero code ≡ true → (j.ended ≡ true) × (k.received.ended ≡ true)
    pub known : k.sent.acked ≤ opened (length k.sent.said)

  -- a job that reads
  pub record Reading (k : CallLooks) (j : JobState) : Type 0 where
    pub own : j.call ≡ c
    pub none : j.code ≡ None
    pub going : j.ended ≡ false
    pub more : k.received.ended ≡ false
    pub known : k.sent.acked ≤ opened (length k.sent.said)

  -- a job that fits what passed at the server's end
  pub record Fits (k : CallLooks) (j : JobState) : Type 0 where
    pub own : j.call ≡ c
    pub ended : j.ended ≡ k.received.ended
    pub zero_ : (code : ℤ) → j.code ≡ Some code → is_zero code ≡ true → j.ended ≡ true

  -- how its step ends
  pub data StepEnds (k : CallLooks) (n : Moving) (t : Stage) : Type 0 where
    reads_on : (f : CallLooks) (j : JobState) → TurnsOn now k f → Here t lives.Accepted f → n ≡ rests j → j.call ≡ c
        → j.ended ≡ false → j.code ≡ None → f.received.ended ≡ false → unread_of f.received ≡ []
        → is_complete f.received ≡ false → StepEnds k n t
    waits_first : (f : CallLooks) (j : JobState) → TurnsOn now k f → Here t lives.Accepted f → n ≡ moves j → j.call ≡ c
        → j.ended ≡ true → j.code ≡ None → f.received.ended ≡ true → j.steps < wait_of g j.request
        → k.received.ended ≡ false → StepEnds k n t
    writes_on : (f : CallLooks) (j : JobState) (code : ℤ) → TurnsOn now k f → Here t lives.Accepted f → n ≡ rests j
        → j.call ≡ c → j.ended ≡ true → j.code ≡ Some code → is_zero code ≡ true → f.received.ended ≡ true
        → 0 < length j.reply → room node.setup (l t) f ≡ 0 → StepEnds k n t
    finishes : (f : CallLooks) → TurnsOn now k f → Here t lives.Finished f → f.sent.shut ≡ true
        → f.received.ended ≡ true → left n ≡ [] → StepEnds k n t
    refuses : (f : CallLooks) (code : ℤ) → TurnsOn now k f → Here t (lives.Over (Some code)) f → left n ≡ []
        → StepEnds k n t

  -- behind an event of the step
  pub ends_behind : (k k2 : CallLooks) (n : Moving) (t : Stage) → ((f : CallLooks) → TurnsOn now k2 f → TurnsOn now k f)
      → (k2.received.ended ≡ false → k.received.ended ≡ false) → StepEnds k2 n t → StepEnds k n t
  ends_behind k k2 n t on same (reads_on f j turns at is own going none more all incomplete) =
      reads_on f j (on f turns) at is own going none more all incomplete
  ends_behind k k2 n t on same (waits_first f j turns at is own ended none whole less since) =
      waits_first f j (on f turns) at is own ended none whole less (same since)
  ends_behind k k2 n t on same (writes_on f j code turns at is own ended coded zero_ whole some full) =
      writes_on f j code (on f turns) at is own ended coded zero_ whole some full
  ends_behind k k2 n t on same (finishes f turns at shut whole none) = finishes f (on f turns) at shut whole none
  ends_behind k k2 n t on same (refuses f code turns at none) = refuses f code (on f turns) at none

  -- ---- a job that decided

  -- an accepted call isn't shut
  unshut : (s : Stage) (k : CallLooks) → Here s lives.Accepted k → k.sent.shut ≡ false
  unshut s k at =
      let tight : TightOf (is_client node.setup.kind) at.call =
      every_found (TightOf (is_client node.setup.kind)) (λ (r : CallRecord). same_name r.name c) (l s).calls at.call
      (roomy_history node.setup (side 0 s.history) at.legal).tight at.there in
      ap (λ (j : CallLooks). j.sent.shut) (sym at.passed)
      ∙ tight.unshut (server node.setup.kind serves) (ap is_begun at.living)
    where
      server : (kind : Kind) → IsServer kind → is_client kind ≡ false
      server (Server service nonces) is = refl
      server (Client host epoch) is = absurd is

  -- it writes
  record Wrote (s : Stage) (k : CallLooks) (j : JobState) (e : Event) : Type 0 where
    count : ℕ
    few : count ≤ length (take OFFER_BYTES j.reply)
    is : e ≡ events.Wrote c (length (take OFFER_BYTES j.reply)) (writers.Server (Ok count))
        (take count (take OFFER_BYTES j.reply))
    at : Here (with_event 0 e s) lives.Accepted (after_write (take count (take OFFER_BYTES j.reply)) k)
    fills : (count ≡ length (take OFFER_BYTES j.reply) → ⊥)
        → room node.setup (l (with_event 0 e s)) (after_write (take count (take OFFER_BYTES j.reply)) k) ≡ 0

  wrote : (s : Stage) (k : CallLooks) (j : JobState) (e : Event) → Here s lives.Accepted k → j.call ≡ c
      → k.received.ended ≡ true → k.sent.acked ≤ opened (length k.sent.said)
      → IsCall (asks.write j.call (take OFFER_BYTES j.reply)) e → IsAllowedAt s.nodes s.history 0 e → Wrote s k j e
  wrote s k j e at own ended known call allowed =
      let got : Result ℕ ServeRefused = call.0 in
      let event : e ≡ events.Wrote c (length offer) (writers.Server got) (accepted offer got) =
      call.1 ∙ ap (λ (d : CallName). events.Wrote d (length offer) (writers.Server got) (accepted offer got)) own in
      let got_is : got ≡ Ok count =
      write_got node serves c now s k lives.Accepted e offer got at event allowed
      ∙ ap (λ (b : Bool). served_by lives.Accepted b count) ended in
      let is : e ≡ events.Wrote c (length offer) (writers.Server (Ok count)) (take count offer) =
      event ∙ ap (λ (r : Result ℕ ServeRefused). events.Wrote c (length offer) (writers.Server r)
      (accepted offer r)) got_is
      in
      record {
        count = count;
        few = omega arith;
        is = is;
        at =
            write_at node serves c now s k lives.Accepted e (length offer) (writers.Server (Ok count))
            (take count offer) at is
            allowed;
        fills = λ short. (
            let all : count ≡ room node.setup (l s) k =
            least (length offer) (room node.setup (l s) k) short in
            let took : length (take count offer) ≡ room node.setup (l s) at.call.looks =
            length-take count offer ∙ (let low : min count (length offer) ≡ count = omega arith in low) ∙ all
            ∙ ap (λ (i : CallLooks). room node.setup (l s) i) (sym at.passed) in
            let none : room node.setup (on_looks c (after_write (take count offer)) (l s))
            (after_write (take count offer) at.call.looks) ≡ 0 =
            room_spent node.setup (l s) c at.call (take count offer)
            (roomy_history node.setup (side 0 s.history) at.legal) at.there (ap is_active at.living)
            (ap (λ (i : CallLooks). i.sent.shut) at.passed ∙ unshut s k at)
            (subst (λ (i : CallLooks). i.sent.acked ≤ opened (length i.sent.said)) (sym at.passed) known) took in
            ap (λ (m : Looks). room node.setup m (after_write (take count offer) k))
            (ap (λ (f : Event). after node.setup f (l s)) is)
            ∙ ap (λ (i : CallLooks). room node.setup (on_looks c (after_write (take count offer)) (l s))
            (after_write (take count offer) i)) (sym at.passed) ∙ none);
      }
    where
      offer : List ℕ
      offer = take OFFER_BYTES j.reply

      count : ℕ
      count = min (length offer) (room node.setup (l s) k)

      least : (m r : ℕ) → (min m r ≡ m → ⊥) → min m r ≡ r
      least m r short = elim (cases_lt m r) as (λ x. min m r ≡ r) [
        | inl less ↦ absurd (short (omega arith))
        | inr more ↦ omega arith
      ]

  -- what it asks where it decided
  decided_asks : (j : JobState) (code : ℤ) → j.code ≡ Some code
      → (serving g).asks (moves j) ≡ Some (ask_of j (coded_want j code))
  decided_asks j code is = asked_is g j (Some code) is

  module _ (n : Moving) (t : Stage) where
    -- what holds of the rest of the step
    abbrev Onward : JobState → Event → Stage → Type 0
    Onward j e s =
        (i : JobState) (k : CallLooks) (code : ℤ) → heard g j e ≡ moves i → Here (with_event 0 e s) lives.Accepted k
        → Decided k i code → StepEnds k n t

    -- it writes more, or there is no more room
    wrote_on : (j : JobState) (k : CallLooks) (code : ℤ) (s : Stage) (e : Event) → Here s lives.Accepted k
        → Decided k j code → is_zero code ≡ true → (w : Wrote s k j e) → StepGoes g (heard g j e) (with_event 0 e s) n t
        → Onward j e s → StepEnds k n t
    wrote_on j k code s e at d zero_is w step again = by (w.count == length offer) refl
      where
        offer : List ℕ
        offer = take OFFER_BYTES j.reply

        k2 : CallLooks
        k2 = after_write (take w.count offer) k

        i : JobState
        i = record j { reply = drop w.count j.reply }

        heard_is : (b : Bool) → (w.count == length offer) ≡ b
            → heard g j e ≡ record { job = i; phase = cond b phases.Moves phases.Rests }
        heard_is b is =
            ap (heard g j) w.is
            ∙ ap (λ (x : Bool). record { job = i; phase = cond x phases.Moves phases.Rests }) is

        by : (b : Bool) → (w.count == length offer) ≡ b → StepEnds k n t
        by true is =
            ends_behind k k2 n t (λ f turns. turns_write k f (take w.count offer) turns) (λ open_. open_)
            (again i k2 code (heard_is true is) w.at (record {
              own = d.own;
              coded = d.coded;
              read = d.read;
              known = omega (arith, d.known, length-append k.sent.said (take w.count offer));
            }))
        by false is =
            let over : (n ≡ rests i) × (t ≡ with_event 0 e s) =
            step_rests g (rests i) (with_event 0 e s) n t refl
            (subst (λ (m : Moving). StepGoes g m (with_event 0 e s) n t) (heard_is false is) step) in
            let short : w.count ≡ length offer → ⊥ = eqb-false w.count (length offer) is in
            let some : 0 < length (drop w.count j.reply) =
            omega (arith, w.few, short, length-drop w.count j.reply, length-take OFFER_BYTES j.reply) in
            writes_on k2 i code (turns_write k k2 (take w.count offer) (turns_none k2))
            (subst (λ (u : Stage). Here u lives.Accepted k2) (sym over.1) w.at) over.0 d.own (d.read zero_is).0 d.coded
            zero_is (d.read zero_is).1 some
            (subst (λ (u : Stage). room node.setup (l u) k2 ≡ 0) (sym over.1) (w.fills short))

    -- it finishes
    finished_on : (j : JobState) (k : CallLooks) (code : ℤ) (s : Stage) (e : Event) → Here s lives.Accepted k
        → Decided k j code → IsCall (asks.finish j.call code) e → IsAllowedAt s.nodes s.history 0 e
        → StepGoes g (heard g j e) (with_event 0 e s) n t → StepEnds k n t
    finished_on j k code s e at d call allowed step = by (is_zero code) refl
      where
        event : e ≡ events.Finished c code call.0
        event = call.1 ∙ ap (λ (x : CallName). events.Finished x code call.0) d.own

        done_ : (z : Bool) → is_zero code ≡ z → (k.received.ended || not z) ≡ true → e ≡ events.Finished c code (Ok tt)
        done_ z is fine =
            event
            ∙ ap (λ (r : Result (Unit {0}) ServeRefused). events.Finished c code r)
            (finish_got node serves c now s k lives.Accepted e code call.0 at event allowed
            ∙ ap (λ (b : Bool). served_by lives.Accepted (k.received.ended || not b) tt) is
            ∙ ap (λ (b : Bool). served_by lives.Accepted b tt) fine)

        over : (n ≡ gone j) × (t ≡ with_event 0 e s)
        over =
            step_rests g (gone j) (with_event 0 e s) n t refl
            (subst (λ (m : Moving). StepGoes g m (with_event 0 e s) n t) (ap (heard g j) event) step)

        none : left n ≡ []
        none = ap (λ (m : Moving). left m) over.0

        by : (z : Bool) → is_zero code ≡ z → StepEnds k n t
        by true is =
            let ended : k.received.ended ≡ true = (d.read is).1 in
            let fine : (k.received.ended || false) ≡ true = ap (λ (b : Bool). b || false) ended in
            finishes (after_shut k) (turns_shut k (after_shut k) (turns_none (after_shut k)))
            (subst (λ (u : Stage). Here u lives.Finished (after_shut k)) (sym over.1)
            (finish_at node serves c now s k lives.Accepted lives.Finished e code true at (done_ true is fine) is refl
            allowed)) refl ended none
        by false is =
            refuses k code (turns_none k)
            (subst (λ (u : Stage). Here u (lives.Over (Some code)) k) (sym over.1)
            (finish_at node serves c now s k lives.Accepted (lives.Over (Some code)) e code false at
            (done_ false is (or_true k.received.ended)) is refl allowed)) none
          where
            or_true : (b : Bool) → (b || true) ≡ true
            or_true true = refl
            or_true false = refl

    -- the step of a job that decided a code
    pub decided_ends : (m : Moving) (s : Stage) → StepGoes g m s n t → (j : JobState) (k : CallLooks) (code : ℤ)
        → m ≡ moves j → Here s lives.Accepted k → Decided k j code → StepEnds k n t
    decided_ends m s step = step_induct g n t P never event_ m s step
      where
        P : Moving → Stage → Type 0
        P m s =
            (j : JobState) (k : CallLooks) (code : ℤ) → m ≡ moves j → Here s lives.Accepted k → Decided k j code
            → StepEnds k n t

        asks_is : (m : Moving) (j : JobState) (code : ℤ) → m ≡ moves j → j.code ≡ Some code
            → (serving g).asks m ≡ Some (ask_of j (coded_want j code))
        asks_is m j code is coded = ap (λ (x : Moving). (serving g).asks x) is ∙ decided_asks j code coded

        never : (m : Moving) (s : Stage) → (serving g).asks m ≡ None → n ≡ m → t ≡ s → P m s
        never m s none is same j k code moves_ at d =
            absurd (let no' : ◌≡◌ {A = Option Ask} None (Some (ask_of j (coded_want j code))) =
            sym none ∙ asks_is m j code moves_ d.coded in cc (no'))

        event_ : (m : Moving) (s : Stage) (a : Ask) (e : Event) → (serving g).asks m ≡ Some a
            → IsAllowedNext s 0 (IsCall a) e → StepGoes g ((serving g).heard m e) (with_event 0 e s) n t
            → P ((serving g).heard m e) (with_event 0 e s) → P m s
        event_ m s a e asked allowed step again j k code is at d =
            let one : a ≡ ask_of j (coded_want j code) =
            some_ask a (ask_of j (coded_want j code)) (sym asked ∙ asks_is m j code is d.coded) in
            let heard_is : (serving g).heard m e ≡ heard g j e = ap (λ (x : Moving). (serving g).heard x e) is in
            by (is_zero code) (nat_lt 0 (length j.reply)) refl (subst (λ (x : Ask). IsCall x e) one allowed.0)
            (subst (λ (x : Moving). StepGoes g x (with_event 0 e s) n t) heard_is step)
            (subst (λ (x : Moving). P x (with_event 0 e s)) heard_is again)
          where
            by : (z some : Bool) → is_zero code ≡ z
                → IsCall (ask_of j (cond (z && some) wants.Write (wants.Finish code))) e
                → StepGoes g (heard g j e) (with_event 0 e s) n t → P (heard g j e) (with_event 0 e s) → StepEnds k n t
            by true true zero_is call on again =
                wrote_on j k code s e at d zero_is
                (wrote s k j e at d.own (d.read zero_is).1 d.known call allowed.1) on again
            by true false zero_is call on again = finished_on j k code s e at d call allowed.1 on
            by false some zero_is call on again = finished_on j k code s e at d call allowed.1 on
