-- What the step of a job makes of its own call: it reads all that stands without a gap and waits for more; it waits
-- behind the end of the request; or it goes on with what it decided.
use Rattle.std.proofs.Common.{◌≡◌, ◌⊎◌, inl, inr, ◌<◌, ◌≤◌, ◌+◌, ◌∷◌, ◌++◌, ◌&&◌, cond, not, min, ℕ, ℤ, Bool, true}
use Rattle.std.proofs.Common.{false, List, [], length, take, drop, refl, ap, sym, subst, ◌∙◌, Option, Some, None}
use Rattle.std.proofs.Common.{option_map, nat_lt, append-nil, is_some}
use Rattle.rx_model.specs.declared.answers.ReadGot.TheVariants as readers
use Rattle.rx_model.specs.declared.answers.ServeRead.{ServeRead}
use Rattle.rx_model.specs.declared.answers.ServeRead.TheVariants as reads
use Rattle.rx_model.specs.declared.event.Event.{Event}
use Rattle.rx_model.specs.declared.event.Event.TheVariants as events
use Rattle.rx_model.specs.declared.names.CallName.{CallName}
use Rattle.rx_rules.specs.After.{is_zero}
use Rattle.rx_rules.specs.CallLooks.{CallLooks, after_read}
use Rattle.rx_rules.specs.Life as lives
use Rattle.rx_rules.specs.Received.{heard_of, is_complete, read_from, read_of, unread_of}
use Rattle.rx_rules.specs.Rules.{served_read_by, served_read_got}
use Rattle.rx_rules.specs.Sent.{opened}
use Rattle.rx_rules.specs.Setup.{IsServer}
use Rattle.rx_history.specs.Sides.{Node}
use Rattle.rx_jobs.specs.declared.job.Phase.TheVariants as phases
use Rattle.rx_jobs.specs.declared.job.TheConstants.{OFFER_BYTES}
use Rattle.rx_jobs.specs.declared.job.Want.TheVariants as wants
use Rattle.rx_jobs.specs.Handlers.{Handlers, early_code, wait_of}
use Rattle.rx_events.specs.Joint.{IsAllowedAt}
use Rattle.rx_jobs.specs.Jobs.{Ask, IsCall, JobState, Moving, ask_of, grown, heard, judged, maybe_coded, moving}
use Rattle.rx_jobs.specs.Jobs.{serving, settled, trimmed, waits}
use Rattle.rx_jobs.specs.Jobs as asks
use Rattle.rx_jobs.specs.Keeping.{kept_of}
use Rattle.rx_plan.specs.Stages.{IsAllowedNext, Stage, with_event}
use Rattle.rx_rounds.proofs.Refusals.Codes.{early_no_zero}
use Rattle.rx_rounds.proofs.Serving.ServeDecides.{no_zero}
use Rattle.rx_closing.proofs.Server.JobSteps.{StepGoes, some_ask, step_rests}
use Rattle.rx_closing.proofs.Server.OwnEvents.{At, read_at, read_got, step_induct}
use Rattle.rx_closing.proofs.Server.OwnStep.{Fits, Reading, SettledAs, StepEnds, WaitsOr, asked_is, decided_ends}
use Rattle.rx_closing.proofs.Server.OwnStep.{ends_behind, has_decided, reads_on, settled_as, settled_is, still_waits}
use Rattle.rx_closing.proofs.Server.OwnStep.{waits_first, waits_none, waits_or}
use Rattle.rx_closing.proofs.Steps.{turns_none, turns_read}

-- ---- reads

-- what was read once more, of what was there to read
pub unread_same : (now : ℕ) (k : CallLooks) → unread_of k.received ≡ []
    → unread_of (after_read now false [] k).received ≡ []
unread_same now k none =
    ap (λ (r : List ℕ). drop (length r) (heard_of k.received.kept)) (append-nil k.received.read) ∙ none

module _ (g : Handlers) (node : Node) (serves : IsServer node.setup.kind) (c : CallName) (now : ℕ) where
  abbrev Here : Stage → lives.Life → CallLooks → Type 0
  Here s x k = At node serves c now s x k

  abbrev moves : JobState → Moving
  moves j = record { job = j; phase = phases.Moves }

  abbrev rests : JobState → Moving
  rests j = record { job = j; phase = phases.Rests }

  abbrev IsReading : CallLooks → JobState → Type 0
  IsReading k j = Reading g node serves c now k j

  abbrev IsFit : CallLooks → JobState → Type 0
  IsFit k j = Fits g node serves c now k j

  module _ (n : Moving) (t : Stage) where
    abbrev Ends : CallLooks → Type 0
    Ends k = StepEnds g node serves c now k n t

    -- ---- a job that reads

    -- a job that was told more bytes
    record GrownAs (j i : JobState) : Type 0 where
      call : i.call ≡ j.call
      ended : i.ended ≡ j.ended
      code : (i.code ≡ None) ⊎ ((found : ℤ) × (i.code ≡ Some found) × (is_zero found ≡ false))

    grown_as : (before : ℕ) (j : JobState) → j.code ≡ None → GrownAs j (grown g before j)
    grown_as before j none = by (nat_lt before (length (kept_of g j.request)))
      where
        coded_by : (o : Option ℤ) → early_code g (kept_of g j.request) false ≡ o
            → GrownAs j (maybe_coded o (trimmed g j))
        coded_by None is = record { call = refl; ended = refl; code = inl none }
        coded_by (Some found) is =
            record {
              call = refl;
              ended = refl;
              code = inr (found, refl, no_zero found (early_no_zero g (kept_of g j.request) false found is));
            }

        by : (b : Bool) → GrownAs j (cond b (judged g (trimmed g j)) (trimmed g j))
        by true = coded_by (early_code g (kept_of g j.request) false) refl
        by false = record { call = refl; ended = refl; code = inl none }

    -- what it asks
    reading_asks : (j : JobState) → j.code ≡ None → j.ended ≡ false
        → (serving g).asks (moves j) ≡ Some (asks.read j.call)
    reading_asks j none going =
        asked_is g j None none ∙ ap (λ (b : Bool). option_map (ask_of j) (cond b None (Some wants.Read))) going

    -- one that waits asks nothing
    waiting_asks : (j : JobState) → j.code ≡ None → j.ended ≡ true → (serving g).asks (moves j) ≡ None
    waiting_asks j none ended =
        asked_is g j None none ∙ ap (λ (b : Bool). option_map (ask_of j) (cond b None (Some wants.Read))) ended

    -- it read the end
    ended_on : (j : JobState) (k : CallLooks) (s : Stage) (e : Event) → Here s lives.Accepted k → IsReading k j
        → e ≡ events.HasRead c OFFER_BYTES (readers.Server reads.End) [] → IsAllowedAt s.nodes s.history 0 e
        → StepGoes g (heard g j e) (with_event 0 e s) n t → Ends k
    ended_on j k s e at r is allowed step = by (waits_or i like.ended)
      where
        i : JobState
        i = settled g 0 (record j { ended = true })

        like : SettledAs (record j { ended = true }) i
        like = settled_as g 0 (record j { ended = true })

        k2 : CallLooks
        k2 = after_read now true [] k

        at2 : Here (with_event 0 e s) lives.Accepted k2
        at2 = read_at node serves c now s k lives.Accepted lives.Accepted e reads.End [] true at is refl refl allowed

        on : StepGoes g (moves i) (with_event 0 e s) n t
        on = subst (λ (m : Moving). StepGoes g m (with_event 0 e s) n t) (ap (heard g j) is) step

        by : WaitsOr i → Ends k
        by (still_waits still none) =
            let over : (n ≡ moves i) × (t ≡ with_event 0 e s) =
            step_rests g (moves i) (with_event 0 e s) n t (waiting_asks i none like.ended) on in
            let counted = settled_is g 0 (record j { ended = true }) still in
            let less : i.steps < wait_of g i.request =
            subst (λ (x : JobState). x.steps < wait_of g x.request) (sym counted.0) counted.1 in
            waits_first k2 i (turns_read k k2 true [] (turns_none k2))
            (subst (λ (u : Stage). Here u lives.Accepted k2) (sym over.1) at2) over.0 (like.call ∙ r.own)
            like.ended none refl
            less r.more
        by (has_decided code coded) =
            ends_behind g node serves c now k k2 n t (λ f turns. turns_read k f true [] turns) (λ wrong. absurd cc)
            (decided_ends g node serves c now n t (moves i) (with_event 0 e s) on i k2 code refl at2 (record {
              own = like.call ∙ r.own;
              coded = coded;
              read = λ zero_. (like.ended, refl);
              known = r.known;
            }))

    -- there is nothing more to read yet
    waits_on : (j : JobState) (k : CallLooks) (s : Stage) (e : Event) → Here s lives.Accepted k → IsReading k j
        → unread_of k.received ≡ [] → is_complete k.received ≡ false
        → e ≡ events.HasRead c OFFER_BYTES (readers.Server reads.NotYet) [] → IsAllowedAt s.nodes s.history 0 e
        → StepGoes g (heard g j e) (with_event 0 e s) n t → Ends k
    waits_on j k s e at r none incomplete is allowed step =
        let k2 : CallLooks = after_read now false [] k in
        let at2 : Here (with_event 0 e s) lives.Accepted k2 =
        read_at node serves c now s k lives.Accepted lives.Accepted e reads.NotYet [] false at is refl refl allowed in
        let over : (n ≡ rests j) × (t ≡ with_event 0 e s) =
        step_rests g (rests j) (with_event 0 e s) n t refl
        (subst (λ (m : Moving). StepGoes g m (with_event 0 e s) n t) (ap (heard g j) is) step) in
        reads_on k2 j (turns_read k k2 false [] (turns_none k2))
        (subst (λ (u : Stage). Here u lives.Accepted k2) (sym over.1) at2) over.0 r.own r.going r.none r.more
        (unread_same now k none) incomplete

    -- the step of a job that reads
    pub reading_ends : (m : Moving) (s : Stage) → StepGoes g m s n t → (j : JobState) (k : CallLooks)
        → m ≡ moves j → Here s lives.Accepted k → IsReading k j → Ends k
    reading_ends m s step = step_induct g n t P never event_ m s step
      where
        P : Moving → Stage → Type 0
        P m s = (j : JobState) (k : CallLooks) → m ≡ moves j → Here s lives.Accepted k → IsReading k j → Ends k

        asks_is : (m : Moving) (j : JobState) (k : CallLooks) → m ≡ moves j → IsReading k j
            → (serving g).asks m ≡ Some (asks.read j.call)
        asks_is m j k is r = ap (λ (x : Moving). (serving g).asks x) is ∙ reading_asks j r.none r.going

        never : (m : Moving) (s : Stage) → (serving g).asks m ≡ None → n ≡ m → t ≡ s → P m s
        never m s none is same j k moves_ at r =
            absurd (let no' : ◌≡◌ {A = Option Ask} None (Some (asks.read j.call)) =
            sym none ∙ asks_is m j k moves_ r in cc (no'))

        event_ : (m : Moving) (s : Stage) (a : Ask) (e : Event) → (serving g).asks m ≡ Some a
            → IsAllowedNext s 0 (IsCall a) e → StepGoes g ((serving g).heard m e) (with_event 0 e s) n t
            → P ((serving g).heard m e) (with_event 0 e s) → P m s
        event_ m s a e asked allowed step again j k is at r =
            let one : a ≡ asks.read j.call = some_ask a (asks.read j.call) (sym asked ∙ asks_is m j k is r) in
            let heard_is : (serving g).heard m e ≡ heard g j e = ap (λ (x : Moving). (serving g).heard x e) is in
            let call : IsCall (asks.read j.call) e = subst (λ (x : Ask). IsCall x e) one allowed.0 in
            let event : e ≡ events.HasRead c OFFER_BYTES (readers.Server call.0) call.1 =
            call.2 ∙ ap (λ (x : CallName). events.HasRead x OFFER_BYTES (readers.Server call.0) call.1) r.own in
            let pair : ◌≡◌ {A = ServeRead × List ℕ} (call.0, call.1)
            (served_read_by lives.Accepted (read_of k.received OFFER_BYTES)) =
            read_got node serves c now s k lives.Accepted e call.0 call.1 at event allowed.1 in
            by (unread_of k.received) (is_complete k.received) refl refl
            (event ∙ ap (λ (p : ServeRead × List ℕ). events.HasRead c OFFER_BYTES (readers.Server p.0) p.1) pair)
            (subst (λ (x : Moving). StepGoes g x (with_event 0 e s) n t) heard_is step)
            (subst (λ (x : Moving). P x (with_event 0 e s)) heard_is again)
          where
            -- the event by what is there to read
            Reads : List ℕ → Bool → Type 0
            Reads u whole =
                e ≡ events.HasRead c OFFER_BYTES
                (readers.Server (served_read_got (read_from OFFER_BYTES u whole).0)) (read_from OFFER_BYTES u whole).1

            got_on : (count : ℕ) (came : List ℕ)
                → e ≡ events.HasRead c OFFER_BYTES (readers.Server (reads.Got count)) came
                → StepGoes g (heard g j e) (with_event 0 e s) n t → P (heard g j e) (with_event 0 e s) → Ends k
            got_on count came is_event on again = of like.code
              where
                i : JobState
                i = grown g (length j.request) (record j { request = j.request ++ came })

                like : GrownAs (record j { request = j.request ++ came }) i
                like = grown_as (length j.request) (record j { request = j.request ++ came }) r.none

                k2 : CallLooks
                k2 = after_read now false came k

                heard_it : heard g j e ≡ moves i
                heard_it = ap (heard g j) is_event

                at2 : Here (with_event 0 e s) lives.Accepted k2
                at2 =
                    read_at node serves c now s k lives.Accepted lives.Accepted e (reads.Got count) came false
                    at is_event refl
                    refl allowed.1

                of : (i.code ≡ None) ⊎ ((found : ℤ) × (i.code ≡ Some found) × (is_zero found ≡ false)) → Ends k
                of (inl none) =
                    ends_behind g node serves c now k k2 n t (λ f turns. turns_read k f false came turns)
                    (λ open_. open_)
                    (again i k2 heard_it at2 (record {
                      own = like.call ∙ r.own;
                      none = none;
                      going = like.ended ∙ r.going;
                      more = r.more;
                      known = r.known;
                    }))
                of (inr found) =
                    ends_behind g node serves c now k k2 n t (λ f turns. turns_read k f false came turns)
                    (λ open_. open_)
                    (decided_ends g node serves c now n t (moves i) (with_event 0 e s)
                    (subst (λ (x : Moving). StepGoes g x (with_event 0 e s) n t) heard_it on) i k2 found.0
                    refl at2 (record {
                      own = like.call ∙ r.own;
                      coded = found.1;
                      read =
                          λ zero_. absurd (let wrong : ◌≡◌ {A = Bool} true false = sym zero_ ∙ found.2 in cc (wrong));
                      known = r.known;
                    }))

            by : (u : List ℕ) (whole : Bool) → unread_of k.received ≡ u → is_complete k.received ≡ whole
                → Reads (unread_of k.received) (is_complete k.received)
                → StepGoes g (heard g j e) (with_event 0 e s) n t → P (heard g j e) (with_event 0 e s) → Ends k
            by u whole none is_whole event on again =
                of u whole none is_whole (subst (λ (v : List ℕ). Reads v whole) none
                (subst (λ (b : Bool). Reads (unread_of k.received) b) is_whole event))
              where
                of : (u : List ℕ) (whole : Bool) → unread_of k.received ≡ u → is_complete k.received ≡ whole
                    → Reads u whole → Ends k
                of [] true none is_whole event = ended_on j k s e at r event allowed.1 on
                of [] false none is_whole event = waits_on j k s e at r none is_whole event allowed.1 on
                of (b ∷ bs) whole none is_whole event =
                    got_on (min OFFER_BYTES (length (b ∷ bs))) (take OFFER_BYTES (b ∷ bs)) event on again

    -- ---- the step of the job of an accepted call

    -- it waits a step more, and nothing else happens; or its step goes on
    pub data OwnEnds (j : JobState) (k : CallLooks) (s : Stage) : Type 0 where
      waits_more : n ≡ moves (record j { steps = j.steps + 1 }) → t ≡ s → waits j ≡ true
          → j.steps + 1 < wait_of g j.request → OwnEnds j k s
      goes_on : Ends k → OwnEnds j k s

    pub own_step : (j : JobState) (k : CallLooks) (s : Stage) → Here s lives.Accepted k → IsFit k j
        → k.sent.acked ≤ opened (length k.sent.said) → StepGoes g (moving g j) s n t → OwnEnds j k s
    own_step j k s at fits known step = by (waits j) refl step
      where
        goes_with : (i : JobState) → IsFit k i → (waits i ≡ true → OwnEnds j k s) → StepGoes g (moves i) s n t
            → OwnEnds j k s
        goes_with i f waiting on = of i.code i.ended refl refl
          where
            of : (o : Option ℤ) (b : Bool) → i.code ≡ o → i.ended ≡ b → OwnEnds j k s
            of (Some code) b is ended =
                goes_on (decided_ends g node serves c now n t (moves i) s on i k code refl at (record {
                  own = f.own;
                  coded = is;
                  read = λ zero_is. (f.zero_ code is zero_is, sym f.ended ∙ f.zero_ code is zero_is);
                  known = known;
                }))
            of None false is ended =
                goes_on (reading_ends (moves i) s on i k refl at (record {
                  own = f.own;
                  none = is;
                  going = ended;
                  more = sym f.ended ∙ ended;
                  known = known;
                }))
            of None true is ended =
                waiting (ap (λ (x : Bool). x && not (is_some i.code)) ended
                ∙ ap (λ (p : Option ℤ). not (is_some p)) is)

        by : (b : Bool) → waits j ≡ b → StepGoes g (moves (cond b (settled g (j.steps + 1) j) j)) s n t → OwnEnds j k s
        by false other on =
            goes_with j fits (λ still. absurd (let wrong : ◌≡◌ {A = Bool} true false = sym still
            ∙ other in cc (wrong))) on
        by true still on =
            goes_with (settled g (j.steps + 1) j) (record {
              own = like.call ∙ fits.own;
              ended = like.ended ∙ fits.ended;
              zero_ = λ code is zero_is. like.ended ∙ read;
            }) (λ more. (
            let counted = settled_is g (j.steps + 1) j more in
            let none : (settled g (j.steps + 1) j).code ≡ None =
            ap (λ (i : JobState). i.code) counted.0 ∙ (waits_none j still).1 in
            let over = step_rests g (moves (settled g (j.steps + 1) j)) s n t
            (waiting_asks (settled g (j.steps + 1) j) none (like.ended ∙ read)) on in
            waits_more (over.0 ∙ ap moves counted.0) over.1 still counted.1)) on
          where
            like : SettledAs j (settled g (j.steps + 1) j)
            like = settled_as g (j.steps + 1) j

            read : j.ended ≡ true
            read = (waits_none j still).0
