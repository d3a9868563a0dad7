-- The turns of a dispatcher with one job, at any moment: it reads on, waits, writes its reply or finishes with a code.
use Rattle.std.proofs.Common.{◌≡◌, ◌≢◌, ◌<◌, ◌≤◌, ◌+◌, ◌*◌, ◌++◌, ◌⊎◌, ℕ, ℤ, pos, suc, Bool, true, false, List, []}
use Rattle.std.proofs.Common.{◌∷◌, refl, ap, sym, subst, ◌∙◌, inl, inr, Option, Some, None, length, drop, arith}
use Rattle.std.proofs.Common.{append-nil, append_assoc}
use Rattle.std.proofs.lemmas.List.{take-append-drop}
use Rattle.rx_model.specs.Message.{IsBytes}
use Rattle.rx_model.specs.Spelling.{IsCode}
use Rattle.rx_model.specs.declared.event.Event.TheVariants as events
use Rattle.rx_model.specs.declared.names.CallName.{CallName}
use Rattle.rx_rules.specs.After.{after}
use Rattle.rx_rules.specs.CallLooks.{CallLooks, after_read, after_write}
use Rattle.rx_rules.specs.Life.{Life, is_waiting}
use Rattle.rx_rules.specs.Life as lives
use Rattle.rx_rules.specs.Looks.{Looks}
use Rattle.rx_rules.specs.Received.{heard_of, is_complete, marks_of, unread_of}
use Rattle.rx_rules.specs.Sent.{Sent, nothing_sent}
use Rattle.rx_script.specs.Served.{bytes, refusal}
use Rattle.rx_jobs.specs.declared.job.Phase.TheVariants as phases
use Rattle.rx_jobs.specs.Dispatching.{Turning, accepts, settle}
use Rattle.rx_jobs.specs.Handlers.{Handlers, early_code, served_for, wait_of}
use Rattle.rx_jobs.specs.Jobs.{JobState, begun, settled}
use Rattle.rx_jobs.specs.Keeping.{kept_of, most_kept}
use Rattle.rx_jobs.proofs.EarlyLaws.{begun_served}
use Rattle.rx_jobs.proofs.KeptLaws.{kept_early, kept_more, kept_served, kept_wait}
use Rattle.rx_plan.specs.Stages.{InvokedState, Stage}
use Rattle.rx_plan.specs.Turned.{dispatches, jobs_left}
use Rattle.rx_rounds.proofs.Between.{Answering_, finished, server_at, writes}
use Rattle.rx_rounds.proofs.Flow.{total}
use Rattle.rx_rounds.proofs.Keeper.{kept_to}
use Rattle.rx_rounds.proofs.One.OneCall.{Ends, server_setup, the_call}
use Rattle.rx_rounds.proofs.One.OneRequest.{whole_is}
use Rattle.rx_rounds.proofs.RoundParts.{idle_dispatch}
use Rattle.rx_rounds.proofs.One.OneSteps.{server_accepted, server_accepts, server_accepts_none}
use Rattle.rx_rounds.proofs.Reading.ReadOn.{IsRead, read_out, reads_more, unread_still}
use Rattle.rx_rounds.proofs.Reading.ReadWhole.{marks_all}
use Rattle.rx_rounds.proofs.Reading.ReadsOut.{ReadOut, decides, reads_out, reads_the_end, waits_for_more}
use Rattle.rx_rounds.proofs.Replies.ReplyStream.{heard_kept, heard_whole, take_nothing}
use Rattle.rx_rounds.proofs.Rounded.{Made, dispatch_to}
use Rattle.rx_rounds.proofs.Serving.SaidMore.{few_kept, said_more}
use Rattle.rx_rounds.proofs.Serving.ServeDecides.{Decided, decides_then, ended_job, finishes_with}
use Rattle.rx_rounds.proofs.Serving.ServeDecides.{refused_at, refuses, replies, waits_on}
use Rattle.rx_rounds.proofs.Serving.ServeWrites.{CanWrite, Written, fills_up, writes_all, writes_out, writing_job}
use Rattle.rx_rounds.proofs.Turned.{Serves, Serves_, serves_accept}
use Rattle.rx_rounds.proofs.Two.{Two, two_as, two_jobs}

-- bytes behind others
bytes_behind : (xs ys : List ℕ) → IsBytes (xs ++ ys) → IsBytes ys
bytes_behind [] ys all = all
bytes_behind (x ∷ xs) ys all = bytes_behind xs ys (λ i. all (suc i))

module _ (x : Ends) (g : Handlers) (request : List ℕ) (lc : Looks) (cs : List InvokedState) (now given used : ℕ) where
  -- a job of the whole request behind its end
  abbrev pub waiting_job : ℕ → JobState
  waiting_job steps = ended_job x g lc cs [] now given used (kept_of g request) steps

  -- a stage at which a job wrote more of its reply, of which this was left before
  pub record WroteOn (a : ℕ) (k : CallLooks) (before : List ℕ) (t : Stage) : Type 0 where
    pub more : List ℕ
    pub rest : List ℕ
    pub shut : Bool
    pub split : before ≡ more ++ rest
    pub life : Life
    pub jobs : List JobState
    pub job : Answering_ x g request (k.sent.said ++ more) shut rest life jobs
    pub within : length (k.sent.said ++ more) ≤ 1412 * (a + 32)
    pub full : (shut ≡ true) ⊎ ((shut ≡ false) × (length (k.sent.said ++ more) ≡ 1412 * (a + 32)))
    pub two : Two x (server_at x given used now life (said_more more shut k)) lc cs jobs t

  -- the end of its turn
  wrote_on : (js : List JobState) (steps a : ℕ) (k : CallLooks) (before : List ℕ) (u t : Stage) (w : Turning)
      → k.sent.shut ≡ false → t ≡ record u { jobs = jobs_left w }
      → Written x g lc cs js now given used (kept_of g request) steps a k before w u → WroteOn a k before t
  wrote_on js steps a k before u t w going then_ (fills_up more left split some full two same) =
      let job : JobState = writing_job x g lc cs js now given used (kept_of g request) steps left in
      let end : t ≡ record u { jobs = job ∷ [] } = then_ ∙ ap (λ (v : Turning). record u { jobs = jobs_left v }) same in
      let is : after_write more k ≡ said_more more false k = ap (λ (b : Bool). record k {
        sent = record k.sent { said = k.sent.said ++ more; shut = b };
      }) going in
      record {
        more = more;
        rest = left;
        shut = false;
        split = split;
        life = lives.Accepted;
        jobs = job ∷ [];
        job = writes steps refl some;
        within = omega (arith, full);
        full = inr (refl, full);
        two = two_jobs x (server_at x given used now lives.Accepted (said_more more false k)) lc cs js (job ∷ []) u t
            end
            (two_as x (server_at x given used now lives.Accepted (after_write more k)) lc
            (server_at x given used now lives.Accepted (said_more more false k)) lc cs js u u
            (ap (server_at x given used now lives.Accepted) is) refl refl two);
      }
  wrote_on js steps a k before u t w going then_ (writes_all within two same) =
      let end : t ≡ record u { jobs = [] } = then_ ∙ ap (λ (v : Turning). record u { jobs = jobs_left v }) same in
      record {
        more = before;
        rest = [];
        shut = true;
        split = sym (append-nil before);
        life = lives.Finished;
        jobs = [];
        job = finished refl refl;
        within = within;
        full = inl refl;
        two = two_jobs x (server_at x given used now lives.Finished (said_more before true k)) lc cs js [] u t end two;
      }

  -- ---- a job that writes

  pub turn_writes : (life : Life) (js : List JobState) (a : ℕ) (k : CallLooks) (rest : List ℕ) (s t : Stage)
      → Answering_ x g request k.sent.said k.sent.shut rest life js
      → (k.sent.shut ≡ false → CanWrite a k) → length k.sent.said ≤ 1412 * (a + 32)
      → Two x (server_at x given used now life k) lc cs js s → Made (dispatches g) s t
      → WroteOn a k rest t
  turn_writes life js a k rest s t (writes steps going some) can within two made =
      let d = dispatch_to g s t made in
      let from : Serves g (accepts js) s d.view d.stage = subst
      (λ (ks : List JobState). Serves g (accepts ks) s d.view d.stage) two.jobs d.serves in
      let ls : Looks = server_at x given used now lives.Accepted k in
      let e = subst (λ (got : Option CallName). Serves_ x g ls lc cs js (accepts js)
      (events.Accepted got) d.view d.stage) (server_accepts_none x now used given lives.Accepted k refl)
      (serves_accept x g ls lc cs js (accepts js) d.view s d.stage two refl from) in
      wrote_on js steps a k rest d.stage t d.view going d.then_
      (writes_out x g lc cs js now given used (kept_of g request) steps (length rest) a k rest e.stage d.stage d.view
      (omega arith) (can going) (e.two, e.goes))
  turn_writes life js a k rest s t (finished closed none) can within two made =
      let is : k ≡ said_more [] true k = ap (λ (b : Bool). record k {
        sent = record k.sent { said = k.sent.said; shut = b };
      }) closed ∙ ap (λ (ys : List ℕ). record k { sent = record k.sent { said = ys; shut = true } })
      (sym (append-nil k.sent.said)) in
      let two2 = idle_dispatch x g (server_at x given used now lives.Finished k) lc cs s t two
      (server_accepts_none x now used given lives.Finished k refl) made in
      record {
        more = [];
        rest = [];
        shut = true;
        split = none;
        life = lives.Finished;
        jobs = [];
        job = finished refl refl;
        within = omega (arith, within, ap (λ (ys : List ℕ). length ys) (append-nil k.sent.said));
        full = inl refl;
        two = two_as x (server_at x given used now lives.Finished k) lc
            (server_at x given used now lives.Finished (said_more [] true k)) lc cs [] t t
            (ap (server_at x given used now lives.Finished) is) refl refl two2;
      }

  -- ---- a job that waits

  -- how a turn behind the end of the request goes: the job waits on; it writes its reply; or it finished with a code
  pub data ServedOn (steps : ℕ) (k : CallLooks) (t : Stage) : Type 0 where
    waits_longer : steps < wait_of g request → early_code g request true ≡ None
        → Two x (server_at x given used now lives.Accepted k) lc cs (waiting_job steps ∷ []) t → ServedOn steps k t
    replies_now : (reply : List ℕ) → served_for g request ≡ bytes reply → WroteOn 0 k reply t → ServedOn steps k t
    refused : (code : ℤ) → served_for g request ≡ refusal code → code ≢ pos 0 → IsCode code
        → Two x (refused_at x code given used now k) lc cs [] t → ServedOn steps k t

  -- the end of such a turn
  served_on : (js : List JobState) (steps : ℕ) (k : CallLooks) (u t : Stage) (w : Turning)
      → k.sent ≡ nothing_sent → t ≡ record u { jobs = jobs_left w }
      → Decided x g lc cs js now given used (kept_of g request) steps k w u → ServedOn steps k t
  served_on js steps k u t w new then_ (waits_on less none two same) =
      waits_longer (omega (arith, less, kept_wait g request)) (sym (kept_early g request true) ∙ none)
      (two_jobs x (server_at x given used now lives.Accepted k) lc cs js (waiting_job steps ∷ []) u t
      (then_ ∙ ap (λ (v : Turning). record u { jobs = jobs_left v }) same) two)
  served_on js steps k u t w new then_ (replies reply since is written) =
      replies_now reply (sym (kept_served g request) ∙ is)
      (wrote_on js since 0 k reply u t w (ap (λ (s : Sent). s.shut) new) then_ written)
  served_on js steps k u t w new then_ (refuses code is some fits two same) =
      refused code (sym (kept_served g request) ∙ is) some fits
      (two_jobs x (refused_at x code given used now k) lc cs js [] u t
      (then_ ∙ ap (λ (v : Turning). record u { jobs = jobs_left v }) same) two)

  -- codes that are served are no good ends
  abbrev pub AreCoded : Type 0
  AreCoded = (code : ℤ) → served_for g request ≡ refusal code → code ≢ pos 0

  kept_coded : AreCoded → (code : ℤ) → served_for g (kept_of g request) ≡ refusal code → code ≢ pos 0
  kept_coded coded code is = coded code (sym (kept_served g request) ∙ is)

  -- an end that read all of its request and said nothing may write
  can_begin : (k : CallLooks) → k.received.ended ≡ true → k.sent ≡ nothing_sent → marks_of k.received ≡ []
      → CanWrite 0 k
  can_begin k ended new none =
      record {
        ended = ended;
        acked = ap (λ (s : Sent). s.acked) new;
        going = ap (λ (s : Sent). s.shut) new;
        few = omega (arith, few_kept k none);
        known = omega arith;
        near = rw new (omega arith);
        small = omega arith;
      }

  -- a turn of a job that waited so many steps
  pub turn_waits : (steps : ℕ) (k : CallLooks) (s t : Stage) → AreCoded → k.received.ended ≡ true
      → k.sent ≡ nothing_sent → marks_of k.received ≡ []
      → Two x (server_at x given used now lives.Accepted k) lc cs (waiting_job steps ∷ []) s → Made (dispatches g) s t
      → ServedOn (steps + 1) k t
  turn_waits steps k s t coded ended new none two made =
      let js : List JobState = waiting_job steps ∷ [] in
      let d = dispatch_to g s t made in
      let from : Serves g (accepts js) s d.view d.stage = subst
      (λ (ks : List JobState). Serves g (accepts ks) s d.view d.stage) two.jobs d.serves in
      let ls : Looks = server_at x given used now lives.Accepted k in
      let e = subst (λ (got : Option CallName). Serves_ x g ls lc cs js (accepts js)
      (events.Accepted got) d.view d.stage) (server_accepts_none x now used given lives.Accepted k refl)
      (serves_accept x g ls lc cs js (accepts js) d.view s d.stage two refl from) in
      served_on js (steps + 1) k d.stage t d.view new d.then_
      (decides_then x g lc cs js now given used (kept_of g request) (kept_coded coded) steps (steps + 1) k
      (can_begin k ended new none) e.stage d.stage d.view e.two e.goes)

  -- ---- a job that reads

  abbrev pub reading_job : List ℕ → JobState
  reading_job read = record (begun (the_call x)) { request = kept_of g read }

  module _ (p n : ℕ) (first : CallLooks) where
    -- the end as it is read, and what the job has of the request
    record IsJobs (k : CallLooks) (kept : List ℕ) : Type 0 where
      read : List ℕ
      is : IsRead request now p n first read k
      has : kept ≡ kept_of g read

    jobs_more : (k : CallLooks) (kept came : List ℕ)
        → came ++ unread_of (after_read now false came k).received ≡ unread_of k.received → IsJobs k kept
        → IsJobs (after_read now false came k) (kept_of g (kept ++ came))
    jobs_more k kept came rest h =
        record {
          read = h.read ++ came;
          is = reads_more request now p n first h.read came k rest h.is;
          has = ap (λ (ys : List ℕ). kept_of g (ys ++ came)) h.has ∙ kept_more g h.read came;
        }

    jobs_still : (k : CallLooks) (kept : List ℕ) → IsJobs k kept → IsJobs (after_read now false [] k) kept
    jobs_still k kept h =
        record {
          read = h.read ++ [];
          is = reads_more request now p n first h.read [] k (unread_still now k) h.is;
          has = h.has ∙ ap (kept_of g) (sym (append-nil h.read));
        }

    -- how its turn goes: it waits for more; it read the end, and goes on; or it finished with a code
    pub data ReadsJob (t : Stage) : Type 0 where
      waits_for_pieces : (k : CallLooks) (read : List ℕ) → IsRead request now p n first read k
          → unread_of k.received ≡ [] → is_complete k.received ≡ false
          → Two x (server_at x given used now lives.Accepted k) lc cs (reading_job read ∷ []) t → ReadsJob t
      has_read_all : (k : CallLooks) (read : List ℕ) → IsRead request now p n first read k
          → unread_of k.received ≡ [] → is_complete k.received ≡ true
          → ServedOn 0 (after_read now true [] k) t → ReadsJob t
      refused_early : (k : CallLooks) (read : List ℕ) (code : ℤ) → IsRead request now p n first read k
          → served_for g request ≡ refusal code → code ≢ pos 0 → IsCode code
          → Two x (refused_at x code given used now k) lc cs [] t → ReadsJob t

    abbrev Out : List JobState → Turning → Stage → Type 0
    Out js w u = ReadOut x g lc cs js now given used IsJobs jobs_more jobs_still w u

    by_out : (js : List JobState) (u t : Stage) (w : Turning) → IsBytes request → AreCoded
        → first.sent ≡ nothing_sent → n ≤ total request
        → t ≡ record u { jobs = jobs_left w } → Out js w u → ReadsJob t
    by_out js u t w fits coded new within then_ (waits_for_more k kept h none part two same) =
        let end : t ≡ record u { jobs = reading_job h.read ∷ [] } =
        then_ ∙ ap (λ (v : Turning). record u { jobs = jobs_left v }) same
        ∙ ap (λ (ys : List ℕ). record u { jobs = record (begun (the_call x)) { request = ys } ∷ [] }) h.has in
        waits_for_pieces k h.read h.is none part
        (two_jobs x (server_at x given used now lives.Accepted k) lc cs js (reading_job h.read ∷ []) u t end two)
    by_out js u t w fits coded new within then_ (decides k kept code s h early two goes) =
        let behind : List ℕ = unread_of k.received ++ drop (1412 * n) request in
        let front : request ≡ h.read ++ behind =
        sym (take-append-drop (1412 * n) request) ∙ ap (λ (ys : List ℕ). ys ++ drop (1412 * n) request) (sym h.is.front)
        ∙ append_assoc h.read (unread_of k.received) (drop (1412 * n) request) in
        let found : early_code g h.read false ≡ Some code =
        sym (kept_early g h.read false) ∙ ap (λ (ys : List ℕ). early_code g ys false) (sym h.has) ∙ early in
        let served : served_for g request ≡ refusal code =
        ap (served_for g) front
        ∙ begun_served g h.read behind code (bytes_behind h.read behind (subst IsBytes front fits)) found in
        let f = finishes_with x g lc cs js now given used (record (begun (the_call x)) { request = kept }) code k s u w
        refl (coded code served) two goes in
        refused_early k h.read code h.is served (coded code served) f.2
        (two_jobs x (refused_at x code given used now k) lc cs js [] u t
        (then_ ∙ ap (λ (v : Turning). record u { jobs = jobs_left v }) f.1) f.0)
    by_out js u t w fits coded new within then_ (reads_the_end k kept s h none whole two goes) =
        let all : n ≡ total request = whole_is request h.read p n within
        (ap (λ (i : CallLooks). is_complete i.received) (sym h.is.is) ∙ whole) in
        let stood : h.read ≡ request = read_out request now p n first h.read k h.is none
        ∙ sym (heard_kept request n) ∙ heard_whole request n all in
        let has : kept ≡ kept_of g request = h.has ∙ ap (kept_of g) stood in
        let k2 : CallLooks = after_read now true [] k in
        let new2 : k2.sent ≡ nothing_sent = ap (λ (i : CallLooks). i.sent) h.is.is ∙ new in
        let stands : heard_of (kept_to request n) ≡ h.read = heard_whole request n all ∙ sym stood in
        let long : length (heard_of (kept_to request n)) ≤ length (h.read ++ []) =
        omega (arith, ap (λ (ys : List ℕ). length ys) stands, ap (λ (ys : List ℕ). length ys) (append-nil h.read)) in
        let marks : marks_of k2.received ≡ [] =
        ap (λ (i : CallLooks). marks_of (after_read now true [] i).received) h.is.is
        ∙ marks_all request (h.read ++ []) p n long in
        let on : Serves g (settle g [] (record {
          job = settled g 0 (ended_job x g lc cs js now given used (kept_of g request) 0);
          phase = phases.Moves;
        }) []) s w u = subst (λ (ys : List ℕ). Serves g (settle g [] (record {
          job = settled g 0 (ended_job x g lc cs js now given used ys 0);
          phase = phases.Moves;
        }) []) s w u) has goes in
        has_read_all k h.read h.is none whole
        (served_on js 0 k2 u t w new2 then_
        (decides_then x g lc cs js now given used (kept_of g request) (kept_coded coded) 0 0 k2
        (can_begin k2 (ap (λ (i : CallLooks). true) h.is.is) new2 marks) s u w two on))

    -- the first turn: the call is accepted
    pub turn_begins : (read : List ℕ) (s t : Stage) → IsBytes request → AreCoded
        → first.sent ≡ nothing_sent → n ≤ total request → read ≡ [] → IsRead request now p n first read first
        → Two x (server_at x given used now lives.Waiting first) lc cs [] s → Made (dispatches g) s t → ReadsJob t
    turn_begins read s t fits coded new within none h two made =
        let d = dispatch_to g s t made in
        let from : Serves g (accepts []) s d.view d.stage = subst
        (λ (js : List JobState). Serves g (accepts js) s d.view d.stage) two.jobs d.serves in
        let a = subst (λ (got : Option CallName). Serves_ x g (server_at x given used now lives.Waiting first) lc cs []
        (accepts []) (events.Accepted got) d.view d.stage) (server_accepts x now used given first)
        (serves_accept x g (server_at x given used now lives.Waiting first) lc cs [] (accepts []) d.view s d.stage two
        refl from) in
        let ls : Looks = server_at x given used now lives.Accepted first in
        let two1 : Two x ls lc cs [] a.stage =
        two_as x (after (server_setup x) (events.Accepted (Some (the_call x)))
        (server_at x given used now lives.Waiting first)) lc ls lc cs [] a.stage a.stage
        (server_accepted x now used given first) refl refl a.two in
        let v1 : Turning = accepts (begun (the_call x) ∷ []) in
        let e = subst (λ (got : Option CallName). Serves_ x g ls lc cs [] v1
        (events.Accepted got) d.view d.stage) (server_accepts_none x now used given lives.Accepted first refl)
        (serves_accept x g ls lc cs [] v1 d.view a.stage d.stage two1 refl a.goes) in
        let begins : IsJobs first [] = record {
          read = read;
          is = h;
          has = sym (ap (kept_of g) none ∙ take_nothing (most_kept g []));
        } in
        by_out [] d.stage t d.view fits coded new within d.then_
        (reads_out x g lc cs [] now given used IsJobs jobs_more jobs_still (length (unread_of first.received)) first []
        e.stage d.stage d.view (omega arith) (begins, e.two, e.goes))

    -- a later one
    pub turn_reads : (read : List ℕ) (s t : Stage) → IsBytes request → AreCoded
        → first.sent ≡ nothing_sent → n ≤ total request → IsRead request now p n first read first
        → Two x (server_at x given used now lives.Accepted first) lc cs (reading_job read ∷ []) s
        → Made (dispatches g) s t → ReadsJob t
    turn_reads read s t fits coded new within h two made =
        let js : List JobState = reading_job read ∷ [] in
        let d = dispatch_to g s t made in
        let from : Serves g (accepts js) s d.view d.stage = subst
        (λ (ks : List JobState). Serves g (accepts ks) s d.view d.stage) two.jobs d.serves in
        let ls : Looks = server_at x given used now lives.Accepted first in
        let e = subst (λ (got : Option CallName). Serves_ x g ls lc cs js (accepts js)
        (events.Accepted got) d.view d.stage) (server_accepts_none x now used given lives.Accepted first refl)
        (serves_accept x g ls lc cs js (accepts js) d.view s d.stage two refl from) in
        by_out js d.stage t d.view fits coded new within d.then_
        (reads_out x g lc cs js now given used IsJobs jobs_more jobs_still (length (unread_of first.received)) first
        (kept_of g read) e.stage d.stage d.view (omega arith)
        (record { read = read; is = h; has = refl }, e.two, e.goes))
