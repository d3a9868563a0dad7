-- A turn of a dispatcher's job reads all that stands without a gap, unless it decides a code first; then it waits, or
-- it has read the end.
use Rattle.std.proofs.Common.{◌≡◌, ◌≤◌, ◌-◌, ◌++◌, ℕ, ℤ, suc, zero, min, Bool, true, false, List, [], ◌∷◌, refl, ap}
use Rattle.std.proofs.Common.{sym, subst, ◌∙◌, Option, Some, None, length, take, drop, arith, append-nil, length-take}
use Rattle.std.proofs.Common.{cond, length-drop, nat_lt}
use Rattle.std.proofs.lemmas.List.{drop_min, drop-drop, length-append, take-append-drop}
use Rattle.rx_model.specs.declared.answers.CallRead.{CallRead}
use Rattle.rx_model.specs.declared.answers.CallRead.TheVariants as reads
use Rattle.rx_model.specs.declared.answers.ReadGot.TheVariants as readers
use Rattle.rx_model.specs.declared.answers.ServeRead.TheVariants as served
use Rattle.rx_model.specs.declared.event.Event.{Event}
use Rattle.rx_model.specs.declared.event.Event.TheVariants as events
use Rattle.rx_model.specs.declared.names.CallName.{CallName}
use Rattle.rx_rules.specs.After.{after}
use Rattle.rx_rules.specs.CallLooks.{CallLooks, after_read}
use Rattle.rx_rules.specs.Life as lives
use Rattle.rx_rules.specs.Looks.{CallRecord, Looks, call_at}
use Rattle.rx_rules.specs.Received.{is_complete, read_from, read_of, unread_of, heard_of}
use Rattle.rx_rules.specs.Rules.{served_read, served_read_by}
use Rattle.rx_jobs.specs.declared.job.Phase.TheVariants as phases
use Rattle.rx_jobs.specs.Dispatching.{Turning, dispatching, over, serves, settle}
use Rattle.rx_jobs.specs.Handlers.{Handlers, early_code}
use Rattle.rx_jobs.specs.Jobs.{JobState, begun, coded, judged, maybe_coded, settled, trimmed}
use Rattle.rx_jobs.specs.Keeping.{kept_of}
use Rattle.rx_plan.specs.Stages.{InvokedState, Stage}
use Rattle.rx_rounds.proofs.One.OneCall.{Ends, from_server, node_of, server_setup, the_call}
use Rattle.rx_rounds.proofs.Two.{two_as}
use Rattle.rx_rounds.proofs.One.OneSteps.{call_is, server_read}
use Rattle.rx_rounds.proofs.Turned.{Serves, Serves_, serves_over, serves_read}
use Rattle.rx_rounds.proofs.Two.{Two}

-- what was read once more, of what was there to read
pub drop_take : (m : ℕ) (ys : List ℕ) → drop (length (take m ys)) ys ≡ drop m ys
drop_take m ys = ap (λ (n : ℕ). drop n ys) (length-take m ys) ∙ drop_min m ys

pub unread_behind : (now max : ℕ) (k : CallLooks)
    → unread_of (after_read now false (take max (unread_of k.received)) k).received ≡ drop max (unread_of k.received)
unread_behind now max k =
    ap (λ (n : ℕ). drop n (heard_of k.received.kept)) (length-append k.received.read (take max (unread_of k.received)))
    ∙ sym (drop-drop (length (take max (unread_of k.received))) (length k.received.read) (heard_of k.received.kept))
    ∙ drop_take max (unread_of k.received)

-- what holds of the call's end and of what its job has of the request, and stays so as it is read
module _ (x : Ends) (g : Handlers) (lc : Looks) (cs : List InvokedState) (js : List JobState) (now given used : ℕ)
    (P : CallLooks → List ℕ → Type 0)
    (closed : (k : CallLooks) (request came : List ℕ)
    → came ++ unread_of (after_read now false came k).received ≡ unread_of k.received
    → P k request → P (after_read now false came k) (kept_of g (request ++ came)))
    (still : (k : CallLooks) (request : List ℕ) → P k request → P (after_read now false [] k) request) where
  abbrev c : CallName
  c = the_call x

  abbrev served_with : CallLooks → Looks
  served_with k = node_of x (from_server x given used) (the_call x ∷ []) now lives.Accepted k

  -- a job that reads, of which these bytes were read
  abbrev pub reading_job : List ℕ → JobState
  reading_job request = record (begun (the_call x)) { request = request }

  abbrev pub moving_with : JobState → Turning
  moving_with j = serves [] (record { job = j; phase = phases.Moves }) []

  -- the turn behind what it was told: it asks for its next call, or its step is over
  abbrev pub onward : JobState → Turning
  onward j = settle g [] (record { job = j; phase = phases.Moves }) []

  -- how a turn of a job that reads goes on: it waits for more; it decided a code; or it read the end
  pub data ReadOut (w : Turning) (t : Stage) : Type 0 where
    waits_for_more : (k : CallLooks) (request : List ℕ) → P k request → unread_of k.received ≡ []
        → is_complete k.received ≡ false
        → Two x (served_with k) lc cs js t → w ≡ over (reading_job request ∷ []) → ReadOut w t
    decides : (k : CallLooks) (request : List ℕ) (code : ℤ) (s : Stage) → P k request
        → early_code g request false ≡ Some code
        → Two x (served_with k) lc cs js s → Serves g (onward (coded code (reading_job request))) s w t → ReadOut w t
    reads_the_end : (k : CallLooks) (request : List ℕ) (s : Stage) → P k request → unread_of k.received ≡ []
        → is_complete k.received ≡ true
        → Two x (served_with (after_read now true [] k)) lc cs js s
        → Serves g (onward (settled g 0 (record (reading_job request) { ended = true }))) s w t → ReadOut w t

  abbrev Goes : CallLooks → List ℕ → Stage → Turning → Stage → Type 0
  Goes k request s w t = P k request × Two x (served_with k) lc cs js s
      × Serves g (moving_with (reading_job request)) s w t

  -- one read
  read_once : (k : CallLooks) (request : List ℕ) (s t : Stage) (w : Turning) (got : CallRead) (came : List ℕ)
      → read_of k.received 4096 ≡ (got, came)
      → Goes k request s w t
      → Serves_ x g (served_with k) lc cs js (moving_with (reading_job request))
      (events.HasRead c 4096 (readers.Server (served_read_by lives.Accepted (got, came)).0)
      (served_read_by lives.Accepted (got, came)).1) w t
  read_once k request s t w got came is go =
      let same : events.HasRead c 4096 (readers.Server (served_read (call_at (served_with k) c) 4096).0)
      (served_read (call_at (served_with k) c) 4096).1
      ≡ events.HasRead c 4096 (readers.Server (served_read_by lives.Accepted (got, came)).0)
      (served_read_by lives.Accepted (got, came)).1 =
      ap (λ (o : Option CallRecord). events.HasRead c 4096 (readers.Server (served_read o 4096).0)
      (served_read o 4096).1) (call_is x (from_server x given used) (c ∷ []) now lives.Accepted k)
      ∙ ap (λ (r : CallRead × List ℕ). events.HasRead c 4096 (readers.Server (served_read_by lives.Accepted r).0)
      (served_read_by lives.Accepted r).1) is in
      subst (λ (e : Event). Serves_ x g (served_with k) lc cs js (moving_with (reading_job request)) e w t) same
      (serves_read x g (served_with k) lc cs js (moving_with (reading_job request)) w s t c go.1 refl go.2)

  -- nothing is there to read
  read_nothing : (k : CallLooks) (request : List ℕ) (s t : Stage) (w : Turning) (whole : Bool)
      → unread_of k.received ≡ [] → is_complete k.received ≡ whole
      → Goes k request s w t → ReadOut w t
  read_nothing k request s t w true none is go =
      let n = read_once k request s t w reads.End []
      (ap (λ (u : List ℕ). read_from 4096 u (is_complete k.received)) none ∙ ap (read_from 4096 []) is) go in
      let k2 : CallLooks = after_read now true [] k in
      let e : Event = events.HasRead c 4096 (readers.Server served.End) [] in
      reads_the_end k request n.stage go.0 none is
      (two_as x (after (server_setup x) e (served_with k)) lc (served_with k2) lc cs js n.stage n.stage
      (server_read x (c ∷ []) now used given 4096 k served.End []) refl refl n.two)
      n.goes
  read_nothing k request s t w false none is go =
      let n = read_once k request s t w reads.NotYet []
      (ap (λ (u : List ℕ). read_from 4096 u (is_complete k.received)) none ∙ ap (read_from 4096 []) is) go in
      let k2 : CallLooks = after_read now false [] k in
      let e : Event = events.HasRead c 4096 (readers.Server served.NotYet) [] in
      let o = serves_over g (over (reading_job request ∷ [])) w n.stage t refl n.goes in
      waits_for_more k2 request (still k request go.0) (unread_same k none) is
      (two_as x (after (server_setup x) e (served_with k)) lc (served_with k2) lc cs js n.stage t
      (server_read x (c ∷ []) now used given 4096 k served.NotYet []) refl (sym o.1) n.two) o.0
    where
      unread_same : (k : CallLooks) → unread_of k.received ≡ [] → unread_of (after_read now false [] k).received ≡ []
      unread_same k none = ap (λ (r : List ℕ). drop (length r) (heard_of k.received.kept))
          (append-nil k.received.read) ∙ none

  -- a job that was told more bytes of its request: it keeps what counts of all, and may have decided their code
  record HeardMore (request came : List ℕ) (s t : Stage) (w : Turning) : Type 0 where
    code : Option ℤ
    is : (found : ℤ) → code ≡ Some found → early_code g (kept_of g (request ++ came)) false ≡ Some found
    goes : Serves g (onward (maybe_coded code (reading_job (kept_of g (request ++ came))))) s w t

  heard_more : (request came : List ℕ) (count : ℕ) (s t : Stage) (w : Turning)
      → Serves g ((dispatching g).heard (moving_with (reading_job request))
      (events.HasRead c 4096 (readers.Server (served.Got count)) came)) s w t
      → HeardMore request came s t w
  heard_more request came count s t w goes = by (nat_lt (length request) (length (kept_of g (request ++ came)))) goes
    where
      by : (b : Bool) → Serves g (onward
          (cond b (judged g (trimmed g (reading_job (request ++ came)))) (trimmed g (reading_job (request ++ came)))))
          s w t
          → HeardMore request came s t w
      by true goes = record {
        code = early_code g (kept_of g (request ++ came)) false;
        is = λ found same. same;
        goes = goes;
      }
      by false goes = record { code = None; is = λ found same. absurd cc; goes = goes }

  -- what is there is read, a part at a time; the fuel is its length
  pub reads_out : (fuel : ℕ) (k : CallLooks) (request : List ℕ) (s t : Stage) (w : Turning)
      → length (unread_of k.received) ≤ fuel
      → Goes k request s w t → ReadOut w t
  reads_out zero k request s t w few go = read_nothing k request s t w (is_complete k.received)
      (none_left (unread_of k.received) few) refl go
    where
      none_left : (u : List ℕ) → length u ≤ 0 → u ≡ []
      none_left [] short = refl
      none_left (b ∷ bs) short = absurd (omega arith)
  reads_out (suc fuel) k request s t w few go =
      of (λ k2 r2 s2 short go2. reads_out fuel k2 r2 s2 t w short go2) (unread_of k.received) refl
    where
      more : ((k2 : CallLooks) (r2 : List ℕ) (s2 : Stage) → length (unread_of k2.received) ≤ fuel → Goes k2 r2 s2 w t
          → ReadOut w t)
          → (b : ℕ) (bs : List ℕ) → unread_of k.received ≡ b ∷ bs → ReadOut w t
      more again b bs is =
          let came : List ℕ = take 4096 (b ∷ bs) in
          let count : ℕ = min 4096 (length (b ∷ bs)) in
          let n = read_once k request s t w (reads.Got count) came
          (ap (λ (u : List ℕ). read_from 4096 u (is_complete k.received)) is) go in
          let k2 : CallLooks = after_read now false came k in
          let e : Event = events.HasRead c 4096 (readers.Server (served.Got count)) came in
          let two2 : Two x (served_with k2) lc cs js n.stage =
          two_as x (after (server_setup x) e (served_with k)) lc (served_with k2) lc cs js n.stage n.stage
          (server_read x (c ∷ []) now used given 4096 k (served.Got count) came) refl refl n.two in
          let left : unread_of k2.received ≡ drop 4096 (b ∷ bs) =
          ap (λ (u : List ℕ). unread_of (after_read now false (take 4096 u) k).received) (sym is)
          ∙ unread_behind now 4096 k ∙ ap (λ (u : List ℕ). drop 4096 u) is in
          let whole : length (unread_of k.received) ≡ length (b ∷ bs) = ap (λ (u : List ℕ). length u) is in
          let rest : length (unread_of k2.received) ≡ length (b ∷ bs) - 4096 = ap (λ (u : List ℕ). length u) left
          ∙ length-drop 4096 (b ∷ bs) in
          let h = heard_more request came count n.stage t w n.goes in
          let rest_ : came ++ unread_of k2.received ≡ unread_of k.received = ap (λ (u : List ℕ). came ++ u) left
          ∙ take-append-drop 4096 (b ∷ bs) ∙ sym is in
          on k2 (kept_of g (request ++ came)) n.stage (closed k request came rest_ go.0) two2 h.code h.is h.goes
          (omega arith)
        where
          on : (k2 : CallLooks) (r2 : List ℕ) (s2 : Stage) → P k2 r2 → Two x (served_with k2) lc cs js s2
              → (o : Option ℤ)
              → ((found : ℤ) → o ≡ Some found → early_code g r2 false ≡ Some found)
              → Serves g (onward (maybe_coded o (reading_job r2))) s2 w t → length (unread_of k2.received) ≤ fuel
              → ReadOut w t
          on k2 r2 s2 good two2 None code goes short = again k2 r2 s2 short (good, two2, goes)
          on k2 r2 s2 good two2 (Some found) code goes short = decides k2 r2 found s2 good (code found refl) two2 goes

      of : ((k2 : CallLooks) (r2 : List ℕ) (s2 : Stage) → length (unread_of k2.received) ≤ fuel → Goes k2 r2 s2 w t
          → ReadOut w t)
          → (u : List ℕ) → unread_of k.received ≡ u → ReadOut w t
      of again [] is = read_nothing k request s t w (is_complete k.received) is refl go
      of again (b ∷ bs) is = more again b bs is
