-- A turn of the caller while its reply comes: it reads all that stands without a gap, or has read the end.
use Rattle.std.proofs.Common.{◌≡◌, ◌≤◌, ◌+◌, ◌-◌, ◌*◌, ◌++◌, ℕ, suc, zero, min, Bool, true, false, List}
use Rattle.std.proofs.Common.{[], ◌∷◌, refl, ap, sym, subst, ◌∙◌, Option, Some, None, length, take, drop}
use Rattle.std.proofs.Common.{arith, append-nil, length-take, length-drop}
use Rattle.std.proofs.lemmas.Bool.{le-ltb}
use Rattle.std.proofs.lemmas.List.{length-append, take-append-drop}
use Rattle.rx_model.specs.declared.answers.CallRead.{CallRead}
use Rattle.rx_model.specs.declared.answers.CallRead.TheVariants as reads
use Rattle.rx_model.specs.declared.answers.End.{End}
use Rattle.rx_model.specs.declared.answers.End.TheVariants as ends
use Rattle.rx_model.specs.declared.answers.ReadAns.TheVariants as answers
use Rattle.rx_model.specs.declared.answers.ReadGot.TheVariants as readers
use Rattle.rx_model.specs.declared.event.Event.{Event}
use Rattle.rx_model.specs.declared.event.Event.TheVariants as events
use Rattle.rx_model.specs.declared.names.CallName.{CallName}
use Rattle.rx_rules.specs.After.{after}
use Rattle.rx_rules.specs.CallLooks.{CallLooks, after_read}
use Rattle.rx_rules.specs.Life as lives
use Rattle.rx_rules.specs.Looks.{CallRecord, Looks}
use Rattle.rx_rules.specs.Received.{is_complete, read_from, unread_of}
use Rattle.rx_rules.specs.Rules.{client_read, client_read_by}
use Rattle.rx_asks.specs.declared.ask.Phase.{Phase}
use Rattle.rx_asks.specs.declared.ask.Phase.TheVariants as phases
use Rattle.rx_asks.specs.declared.ask.TheConstants.{REPLY_BYTES}
use Rattle.rx_asks.specs.Asks.{Reads, calling}
use Rattle.rx_asks.specs.View.{CallerState}
use Rattle.rx_jobs.specs.Jobs.{JobState}
use Rattle.rx_plan.specs.Stages.{InvokedState, Stage}
use Rattle.rx_plan.specs.Turned.{turns_all}
use Rattle.rx_script.specs.Served.{bytes}
use Rattle.rx_rounds.proofs.Between.{EndsWith, caller_with, client_at}
use Rattle.rx_rounds.proofs.Flow.{total}
use Rattle.rx_rounds.proofs.Keeping.{HasEnded}
use Rattle.rx_rounds.proofs.One.OneCall.{Ends, client_setup, from_client, the_call}
use Rattle.rx_rounds.proofs.One.OneRequest.{whole_is}
use Rattle.rx_rounds.proofs.RoundParts.{two_callers}
use Rattle.rx_rounds.proofs.One.OneSteps.{client_read_on, own_is}
use Rattle.rx_rounds.proofs.Reading.ReadOn.{IsRead, read_out, reads_more, unread_still}
use Rattle.rx_rounds.proofs.Reading.ReadsOut.{unread_behind}
use Rattle.rx_rounds.proofs.Replies.ReplyStream.{heard_kept, heard_whole}
use Rattle.rx_rounds.proofs.Rounded.{Made, call_to, caller_at}
use Rattle.rx_rounds.proofs.Turned.{Calls, Calls_, calls_over, calls_read, read_event}
use Rattle.rx_rounds.proofs.Two.{Two, two_as}

module _ (x : Ends) (reply : List ℕ) (ls : Looks) (js : List JobState) (call line given used now p n : ℕ)
    (firsts : List CallName) (first : CallLooks) (fits : length reply ≤ REPLY_BYTES) where
  abbrev c : CallName
  c = the_call x

  abbrev kept_with : CallLooks → Looks
  kept_with k = client_at x given used firsts now k

  abbrev IsReadOf : List ℕ → CallLooks → Type 0
  IsReadOf read k = IsRead reply now p n first read k

  abbrev caller_in : Phase → List ℕ → CallerState
  caller_in phase read = caller_with x [] true read phase

  -- how the turn ends: all that stands is read, and there is more to come; or the caller ended
  pub data CallerRead (w : CallerState) (t : Stage) : Type 0 where
    reads_on : (k : CallLooks) (read : List ℕ) → IsReadOf read k → unread_of k.received ≡ []
        → is_complete k.received ≡ false → (cs : List InvokedState) → Two x ls (kept_with k) cs js t
        → w ≡ caller_in phases.Resting read → CallerRead w t
    has_ended : (end : Option End) (read : List ℕ)
        → EndsWith x (bytes reply) (record (caller_in phases.Resting read) { end = end })
        → (phase : Phase) → w ≡ record (caller_in phase read) { end = end } → CallerRead w t

  abbrev Goes : CallLooks → List ℕ → Phase → Stage → CallerState → Stage → Type 0
  Goes k read phase s w t =
      (cs : List InvokedState) × Two x ls (kept_with k) cs js s × Calls REPLY_BYTES (caller_in phase read) s w t

  -- one read
  read_once : (k : CallLooks) (read : List ℕ) (phase : Phase) (s t : Stage) (w : CallerState) (got : CallRead)
      (came : List ℕ) → read_from 4096 (unread_of k.received) (is_complete k.received) ≡ (got, came)
      → (calling REPLY_BYTES).asks (caller_in phase read) ≡ Some (Reads c 4096)
      → (go : Goes k read phase s w t)
      → Calls_ x REPLY_BYTES ls (kept_with k) go.0 js (caller_in phase read)
      (events.HasRead c 4096 (readers.Client (client_read_by lives.Calling (got, came)).0)
      (client_read_by lives.Calling (got, came)).1) w t
  read_once k read phase s t w got came is asked go =
      let same : read_event x (kept_with k) c 4096
      ≡ events.HasRead c 4096 (readers.Client (client_read_by lives.Calling (got, came)).0)
      (client_read_by lives.Calling (got, came)).1 =
      ap (λ (o : Option CallRecord). events.HasRead c 4096 (readers.Client (client_read o 4096).0)
      (client_read o 4096).1) (own_is x None given used firsts now lives.Calling k)
      ∙ ap (λ (r : CallRead × List ℕ). events.HasRead c 4096 (readers.Client (client_read_by lives.Calling r).0)
      (client_read_by lives.Calling r).1) is in
      subst (λ (e : Event). Calls_ x REPLY_BYTES ls (kept_with k) go.0 js (caller_in phase read) e w t) same
      (calls_read x REPLY_BYTES ls (kept_with k) go.0 js (caller_in phase read) w s t c 4096 go.1 asked go.2)

  -- where it reads on in a turn
  pub data Asks : Phase → Type 0 where
    begins : Asks phases.Offering
    goes_on : Asks phases.Reading

  asks_read : (read : List ℕ) (phase : Phase) → Asks phase → length read ≤ REPLY_BYTES
      → (calling REPLY_BYTES).asks (caller_in phase read) ≡ Some (Reads c 4096)
  asks_read read phase begins short = rw (le-ltb REPLY_BYTES (length read) short) refl
  asks_read read phase goes_on short = rw (le-ltb REPLY_BYTES (length read) short) refl

  asks_none : (read : List ℕ) → length read ≤ REPLY_BYTES
      → (calling REPLY_BYTES).asks (caller_in phases.Resting read) ≡ None
  asks_none read short = rw (le-ltb REPLY_BYTES (length read) short) refl

  -- it never reads more than it keeps
  read_few : (read : List ℕ) (k : CallLooks) → IsReadOf read k → length read ≤ REPLY_BYTES
  read_few read k h =
      let whole : length read + length (unread_of k.received) ≡ length (take (1412 * n) reply) =
      sym (length-append read (unread_of k.received)) ∙ ap (λ (ys : List ℕ). length ys) h.front in
      omega (arith, fits, length-take (1412 * n) reply)

  -- nothing is there to read
  read_nothing : (k : CallLooks) (read : List ℕ) (phase : Phase) (s t : Stage) (w : CallerState) (whole : Bool)
      → n ≤ total reply → Asks phase → IsReadOf read k
      → unread_of k.received ≡ [] → is_complete k.received ≡ whole
      → Goes k read phase s w t → CallerRead w t
  read_nothing k read phase s t w true within on h none is go =
      let m = read_once k read phase s t w reads.End []
      (ap (λ (u : List ℕ). read_from 4096 u (is_complete k.received)) none ∙ ap (read_from 4096 []) is)
      (asks_read read phase on (read_few read k h)) go in
      let v : CallerState = record (caller_in phases.Resting (read ++ [])) { end = Some ends.Ok } in
      let o = calls_over REPLY_BYTES v w m.stage t refl m.goes in
      let all : n ≡ total reply = whole_is reply read p n within
      (ap (λ (i : CallLooks). is_complete i.received) (sym h.is) ∙ is) in
      let stood : read ≡ reply = read_out reply now p n first read k h none
      ∙ sym (heard_kept reply n) ∙ heard_whole reply n all in
      has_ended (Some ends.Ok) read (refl, stood) phases.Resting
      (o.0 ∙ ap (λ (ys : List ℕ). record (caller_in phases.Resting ys) { end = Some ends.Ok }) (append-nil read))
  read_nothing k read phase s t w false within on h none is go =
      let m = read_once k read phase s t w reads.NotYet []
      (ap (λ (u : List ℕ). read_from 4096 u (is_complete k.received)) none ∙ ap (read_from 4096 []) is)
      (asks_read read phase on (read_few read k h)) go in
      let k2 : CallLooks = after_read now false [] k in
      let e : Event = events.HasRead c 4096 (readers.Client answers.NotYet) [] in
      let same : unread_of k2.received ≡ unread_of k.received = unread_still now k in
      let h2 : IsReadOf (read ++ []) k2 = reads_more reply now p n first read [] k same h in
      let o = calls_over REPLY_BYTES (caller_in phases.Resting (read ++ [])) w m.stage t
      (asks_none (read ++ []) (read_few (read ++ []) k2 h2)) m.goes in
      reads_on k2 (read ++ []) h2 (same ∙ none) is go.0
      (two_as x ls (after (client_setup x) e (kept_with k)) ls (kept_with k2) go.0 js m.stage t refl
      (client_read_on x (from_client x given used) firsts now 4096 k answers.NotYet [] refl) (sym o.1) m.two)
      o.0

  -- what is there is read, a part at a time; the fuel is its length
  pub reads_all : (fuel : ℕ) (k : CallLooks) (read : List ℕ) (phase : Phase) (s t : Stage) (w : CallerState)
      → n ≤ total reply → length (unread_of k.received) ≤ fuel → Asks phase → IsReadOf read k
      → Goes k read phase s w t → CallerRead w t
  reads_all zero k read phase s t w within few on h go =
      read_nothing k read phase s t w (is_complete k.received) within on h
      (none_left (unread_of k.received) few) refl go
    where
      none_left : (u : List ℕ) → length u ≤ 0 → u ≡ []
      none_left [] none = refl
      none_left (b ∷ bs) none = absurd (omega arith)
  reads_all (suc fuel) k read phase s t w within few on h go =
      of (λ k2 r2 s2 few2 h2 go2. reads_all fuel k2 r2 phases.Reading s2 t w within few2 goes_on h2 go2)
      (unread_of k.received) refl
    where
      Again : Type 0
      Again = (k2 : CallLooks) (r2 : List ℕ) (s2 : Stage) → length (unread_of k2.received) ≤ fuel
          → IsReadOf r2 k2 → Goes k2 r2 phases.Reading s2 w t → CallerRead w t

      more : Again → (b : ℕ) (bs : List ℕ) → unread_of k.received ≡ b ∷ bs → CallerRead w t
      more again b bs is =
          let came : List ℕ = take 4096 (b ∷ bs) in
          let count : ℕ = min 4096 (length (b ∷ bs)) in
          let m = read_once k read phase s t w (reads.Got count) came
          (ap (λ (u : List ℕ). read_from 4096 u (is_complete k.received)) is)
          (asks_read read phase on (read_few read k h)) go in
          let k2 : CallLooks = after_read now false came k in
          let e : Event = events.HasRead c 4096 (readers.Client (answers.Got count)) came in
          let two2 : Two x ls (kept_with k2) go.0 js m.stage =
          two_as x ls (after (client_setup x) e (kept_with k)) ls (kept_with k2) go.0 js m.stage m.stage refl
          (client_read_on x (from_client x given used) firsts now 4096 k (answers.Got count) came refl) refl m.two in
          let left : unread_of k2.received ≡ drop 4096 (b ∷ bs) =
          ap (λ (u : List ℕ). unread_of (after_read now false (take 4096 u) k).received) (sym is)
          ∙ unread_behind now 4096 k ∙ ap (λ (u : List ℕ). drop 4096 u) is in
          let rest : came ++ unread_of k2.received ≡ unread_of k.received =
          ap (λ (u : List ℕ). came ++ u) left ∙ take-append-drop 4096 (b ∷ bs) ∙ sym is in
          let h2 : IsReadOf (read ++ came) k2 = reads_more reply now p n first read came k rest h in
          let size : length (unread_of k.received) ≡ length (b ∷ bs) = ap (λ (u : List ℕ). length u) is in
          let less : length (unread_of k2.received) ≡ length (b ∷ bs) - 4096 = ap (λ (u : List ℕ). length u) left
          ∙ length-drop 4096 (b ∷ bs) in
          again k2 (read ++ came) m.stage (omega arith) h2 (go.0, two2, m.goes)

      of : Again → (u : List ℕ) → unread_of k.received ≡ u → CallerRead w t
      of again [] is = read_nothing k read phase s t w (is_complete k.received) within on h is refl go
      of again (b ∷ bs) is = more again b bs is

  -- ---- the turn

  -- how it went
  pub data ReplyRead (t : Stage) : Type 0 where
    waits_for_more : (k : CallLooks) (read : List ℕ) → IsReadOf read k → unread_of k.received ≡ []
        → is_complete k.received ≡ false
        → Two x ls (kept_with k) (caller_at call line (caller_in phases.Resting read) ∷ []) js t → ReplyRead t
    caller_ended : (v : CallerState) → HasEnded call line v t → EndsWith x (bytes reply) v → ReplyRead t

  pub reply_read : (k : CallLooks) (read : List ℕ) (phase : Phase) (s t : Stage) → n ≤ total reply
      → IsReadOf read k
      → Two x ls (kept_with k) (caller_at call line (caller_in phase read) ∷ []) js s → Made turns_all s t → ReplyRead t
  reply_read k read phase s t within h two made =
      let m = call_to x ls (kept_with k) js call line (caller_in phase read) s t two made in
      by m.view m.stage m.then_
      (reads_all (length (unread_of k.received)) k read phases.Offering s m.stage m.view within (omega arith) begins
      h (caller_at call line (caller_in phase read) ∷ [], two, m.calls))
    where
      by : (w : CallerState) (u : Stage) → t ≡ record u { callers = caller_at call line w ∷ [] } → CallerRead w u
          → ReplyRead t
      by w u then_ (reads_on k2 read2 h2 none part cs two2 same) =
          waits_for_more k2 read2 h2 none part
          (two_callers x ls (kept_with k2) cs (caller_at call line (caller_in phases.Resting read2) ∷ []) js u t
          (then_ ∙ ap (λ (v : CallerState). record u { callers = caller_at call line v ∷ [] }) same) two2)
      by w u then_ (has_ended end read2 ends_ phase2 same) =
          caller_ended (record (caller_in phases.Resting read2) { end = end })
          (record {
            phase = phase2;
            is = ap (λ (v : Stage). v.callers) then_ ∙ ap (λ (v : CallerState). caller_at call line v ∷ []) same;
          }) ends_
