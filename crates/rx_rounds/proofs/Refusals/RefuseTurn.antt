-- A turn of the caller whose call ended with a code: it is told so, and ends.
use Rattle.std.proofs.Common.{◌≡◌, ◌<◌, ◌++◌, ℕ, ℤ, Bool, true, false, List, [], ◌∷◌, refl, ap}
use Rattle.std.proofs.Common.{None}
use Rattle.std.proofs.Common.{subst, ◌∙◌, Option, Some, Result, Err, length, take, arith, length-take}
use Rattle.std.proofs.lemmas.Bool.{lt-ltb}
use Rattle.rx_model.specs.declared.answers.End.TheVariants as ends
use Rattle.rx_model.specs.declared.answers.NotOpen.{NotOpen}
use Rattle.rx_model.specs.declared.answers.ReadAns.TheVariants as answers
use Rattle.rx_model.specs.declared.answers.ReadGot.TheVariants as readers
use Rattle.rx_model.specs.declared.answers.WroteGot.TheVariants as writers
use Rattle.rx_model.specs.declared.event.Event.{Event}
use Rattle.rx_model.specs.declared.event.Event.TheVariants as events
use Rattle.rx_model.specs.declared.names.CallName.{CallName}
use Rattle.rx_rules.specs.After.{after}
use Rattle.rx_rules.specs.CallLooks.{CallLooks, after_write}
use Rattle.rx_rules.specs.Life as lives
use Rattle.rx_rules.specs.Looks.{CallRecord, Looks, is_call}
use Rattle.rx_rules.specs.Rules.{can_say, client_read, client_write, done_where, own_call}
use Rattle.rx_asks.specs.declared.ask.Phase.{Phase}
use Rattle.rx_asks.specs.declared.ask.Phase.TheVariants as phases
use Rattle.rx_asks.specs.declared.ask.TheConstants.{REPLY_BYTES}
use Rattle.rx_asks.specs.Asks.{Reads, calling}
use Rattle.rx_asks.specs.View.{CallerState}
use Rattle.rx_events.specs.Events.{written_count}
use Rattle.rx_jobs.specs.Jobs.{JobState}
use Rattle.rx_plan.specs.Stages.{InvokedState, Stage}
use Rattle.rx_plan.specs.Turned.{turns_all}
use Rattle.rx_rounds.proofs.Between.{caller_with}
use Rattle.rx_rounds.proofs.Keeping.{HasEnded}
use Rattle.rx_rounds.proofs.One.OneCall.{Ends, client_setup, from_client, the_call}
use Rattle.rx_rounds.proofs.One.OneSteps.{own_is, wrote}
use Rattle.rx_rounds.proofs.Refusals.RefuseCode.{aborted_at}
use Rattle.rx_rounds.proofs.Rounded.{Made, call_to, caller_at}
use Rattle.rx_rounds.proofs.Turned.{Calls, Calls_, calls_offer, calls_over, calls_read, calls_shut, offer_event}
use Rattle.rx_rounds.proofs.Turned.{read_event}
use Rattle.rx_rounds.proofs.Turned.{shut_event}
use Rattle.rx_rounds.proofs.Two.{Two, two_as}

module _ (x : Ends) (ls : Looks) (js : List JobState) (cs : List InvokedState) (code : ℤ) (given used now : ℕ)
    (firsts : List CallName) where
  abbrev c : CallName
  c = the_call x

  abbrev gone_with : CallLooks → Looks
  gone_with k = aborted_at x code given used firsts now k

  abbrev gone : CallerState → CallerState
  gone v = record v { reply = v.reply ++ []; end = Some (ends.Abort code); phase = phases.Resting }

  -- a read is told
  reads_gone : (k : CallLooks) (v : CallerState) (s t : Stage) (w : CallerState)
      → (calling REPLY_BYTES).asks v ≡ Some (Reads c 4096)
      → Two x ls (gone_with k) cs js s → Calls REPLY_BYTES v s w t → w ≡ gone v
  reads_gone k v s t w asked two calls =
      let e : Event = events.HasRead c 4096 (readers.Client (answers.Gone (ends.Abort code))) [] in
      let is : read_event x (gone_with k) c 4096 ≡ e =
      ap (λ (o : Option CallRecord). events.HasRead c 4096 (readers.Client (client_read o 4096).0)
      (client_read o 4096).1) (own_is x None given used firsts now (lives.Ended (ends.Abort code)) k) in
      let m = subst (λ (f : Event). Calls_ x REPLY_BYTES ls (gone_with k) cs js v f w t) is
      (calls_read x REPLY_BYTES ls (gone_with k) cs js v w s t c 4096 two asked calls) in
      (calls_over REPLY_BYTES (gone v) w m.stage t refl m.goes).0

  -- what was still to be said is refused before
  pub told_gone : (k : CallLooks) (offering : List ℕ) (shut : Bool) (s t : Stage) (w : CallerState)
      → Two x ls (gone_with k) cs js s → Calls REPLY_BYTES (caller_with x offering shut [] phases.Offering) s w t
      → (v : CallerState) × (w ≡ v) × (v.end ≡ Some (ends.Abort code))
  told_gone k offering true s t w two calls =
      let v : CallerState = caller_with x offering true [] phases.Offering in
      (gone v, reads_gone k v s t w refl two calls, refl)
  told_gone k [] false s t w two calls =
      let v : CallerState = caller_with x [] false [] phases.Offering in
      let e : Event = events.Shut c (Err (record {})) in
      let is : shut_event x (gone_with k) c ≡ e =
      ap (λ (o : Option CallRecord). events.Shut c (done_where (is_call can_say o)))
      (own_is x None given used firsts now (lives.Ended (ends.Abort code)) k) in
      let m = subst (λ (f : Event). Calls_ x REPLY_BYTES ls (gone_with k) cs js v f w t) is
      (calls_shut x REPLY_BYTES ls (gone_with k) cs js v w s t c two refl calls) in
      let v1 : CallerState = record v { shut = true } in
      (gone v1, reads_gone k v1 m.stage t w refl m.two m.goes, refl)
  told_gone k (b ∷ bs) false s t w two calls =
      let v : CallerState = caller_with x (b ∷ bs) false [] phases.Offering in
      let block : List ℕ = take 4096 (b ∷ bs) in
      let e : Event = events.Wrote c (length block) (writers.Client (Err (record {}))) [] in
      let refused : ◌≡◌ {A = Result ℕ NotOpen} (client_write (client_setup x) (gone_with k)
      (own_call (gone_with k) c) (length block)) (Err (record {})) =
      ap (λ (o : Option CallRecord). client_write (client_setup x) (gone_with k) o (length block))
      (own_is x None given used firsts now (lives.Ended (ends.Abort code)) k) in
      let is : offer_event x (gone_with k) c block ≡ e =
      ap (λ (r : Result ℕ NotOpen). events.Wrote c (length block) (writers.Client r) (take (written_count r) block))
      refused in
      let m = subst (λ (f : Event). Calls_ x REPLY_BYTES ls (gone_with k) cs js v f w t) is
      (calls_offer x REPLY_BYTES ls (gone_with k) cs js v w s t c block two refl calls) in
      let k1 : CallLooks = after_write [] k in
      let two1 : Two x ls (gone_with k1) cs js m.stage =
      two_as x ls (after (client_setup x) e (gone_with k)) ls (gone_with k1) cs js m.stage m.stage refl
      (wrote (client_setup x) x (from_client x given used) firsts now (length block) (lives.Ended (ends.Abort code)) k
      (writers.Client (Err (record {}))) []) refl m.two in
      let v1 : CallerState = record v { phase = phases.Reading } in
      let some : 0 < length block = omega (arith, length-take 4096 (b ∷ bs)) in
      let heard_is : (calling REPLY_BYTES).heard v e ≡ v1 = rw (lt-ltb 0 (length block) some) refl in
      let goes : Calls REPLY_BYTES v1 m.stage w t =
      subst (λ (u : CallerState). Calls REPLY_BYTES u m.stage w t) heard_is m.goes in
      (gone v1, reads_gone k1 v1 m.stage t w refl two1 goes, refl)

module _ (x : Ends) (ls : Looks) (js : List JobState) (call line : ℕ) (code : ℤ) (given used now : ℕ)
    (firsts : List CallName) (k : CallLooks) (offering : List ℕ) (shut : Bool) (phase : Phase) (s t : Stage) where
  -- so the caller ends with the code
  pub caller_aborted : Two x ls (aborted_at x code given used firsts now k)
      (caller_at call line (caller_with x offering shut [] phase) ∷ []) js s
      → Made turns_all s t → (v : CallerState) × HasEnded call line v t × (v.end ≡ Some (ends.Abort code))
  caller_aborted two made =
      let v0 : CallerState = caller_with x offering shut [] phase in
      let m = call_to x ls (aborted_at x code given used firsts now k) js call line v0 s t two made in
      let g = told_gone x ls js (caller_at call line v0 ∷ []) code given used now firsts k offering shut s m.stage
      m.view
      two m.calls in (
        g.0,
        record {
          phase = g.0.phase;
          is = ap (λ (u : Stage). u.callers) m.then_ ∙ ap (λ (w : CallerState). caller_at call line w ∷ []) g.1;
        },
        g.2,
      )
