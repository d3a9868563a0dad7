-- The callers of a driven plan, and of rounds behind it: each call of a client has one, which isn't finished while the
-- call lives, and shut where the call is shut.
use Rattle.std.proofs.Common.{◌≡◌, ◌&&◌, not, ℕ, ℤ, Bool, true, false, List, ◌∷◌, refl, ap, sym, subst, ◌∙◌, Option}
use Rattle.std.proofs.Common.{Some, None, Result, Ok, Err}
use Rattle.rx_model.specs.declared.answers.End.{End}
use Rattle.rx_model.specs.declared.answers.NotOpen.{NotOpen}
use Rattle.rx_model.specs.declared.answers.ReadAns.{ReadAns}
use Rattle.rx_model.specs.declared.answers.CallRead.{CallRead}
use Rattle.rx_model.specs.declared.answers.CallRead.TheVariants as callreads
use Rattle.rx_model.specs.declared.answers.ReadGot.TheVariants as readers
use Rattle.rx_model.specs.declared.answers.WroteGot.TheVariants as writers
use Rattle.rx_model.specs.declared.event.Event.{Event}
use Rattle.rx_model.specs.declared.event.Event.TheVariants as events
use Rattle.rx_model.specs.declared.names.CallName.{CallName}
use Rattle.rx_model.specs.declared.names.Host.{Host}
use Rattle.rx_model.specs.Names.{connection_of}
use Rattle.rx_rules.specs.After.{after, is_end, looks}
use Rattle.rx_rules.specs.CallLooks.{after_read, after_shut, after_write, fresh_call}
use Rattle.rx_rules.specs.Life.{Life, after_cancel, after_end, is_live}
use Rattle.rx_rules.specs.Life as lives
use Rattle.rx_rules.specs.Looks.{CallRecord, Looks, call_at, is_call, on_life, on_looks}
use Rattle.rx_rules.specs.Received.{read_of}
use Rattle.rx_rules.specs.Rules.{AllowedClient, Legal, can_say, client_read, client_read_by, client_read_got}
use Rattle.rx_rules.specs.Rules.{done_where, own_call}
use Rattle.rx_rules.specs.Setup.{Client, FitsSetup, Setup, pace_of}
use Rattle.rx_history.specs.Starts.{StartsNew}
use Rattle.rx_history.proofs.ClientHistory.{client-calls, clients}
use Rattle.rx_history.proofs.Server.{spared-starts}
use Rattle.rx_history.proofs.Takes.{call_at-any}
use Rattle.rx_asks.specs.declared.ask.TheConstants.{REPLY_BYTES}
use Rattle.rx_asks.specs.Asks.{Asking, Cancels, IsAsked, Offers, Reads, Shuts, begun, calling, end_after, heard}
use Rattle.rx_asks.specs.History.{Drives, IsCalled, IsCalledAt, begins, leaves, makes, starts}
use Rattle.rx_asks.specs.View.{CallerState, caller_for}
use Rattle.rx_asks.proofs.Asked.{asks_own}
use Rattle.rx_asks.proofs.Driving.{none_starts, tells_driven}
use Rattle.rx_asks.proofs.Kept.{Kept, Spoken}
use Rattle.rx_asks.proofs.KeptEvents.{kept_after}
use Rattle.rx_plan.proofs.Callers.{heard_call}
use Rattle.rx_asks.proofs.CallerEvents.{own_change, own_is, own_read}

-- ---- of a caller and its call

-- while its call lives it isn't finished, and it shut where the call is shut
abbrev pub HoldsBy : CallerState → Option CallRecord → Type 0
HoldsBy v None = Unit {0}
HoldsBy v (Some r) = r.life ≡ lives.Calling → (v.end ≡ None) × (v.shut ≡ r.looks.sent.shut)

-- a call that is there
record ThereIs (o : Option CallRecord) : Type 0 where
  call : CallRecord
  there : o ≡ Some call
  called : IsCalled call.life

there_is : (o : Option CallRecord) → IsCalledAt o → ThereIs o
there_is None called = absurd called
there_is (Some k) called = record { call = k; there = refl; called = called }

holds_begun : (v : CallerState) (o : Option CallRecord) → HoldsBy v o → HoldsBy (begun v) o
holds_begun v None holds = tt
holds_begun v (Some k) holds = λ living. holds living

-- no end and no cancel leaves a call alive
end_calling : (end : Bool) (x : Life) → after_end end x ≡ lives.Calling → (end ≡ false) × (x ≡ lives.Calling)
end_calling false x is = (refl, is)
end_calling true lives.Calling is = absurd cc
end_calling true (lives.Ended end) is = absurd cc
end_calling true lives.Waiting is = absurd cc
end_calling true lives.Accepted is = absurd cc
end_calling true lives.Finished is = absurd cc
end_calling true (lives.Broken code) is = absurd cc
end_calling true (lives.Over code) is = absurd cc

cancel_calling : (code : ℤ) (x : Life) → after_cancel code x ≡ lives.Calling → ⊥
cancel_calling code lives.Calling is = absurd cc
cancel_calling code (lives.Ended end) is = absurd cc
cancel_calling code lives.Waiting is = absurd cc
cancel_calling code lives.Accepted is = absurd cc
cancel_calling code lives.Finished is = absurd cc
cancel_calling code (lives.Broken code') is = absurd cc
cancel_calling code (lives.Over code') is = absurd cc

-- a read of a call that lives tells no end but its own
open_end : (got : CallRead) (before : Option End) → is_end (readers.Client (client_read_got got)) ≡ false
    → end_after (client_read_got got) before ≡ before
open_end (callreads.Got n) before open_ = refl
open_end callreads.End before open_ = absurd cc
open_end callreads.NotYet before open_ = refl

shut_refused : (k : CallRecord) → k.life ≡ lives.Calling
    → ◌≡◌ {A = Result (Unit {0}) NotOpen} (Err (record {})) (done_where (can_say k)) → k.looks.sent.shut ≡ true
shut_refused k calling is = of k.looks.sent.shut refl
  where
    of : (b : Bool) → k.looks.sent.shut ≡ b → b ≡ true
    of true shut = refl
    of false open_ =
        absurd (let says : can_say k ≡ true =
        (λ i. is_live (calling i) && not (open_ i)) in
        let never : ◌≡◌ {A = Result (Unit {0}) NotOpen} (Err (record {})) (Ok tt) = is ∙ ap done_where says in cc)

-- ---- along a history

module _ (s : Setup) (host : Host) (epoch : ℕ) (kind : s.kind ≡ Client host epoch) (fits : FitsSetup s) where
  -- behind an event of its own
  holds_made : (v : CallerState) (h : List Event) (k : CallRecord) (a : Asking) (e : Event) → Legal s h
      → call_at (looks s h) v.call ≡ Some k → (calling REPLY_BYTES).asks v ≡ Some a → IsAsked a e
      → AllowedClient s host epoch (looks s h) e → HoldsBy v (Some k)
      → HoldsBy (heard v e) (call_at (after s e (looks s h)) v.call)
  holds_made v h k (Offers c block) (events.Wrote d offered (writers.Client got) bytes) legal there asked is allowed
      holds =
      let own : d ≡ v.call = is.0 ∙ asks_own REPLY_BYTES v (Offers c block) asked in
      let at : call_at (on_looks d (after_write bytes) (looks s h)) v.call
      ≡ Some (record k { looks = after_write bytes k.looks }) =
      ap (λ (n : CallName). call_at (on_looks n (after_write bytes) (looks s h)) v.call) own
      ∙ own_change v.call (λ i. record i { looks = after_write bytes i.looks }) (looks s h) k (λ i. refl) there in
      subst (HoldsBy (heard v (events.Wrote d offered (writers.Client got) bytes))) (sym at) (λ living. holds living)
  holds_made v h k (Offers c block) e legal there asked is allowed holds = elim is [ ]
  holds_made v h k (Shuts c) (events.Shut d (Ok done)) legal there asked is allowed holds =
      let own : d ≡ v.call = is ∙ asks_own REPLY_BYTES v (Shuts c) asked in
      let at : call_at (on_looks d after_shut (looks s h)) v.call ≡ Some (record k { looks = after_shut k.looks }) =
      ap (λ (n : CallName). call_at (on_looks n after_shut (looks s h)) v.call) own
      ∙ own_change v.call (λ i. record i { looks = after_shut i.looks }) (looks s h) k (λ i. refl) there in
      subst (HoldsBy (heard v (events.Shut d (Ok done)))) (sym at) (λ living. ((holds living).0, refl))
  holds_made v h k (Shuts c) (events.Shut d (Err closed)) legal there asked is allowed holds =
      let own : d ≡ v.call = is ∙ asks_own REPLY_BYTES v (Shuts c) asked in
      subst (HoldsBy (heard v (events.Shut d (Err closed)))) (sym there)
      (λ living. (
        (holds living).0,
        sym (shut_refused k living
            (allowed ∙ ap (λ (n : CallName). done_where (is_call can_say (own_call (looks s h) n))) own
            ∙ ap (λ (o : Option CallRecord). done_where (is_call can_say o))
            (own_is s h v.call k legal there (ap is_live living)))),
      ))
  holds_made v h k (Shuts c) e legal there asked is allowed holds = elim is [ ]
  holds_made v h k (Reads c max) (events.HasRead d most (readers.Client got) bytes) legal there asked is allowed holds =
      let own : d ≡ v.call = is.0 ∙ asks_own REPLY_BYTES v (Reads c max) asked in
      let end : Bool = is_end (readers.Client got) in
      let e : Event = events.HasRead d most (readers.Client got) bytes in
      let at : call_at (after s e (looks s h)) v.call
      ≡ Some (record k { life = after_end end k.life; looks = after_read (looks s h).now end bytes k.looks }) =
      ap (λ (n : CallName). call_at (after s (events.HasRead n most (readers.Client got) bytes) (looks s h)) v.call) own
      ∙ own_read v.call end bytes (looks s h) k there in
      subst (HoldsBy (heard v e)) (sym at)
      (λ living. (
      let was = end_calling end k.life living in
      let read : ◌≡◌ {A = ReadAns × List ℕ} (got, bytes)
      (client_read_by lives.Calling (read_of k.looks.received most)) =
      allowed.1 ∙ ap (λ (n : CallName). client_read (own_call (looks s h) n) most) own
      ∙ ap (λ (o : Option CallRecord). client_read o most)
      (own_is s h v.call k legal there (ap is_live was.1))
      ∙ ap (λ (x : Life). client_read_by x (read_of k.looks.received most)) was.1 in
      let got_is : got ≡ client_read_got (read_of k.looks.received most).0 =
      ap (λ (p : ReadAns × List ℕ). p.0) read in
      let still : end_after got v.end ≡ v.end =
      ap (λ (g : ReadAns). end_after g v.end) got_is
      ∙ open_end (read_of k.looks.received most).0 v.end
      (ap (λ (g : ReadAns). is_end (readers.Client g)) (sym got_is) ∙ was.0) in (
        still ∙ (holds was.1).0,
        (holds was.1).1,
      )))
  holds_made v h k (Reads c max) e legal there asked is allowed holds = elim is [ ]
  holds_made v h k (Cancels c code) (events.Cancelled d told (Ok done)) legal there asked is allowed holds =
      let own : d ≡ v.call = is.0 ∙ asks_own REPLY_BYTES v (Cancels c code) asked in
      let at : call_at (on_life d (after_cancel told) (looks s h)) v.call
      ≡ Some (record k { life = after_cancel told k.life }) =
      ap (λ (n : CallName). call_at (on_life n (after_cancel told) (looks s h)) v.call) own
      ∙ own_change v.call (λ i. record i { life = after_cancel told i.life }) (looks s h) k (λ i. refl) there in
      subst (HoldsBy (heard v (events.Cancelled d told (Ok done)))) (sym at)
      (λ living. absurd (cancel_calling told k.life living))
  holds_made v h k (Cancels c code) (events.Cancelled d told (Err closed)) legal there asked is allowed holds =
      let own : d ≡ v.call = is.0 ∙ asks_own REPLY_BYTES v (Cancels c code) asked in
      subst (HoldsBy (heard v (events.Cancelled d told (Err closed)))) (sym there)
      (λ living. absurd (
      let never : ◌≡◌ {A = Result (Unit {0}) NotOpen} (Err closed) (Ok tt) =
      allowed.2 ∙ ap (λ (n : CallName). done_where (is_call (λ i. is_live i.life) (own_call (looks s h) n))) own
      ∙ ap (λ (o : Option CallRecord). done_where (is_call (λ i. is_live i.life) o))
      (own_is s h v.call k legal there (ap is_live living))
      ∙ ap (λ (x : Life). done_where (is_live x)) living in
      cc))
  holds_made v h k (Cancels c code) e legal there asked is allowed holds = elim is [ ]

  -- behind an event of others
  holds_kept : (v : CallerState) (a b : Option CallRecord) → Kept a b → IsCalledAt a → HoldsBy v a → HoldsBy v b
  holds_kept v None b kept called holds = absurd called
  holds_kept v (Some a) None kept called holds = tt
  holds_kept v (Some a) (Some b) kept called holds = λ living. (
      let was = holds (lived a.life called (λ end ends_so. kept.life.ended end ends_so) living) in (
        was.0,
        was.1 ∙ ap (λ (x : Spoken). x.shut) (sym kept.spoken),
      ))
    where
      lived : (x : Life) → IsCalled x → ((end : End) → x ≡ lives.Ended end → b.life ≡ lives.Ended end)
          → b.life ≡ lives.Calling → x ≡ lives.Calling
      lived lives.Calling called ended living = refl
      lived (lives.Ended end) called ended living =
          absurd (let never : lives.Ended end ≡ lives.Calling = sym (ended end refl) ∙ living in cc)
      lived _ called ended living = absurd called

  -- along a history that it drives
  pub holds_driven : (request : List ℕ) (v : CallerState) (h : List Event) → Legal s h → Drives REPLY_BYTES request v h
      → HoldsBy v (call_at (looks s h) v.call)
  holds_driven request v h legal (starts cid c h') =
      let l : Looks = looks s h' in
      let new : CallRecord =
      record { name = c; life = lives.Calling; looks = fresh_call (pace_of s) l.now } in
      let found : call_at (after s (events.Called cid (Ok c)) l) c ≡ Some new =
      call_at-any c new l refl (call_at l c) refl in
      subst (HoldsBy (caller_for c request)) (sym found) (λ living. (refl, refl))
  holds_driven request v h legal (begins w h' drives) =
      holds_begun w (call_at (looks s h') w.call) (holds_driven request w h' legal drives)
  holds_driven request v h legal (makes w a e h' asked is drives) =
      let tells = tells_driven s host epoch REPLY_BYTES request w h' kind fits legal.1 drives in
      let t = there_is (call_at (looks s h') w.call) tells.called in
      subst (λ (n : CallName). HoldsBy (heard w e) (call_at (looks s (e ∷ h')) n)) (sym (heard_call w e))
      (holds_made w h' t.call a e legal.1 t.there asked is (clients s.kind s host epoch (looks s h') e kind legal.0)
      (subst (HoldsBy w) t.there (holds_driven request w h' legal.1 drives)))
  holds_driven request v h legal (leaves w e h' leaves_it drives) =
      let l : Looks = looks s h' in
      let tells = tells_driven s host epoch REPLY_BYTES request w h' kind fits legal.1 drives in
      let before = client-calls s host epoch h' kind fits legal.1 in
      let behind = client-calls s host epoch (e ∷ h') kind fits legal in
      let allowed = clients s.kind s host epoch l e kind legal.0 in
      let new : StartsNew s l e w.call =
      spared-starts (Unit {0}) w.call s l e (before.sound w.call) (behind.spared (connection_of w.call)) in
      holds_kept w (call_at l w.call) (call_at (after s e l) w.call)
      (kept_after s host epoch l w.call e allowed leaves_it
      (none_starts s l w.call tells.called host epoch e kind fits allowed (before.sound w.call) before.standing.conns
      new)) tells.called (holds_driven request w h' legal.1 drives)
