-- Which events of a turn make something owed beside what calls give: those alone by which a call ends that was at work.
use Rattle.std.proofs.Common.{◌≡◌, ◌⊎◌, ◌&&◌, ◌==◌, ◌||◌, not, ℕ, ℤ, cond, if◌then◌else◌, Bool, true, false, List, ◌∷◌}
use Rattle.std.proofs.Common.{Option, Some, None, Result, Ok, Err, option_map, refl, inl, inr, ap, sym, subst, ◌∙◌}
use Rattle.rx_model.specs.declared.answers.NotOpen.{NotOpen}
use Rattle.rx_model.specs.declared.answers.ReadAns.{ReadAns}
use Rattle.rx_model.specs.declared.answers.ReadGot.TheVariants as readers
use Rattle.rx_model.specs.declared.answers.ServeRead.{ServeRead}
use Rattle.rx_model.specs.declared.answers.ServeRefused.{ServeRefused}
use Rattle.rx_model.specs.declared.answers.WroteGot.TheVariants as writers
use Rattle.rx_model.specs.declared.event.Event.{Event}
use Rattle.rx_model.specs.declared.event.Event.TheVariants as events
use Rattle.rx_model.specs.declared.names.CallName.{CallName}
use Rattle.rx_model.specs.declared.names.Host.{Host}
use Rattle.rx_model.specs.Names.{channel_of}
use Rattle.rx_model.specs.declared.answers.CallRead.{CallRead}
use Rattle.rx_model.proofs.NameLaws.{name_itself, both}
use Rattle.rx_rules.specs.After.{acknowledged, finish_done, finished, is_end, is_zero, looks, owing_abort, read_done}
use Rattle.rx_rules.specs.CallLooks.{after_read, after_shut}
use Rattle.rx_rules.specs.Life.{Life, after_cancel, after_end, after_finish, is_active, is_calling, is_live}
use Rattle.rx_rules.specs.Life as lives
use Rattle.rx_rules.specs.Looks.{CallRecord, Looks, call_at, channel_at, is_call, on_channel, on_life, on_looks}
use Rattle.rx_rules.specs.Received.{read_of}
use Rattle.rx_rules.specs.Rules.{Allowed, AllowedServer, Legal, done_where, own_call, served_finish, served_read}
use Rattle.rx_rules.specs.Rules.{served_by, served_read_by}
use Rattle.rx_rules.specs.Setup.{Setup, Client, FitsSetup, IsServer}
use Rattle.rx_history.proofs.Calls.{call-changed}
use Rattle.rx_history.proofs.Events.{call-by}
use Rattle.rx_history.proofs.Laws.OnceLaw.{served}
use Rattle.rx_events.specs.Events.{IsClocked}
use Rattle.rx_asks.specs.Asks.{Asking, Cancels, IsAsked, Offers, Reads, Shuts}
use Rattle.rx_asks.specs.History.{IsCalled}
use Rattle.rx_jobs.specs.declared.job.TheConstants.{OFFER_BYTES}
use Rattle.rx_jobs.specs.Jobs.{Ask, IsCall, accept, finish, read, write}
use Rattle.rx_plan.proofs.ClientEnds.{IsCalledOr, calls_called}
use Rattle.rx_between.proofs.Each.EachChange.{changed_twice}
use Rattle.rx_closing.proofs.Owing.ChannelsStay.{IsMute}
use Rattle.rx_closing.proofs.Owing.MayGo.{GoesFor}
use Rattle.rx_history.proofs.ClientHistory.{clients}

-- ---- lives

-- a handler's finish is done of an accepted call alone
pub done_accepted : (x : Life) (ended : Bool)
    → ◌≡◌ {A = Result (Unit {0}) ServeRefused} (served_by x ended tt) (Ok tt) → x ≡ lives.Accepted
done_accepted lives.Accepted ended is = refl
done_accepted _ ended is = absurd cc

pub and_false : (b : Bool) → (b && false) ≡ false
and_false true = refl
and_false false = refl

-- a read that answered the end at a server was of an accepted call
pub end_accepted : (x : Life) (got : CallRead × List ℕ) (answer : ServeRead) (came : List ℕ)
    → ◌≡◌ {A = ServeRead × List ℕ} (answer, came) (served_read_by x got)
    → (is_end (readers.Server answer) && is_calling x) ≡ false
end_accepted lives.Calling got answer came is =
    ap (λ (p : ServeRead × List ℕ). is_end (readers.Server p.0) && true) is
end_accepted _ got answer came is = and_false (is_end (readers.Server answer))

-- a caller asks nothing of a server
pub asked_off : (s : Setup) (l : Looks) (a : Asking) (e : Event) → AllowedServer s l e → IsAsked a e → ⊥
asked_off s l (Offers d block) (events.Wrote b offered (writers.Client got) bytes) allowed is = allowed
asked_off s l (Shuts d) (events.Shut b got) allowed is = allowed
asked_off s l (Reads d max) (events.HasRead b most (readers.Client got) bytes) allowed is = allowed
asked_off s l (Cancels d code) (events.Cancelled b told got) allowed is = allowed
asked_off s l a e allowed is = is

-- a call that was at work, and is so no longer
pub record Ends (l m : Looks) : Type 0 where
  pub name : CallName
  pub before : CallRecord
  pub had : call_at l name ≡ Some before
  pub active : is_active before.life ≡ true
  pub behind : CallRecord
  pub has : call_at m name ≡ Some behind
  pub idle : is_active behind.life ≡ false

-- ---- lives

calling_active : (x : Life) → is_calling x ≡ true → is_active x ≡ true
calling_active lives.Calling is = refl
calling_active _ is = absurd cc

ended_idle : (end : Bool) (x : Life) → end ≡ true → is_calling x ≡ true → is_active (after_end end x) ≡ false
ended_idle false x is calling = absurd cc
ended_idle true lives.Calling is calling = refl
ended_idle true (lives.Ended end) is calling = absurd cc
ended_idle true lives.Waiting is calling = absurd cc
ended_idle true lives.Accepted is calling = absurd cc
ended_idle true lives.Finished is calling = absurd cc
ended_idle true (lives.Broken code) is calling = absurd cc
ended_idle true (lives.Over code) is calling = absurd cc

-- a client's call that lives is at work, and given up it isn't
cancels : (x : Life) (code : ℤ) → IsCalled x → is_live x ≡ true
    → (is_active x ≡ true) × (is_active (after_cancel code x) ≡ false)
cancels lives.Calling code called living = (refl, refl)
cancels (lives.Ended end) code called living = absurd cc
cancels _ code called living = absurd called

-- one that is looked for
record Found (test : CallRecord → Bool) (o : Option CallRecord) : Type 0 where
  call : CallRecord
  is : o ≡ Some call
  passes : test call ≡ true

found : (test : CallRecord → Bool) (o : Option CallRecord) → is_call test o ≡ true → Found test o
found test None is = absurd cc
found test (Some k) is = record { call = k; is = refl; passes = is }

finished_calls : (b : Bool) (d : CallName) (code : ℤ) (l : Looks) → b ≡ false
    → (if b then on_looks d after_shut l else on_channel (channel_of d) (owing_abort (Some code)) l).calls ≡ l.calls
finished_calls false d code l is = refl
finished_calls true d code l is = absurd cc

-- ---- events

module _ (A K : CallName → Type 0) (s : Setup) (h : List Event) (fits : FitsSetup s) (legal : Legal s h)
    (mute : IsMute s.class) where
  abbrev l : Looks
  l = looks s h

  abbrev Goes : Event → Type 0
  Goes e = GoesFor A K s mute l e

  -- the call's own record changes
  own_on : (d : CallName) (change : Life → Life) (m : Looks) (r : CallRecord) → call_at m d ≡ Some r
      → call_at (on_life d change m) d ≡ Some (record r { life = change r.life })
  own_on d change m r there =
      call-changed d d (λ k. record k { life = change k.life }) m (λ k. refl)
      ∙ ap (λ (b : Bool). cond b (option_map (λ (k : CallRecord). record k { life = change k.life }) (call_at m d))
      (call_at m d)) (name_itself d)
      ∙ ap (option_map (λ (k : CallRecord). record k { life = change k.life })) there

  -- ---- of a server

  finish_goes : (d : CallName) (code : ℤ) (got : Result (Unit {0}) ServeRefused)
      → got ≡ served_finish (call_at l d) code
      → Goes (events.Finished d code got) ⊎ Ends l (finish_done d code got l)
  finish_goes d code (Err refused) is = inl tt
  finish_goes d code (Ok done) is = by (is_zero code) refl
    where
      of : (o : Option CallRecord) → call_at l d ≡ o
          → ◌≡◌ {A = Result (Unit {0}) ServeRefused} (Ok tt) (served_finish o code)
          → (r : CallRecord) × (call_at l d ≡ Some r) × (r.life ≡ lives.Accepted)
      of None there same = absurd cc
      of (Some r) there same =
          (r, there, done_accepted r.life (r.looks.received.ended || not (is_zero code)) (sym same))

      by : (b : Bool) → is_zero code ≡ b
          → Goes (events.Finished d code (Ok done)) ⊎ Ends l (finish_done d code (Ok done) l)
      by true zero_ = inl zero_
      by false some =
          (let r = of (call_at l d) refl is in
          let same : call_at (finished d code l) d ≡ Some r.0 =
          call-by d l (finished d code l) (finished_calls (is_zero code) d code l some) ∙ r.1 in
          inr (record {
            name = d;
            before = r.0;
            had = r.1;
            active = ap is_active r.2;
            behind = record r.0 { life = after_finish (is_zero code) code r.0.life };
            has = own_on d (after_finish (is_zero code) code) (finished d code l) r.0 same;
            idle =
                ap (λ (b : Bool). is_active (after_finish b code r.0.life)) some
                ∙ ap (λ (x : Life). is_active (after_finish false code x)) r.2;
          }))

  -- what a handler asks
  pub serve_goes : (a : Ask) (e : Event) → IsServer s.kind → Allowed s l e → IsCall a e
      → Goes e ⊎ Ends l (looks s (e ∷ h))
  serve_goes accept e server allowed is =
      subst (λ (f : Event). Goes f ⊎ Ends l (looks s (f ∷ h))) (sym is.1) (inl (of is.0))
    where
      of : (got : Option CallName) → Goes (events.Accepted got)
      of None = tt
      of (Some d) = tt
  serve_goes (write d offer) e server allowed is =
      subst (λ (f : Event). Goes f ⊎ Ends l (looks s (f ∷ h))) (sym is.1) (inl tt)
  serve_goes (read d) e server allowed is =
      subst (λ (f : Event). Goes f ⊎ Ends l (looks s (f ∷ h))) (sym is.2)
      (inl (of (call_at l d)
      (subst (λ (f : Event). AllowedServer s l f) is.2 (served s.kind s l e server allowed)).1))
    where
      of : (o : Option CallRecord) → ◌≡◌ {A = ServeRead × List ℕ} (is.0, is.1) (served_read o OFFER_BYTES)
          → (is_end (readers.Server is.0) && is_call (λ k. is_calling k.life) o) ≡ false
      of None same = and_false (is_end (readers.Server is.0))
      of (Some r) same = end_accepted r.life (read_of r.looks.received OFFER_BYTES) is.0 is.1 same
  serve_goes (finish d code) e server allowed is =
      subst (λ (f : Event). Goes f ⊎ Ends l (looks s (f ∷ h))) (sym is.1)
      (finish_goes d code is.0
      (subst (λ (f : Event). AllowedServer s l f) is.1 (served s.kind s l e server allowed)).1)

  -- ---- of a client

  read_goes : (d : CallName) (most : ℕ) (got : ReadAns) (bytes : List ℕ)
      → Goes (events.HasRead d most (readers.Client got) bytes)
      ⊎ Ends l (read_done d (is_end (readers.Client got)) bytes l)
  read_goes d most got bytes = by (end && is_call (λ k. is_calling k.life) (call_at l d)) refl
    where
      end : Bool
      end = is_end (readers.Client got)

      reading : CallRecord → CallRecord
      reading k = record k { looks = after_read l.now end bytes k.looks }

      ending : CallRecord → CallRecord
      ending k = record k { life = after_end end k.life }

      by : (b : Bool) → (end && is_call (λ k. is_calling k.life) (call_at l d)) ≡ b
          → Goes (events.HasRead d most (readers.Client got) bytes) ⊎ Ends l (read_done d end bytes l)
      by false quiet = inl quiet
      by true ends_ =
          (let p = both end (is_call (λ k. is_calling k.life) (call_at l d)) ends_ in
          let f = found (λ k. is_calling k.life) (call_at l d) p.1 in
          inr (record {
            name = d;
            before = f.call;
            had = f.is;
            active = calling_active f.call.life f.passes;
            behind = ending (reading f.call);
            has =
                changed_twice d d reading ending (acknowledged end d l) (λ k. refl) (λ k. refl)
                ∙ ap (λ (b : Bool). cond b (option_map (λ (k : CallRecord). ending (reading k)) (call_at l d))
                (call_at l d)) (name_itself d)
                ∙ ap (option_map (λ (k : CallRecord). ending (reading k))) f.is;
            idle = ended_idle end f.call.life p.0 f.passes;
          }))

  cancel_goes : (host : Host) (epoch : ℕ) → s.kind ≡ Client host epoch → (d : CallName) (code : ℤ)
      (got : Result (Unit {0}) NotOpen) → got ≡ done_where (is_call (λ k. is_live k.life) (own_call l d))
      → Goes (events.Cancelled d code got) ⊎ Ends l (looks s (events.Cancelled d code got ∷ h))
  cancel_goes host epoch kind d code (Err closed) is = inl tt
  cancel_goes host epoch kind d code (Ok done) is =
      (let f = found (λ k. is_live k.life) (call_at l d)
      (of ((channel_at l (channel_of d)).number == d.number)
      (allows (is_call (λ k. is_live k.life) (own_call l d)) is)) in
      let called : IsCalled f.call.life = subst IsCalledOr f.is (calls_called s host epoch kind fits h d legal) in
      let c = cancels f.call.life code called f.passes in
      inr (record {
        name = d;
        before = f.call;
        had = f.is;
        active = c.0;
        behind = record f.call { life = after_cancel code f.call.life };
        has = own_on d (after_cancel code) l f.call f.is;
        idle = c.1;
      }))
    where
      allows : (b : Bool) → ◌≡◌ {A = Result (Unit {0}) NotOpen} (Ok tt) (done_where b) → b ≡ true
      allows true same = refl
      allows false same = absurd cc

      of : (b : Bool) → is_call (λ k. is_live k.life) (if b then call_at l d else None) ≡ true
          → is_call (λ k. is_live k.life) (call_at l d) ≡ true
      of true living = living
      of false living = absurd cc

  -- what a caller asks
  pub call_goes : (host : Host) (epoch : ℕ) → s.kind ≡ Client host epoch → (a : Asking) (e : Event) → Allowed s l e
      → IsAsked a e → Goes e ⊎ Ends l (looks s (e ∷ h))
  call_goes host epoch kind (Offers d block) (events.Wrote b offered (writers.Client got) bytes) allowed is = inl tt
  call_goes host epoch kind (Shuts d) (events.Shut b got) allowed is = inl tt
  call_goes host epoch kind (Reads d max) (events.HasRead b most (readers.Client got) bytes) allowed is =
      read_goes b most got bytes
  call_goes host epoch kind (Cancels d code) (events.Cancelled b told got) allowed is =
      cancel_goes host epoch kind b told got
      (clients s.kind s host epoch l (events.Cancelled b told got) kind allowed).2
  call_goes host epoch kind a e allowed is = elim is [ ]

  -- a clock
  pub clock_goes : (now : ℕ) (e : Event) → IsClocked now e → Goes e
  clock_goes now (events.Clocked moment) is = tt
  clock_goes now e is = elim is [ ]
