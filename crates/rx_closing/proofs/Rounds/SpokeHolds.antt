-- What a call gave and heard last was at a moment that isn't later than its node's.
use Rattle.std.proofs.Common.{◌≡◌, ◌<◌, ◌≤◌, ◌-◌, ◌++◌, ◌&&◌, ◌⊎◌, nat_le, ℕ, Bool, true, false, List, [], ◌∷◌, refl}
use Rattle.std.proofs.Common.{ap, sym, subst, ◌∙◌, inl, inr, Option, Some, None, ⊎_elim, arith}
use Rattle.std.proofs.lemmas.Bool.{leb-false, lt-leb}
use Rattle.rx_model.specs.declared.pace.Pace.{Pace}
use Rattle.rx_model.specs.declared.answers.Took.{Took}
use Rattle.rx_model.specs.declared.answers.Took.TheVariants as tooks
use Rattle.rx_model.specs.declared.event.Event.{Event}
use Rattle.rx_model.specs.declared.event.Event.TheVariants as events
use Rattle.rx_model.specs.declared.names.CallName.{CallName}
use Rattle.rx_model.specs.declared.wire.TheConstants.{SILENCE_MS}
use Rattle.rx_model.specs.Body.{Body}
use Rattle.rx_model.specs.Body as bodies
use Rattle.rx_model.specs.Message.{Message}
use Rattle.rx_rules.specs.After.{after, looks}
use Rattle.rx_rules.specs.CallItems.{Sending, Piece, Ack, after_sending}
use Rattle.rx_rules.specs.CallLooks.{CallLooks, NodeView, after_chunk, after_taken, after_body, fresh_call}
use Rattle.rx_rules.specs.Life.{is_active}
use Rattle.rx_rules.specs.Looks.{CallRecord, Looks, call_at}
use Rattle.rx_rules.specs.Records.{is_silent}
use Rattle.rx_rules.specs.Rules.{AllowedAt, Legal}
use Rattle.rx_rules.specs.Setup.{Client, FitsSetup, Kind, Server, Setup, pace_of}
use Rattle.rx_history.proofs.Moments.{now-after}
use Rattle.rx_history.specs.Sides.{with_clock}
use Rattle.rx_between.proofs.Each.EachEvent.{each_step}
use Rattle.rx_between.proofs.Each.EachStep.{CallStep, EndStep, Goes, IsMade, Opens, Starts, finishes, gives, reads}
use Rattle.rx_between.proofs.Each.EachStep.{shuts}
use Rattle.rx_between.proofs.Each.EachStep.{stays, takes, writes}
use Rattle.rx_closing.proofs.Polls.OnePoll.{sending_heard as given_heard}
use Rattle.rx_law.proofs.HearsTaken.{chunk-heard}

-- neither is later than this moment
pub record IsPast (now : ℕ) (k : CallLooks) : Type 0 where
  pub spoke : k.spoke ≤ now
  pub heard : k.heard ≤ now

-- a clock doesn't go back
pub now_rises : (s : Setup) (l : Looks) (e : Event) → AllowedAt s.kind s l e
    → l.now ≤ (after s e l).now
now_rises s l e allowed =
    (let same = now-after s l e in let low = of s.kind e allowed in omega arith)
  where
    clock : (kind : Kind) (now : ℕ) → AllowedAt kind s l (events.Clocked now) → l.now ≤ now
    clock (Server service nonces) now is = is.0
    clock (Client host epoch) now is = is.0

    of : (kind : Kind) (e : Event) → AllowedAt kind s l e → l.now ≤ with_clock e l.now
    of kind (events.Clocked now) is = clock kind now is
    of kind _ is = omega arith

-- what an end gave stays given when it takes a message
pub chunk_spoke : (v : NodeView) (got : Took) (m : Message) (body : Body) (k : CallLooks)
    → (after_chunk v got m body k).spoke ≡ k.spoke
chunk_spoke v got m (bodies.Chunk payload) k = refl
chunk_spoke v got m (bodies.Ack a) k = refl
chunk_spoke v got m bodies.Busy k = refl
chunk_spoke v got m (bodies.Abort code) k = refl
chunk_spoke v got m bodies.AckAll k = refl
chunk_spoke v got m (bodies.Challenge given) k = refl
chunk_spoke v got m (bodies.Response given) k = refl

pub body_spoke : (now : ℕ) (m : Message) (body : Body) (k : CallLooks)
    → (after_body now m body k).spoke ≡ k.spoke
body_spoke now m (bodies.Ack a) k = refl
body_spoke now m bodies.AckAll k = refl
body_spoke now m (bodies.Chunk payload) k = refl
body_spoke now m bodies.Busy k = refl
body_spoke now m (bodies.Abort code) k = refl
body_spoke now m (bodies.Challenge given) k = refl
body_spoke now m (bodies.Response given) k = refl

pub taken_past : (now : ℕ) (v : NodeView) (got : Took) (m : Message) (k : CallLooks) → v.now ≡ now → IsPast now k
    → IsPast now (after_taken v got m k)
taken_past now v got m k at past = of got
  where
    chunk : (answer : Took) → IsPast now (after_chunk v answer m m.body k)
    chunk answer =
        let still = chunk_spoke v answer m m.body k in
        let low : k.spoke ≤ now = past.spoke in
        let old : k.heard ≤ now = past.heard in
        record {
          spoke = omega arith;
          heard = ⊎_elim
              (λ (same : (after_chunk v answer m m.body k).heard ≡ k.heard). omega arith)
              (λ (same : (after_chunk v answer m m.body k).heard ≡ v.now). omega arith)
              (chunk-heard v answer m m.body k);
        }

    of : (answer : Took) → IsPast now (after_taken v answer m k)
    of tooks.Kept = chunk tooks.Kept
    of tooks.Repeat = chunk tooks.Repeat
    of tooks.Beyond = chunk tooks.Beyond
    of tooks.Clash = chunk tooks.Clash
    of tooks.NoSlot = chunk tooks.NoSlot
    of tooks.Heard =
        let still = body_spoke v.now m m.body k in
        let low : k.spoke ≤ now = past.spoke in
        record { spoke = omega arith; heard = omega arith }
    of _ = past

sending_past : (now : ℕ) (x : Sending) (k : CallLooks) → IsPast now k → IsPast now (after_sending now x k)
sending_past now (Piece seq again) k past = record { spoke = omega arith; heard = past.heard }
sending_past now (Ack reason serial) k past = record { spoke = omega arith; heard = past.heard }

-- behind any step of an end
step_past : (s : Setup) (l : Looks) (e : Event) (c : CallName) (a b : CallLooks) → EndStep s l e c a b
    → IsPast l.now a → IsPast l.now b
step_past s l e c a b (stays same) past = subst (IsPast l.now) (sym same) past
step_past s l e c a b (takes t) past =
    subst (IsPast l.now) (sym t.is) (taken_past l.now t.view t.got t.message a t.view_is.now past)
step_past s l e c a b (gives g) past = subst (IsPast l.now) (sym g.is) (sending_past l.now g.sending a past)
step_past s l e c a b (writes offered got bytes is same) past =
    subst (IsPast l.now) (sym same) (record { spoke = past.spoke; heard = past.heard })
step_past s l e c a b (reads most got bytes is same) past =
    subst (IsPast l.now) (sym same) (record { spoke = past.spoke; heard = past.heard })
step_past s l e c a b (shuts is same) past =
    subst (IsPast l.now) (sym same) (record { spoke = past.spoke; heard = past.heard })
step_past s l e c a b (finishes code is zero' same) past =
    subst (IsPast l.now) (sym same) (record { spoke = past.spoke; heard = past.heard })

fresh_past : (pace : Pace) (now : ℕ) → IsPast now (fresh_call pace now)
fresh_past pace now = record { spoke = omega arith; heard = omega arith }

start_past : (s : Setup) (l : Looks) (e : Event) (c : CallName) (b : CallRecord) → Starts s l e c b
    → IsPast l.now b.looks
start_past s l e c b starts =
    ⊎_elim
    (λ (o : Opens s l e c b). subst (IsPast l.now) (sym o.takes.is)
    (taken_past l.now o.takes.view o.takes.got o.takes.message (fresh_call (pace_of s) l.now)
    o.takes.view_is.now (fresh_past (pace_of s) l.now)))
    (λ (m : IsMade s l e c b). subst (IsPast l.now) (sym m.looks) (fresh_past (pace_of s) l.now))
    starts.1

-- of any legal history
pub past_holds : (s : Setup) (h : List Event) (c : CallName) (r : CallRecord) → FitsSetup s → Legal s h
    → call_at (looks s h) c ≡ Some r → IsPast (looks s h).now r.looks
past_holds s [] c r fits legal there = absurd cc
past_holds s (e ∷ h) c r fits legal there =
    of (λ a is. past_holds s h c a fits legal.1 is) (call_at (looks s h) c) refl (call_at (looks s (e ∷ h)) c) there
    (each_step s h e c fits legal)
  where
    rises : (looks s h).now ≤ (looks s (e ∷ h)).now
    rises = now_rises s (looks s h) e legal.0

    wider : (k : CallLooks) → IsPast (looks s h).now k → IsPast (looks s (e ∷ h)).now k
    wider k past =
        let up = rises in
        let spoke : k.spoke ≤ (looks s h).now = past.spoke in
        let heard : k.heard ≤ (looks s h).now = past.heard in
        record { spoke = omega arith; heard = omega arith }

    of : ((a : CallRecord) → call_at (looks s h) c ≡ Some a → IsPast (looks s h).now a.looks)
        → (o : Option CallRecord) → call_at (looks s h) c ≡ o → (q : Option CallRecord) → q ≡ Some r
        → CallStep s (looks s h) e c o q → IsPast (looks s (e ∷ h)).now r.looks
    of before o is None none step = absurd cc
    of before None is (Some b) same step =
        let one : b ≡ r = cc (same) in
        wider r.looks (subst (λ (k : CallRecord). IsPast (looks s h).now k.looks) one
        (start_past s (looks s h) e c b step))
    of before (Some a) is (Some b) same step =
        let one : b ≡ r = cc (same) in
        wider r.looks (subst (λ (k : CallRecord). IsPast (looks s h).now k.looks) one
        (⊎_elim
        (λ (g : Goes s (looks s h) e c a b). step_past s (looks s h) e c a.looks b.looks g.end
        (before a is))
        (λ (starts : Starts s (looks s h) e c b). start_past s (looks s h) e c b starts) step))

-- ---- what was heard

pub taken_heard : (v : NodeView) (got : Took) (m : Message) (k : CallLooks)
    → ((after_taken v got m k).heard ≡ k.heard) ⊎ ((after_taken v got m k).heard ≡ v.now)
taken_heard v tooks.Kept m k = chunk-heard v tooks.Kept m m.body k
taken_heard v tooks.Repeat m k = chunk-heard v tooks.Repeat m m.body k
taken_heard v tooks.Beyond m k = chunk-heard v tooks.Beyond m m.body k
taken_heard v tooks.Clash m k = chunk-heard v tooks.Clash m m.body k
taken_heard v tooks.NoSlot m k = chunk-heard v tooks.NoSlot m m.body k
taken_heard v tooks.Heard m k = inr refl
taken_heard v _ m k = inl refl

step_heard : (s : Setup) (l : Looks) (e : Event) (c : CallName) (a b : CallLooks) → EndStep s l e c a b
    → (b.heard ≡ a.heard) ⊎ (b.heard ≡ l.now)
step_heard s l e c a b (stays same) = inl (ap (λ (k : CallLooks). k.heard) same)
step_heard s l e c a b (takes t) =
    ⊎_elim
    (λ (h : (after_taken t.view t.got t.message a).heard ≡ a.heard). inl (ap (λ (k : CallLooks). k.heard) t.is ∙ h))
    (λ (h : (after_taken t.view t.got t.message a).heard ≡ t.view.now).
    inr (ap (λ (k : CallLooks). k.heard) t.is ∙ h ∙ t.view_is.now))
    (taken_heard t.view t.got t.message a)
step_heard s l e c a b (gives g) = inl (ap (λ (k : CallLooks). k.heard) g.is ∙ given_heard l.now g.sending a)
step_heard s l e c a b (writes offered got bytes is same) = inl (ap (λ (k : CallLooks). k.heard) same)
step_heard s l e c a b (reads most got bytes is same) = inl (ap (λ (k : CallLooks). k.heard) same)
step_heard s l e c a b (shuts is same) = inl (ap (λ (k : CallLooks). k.heard) same)
step_heard s l e c a b (finishes code is zero' same) = inl (ap (λ (k : CallLooks). k.heard) same)

start_heard : (s : Setup) (l : Looks) (e : Event) (c : CallName) (b : CallRecord) → Starts s l e c b
    → b.looks.heard ≡ l.now
start_heard s l e c b starts =
    ⊎_elim
    (λ (o : Opens s l e c b). ap (λ (k : CallLooks). k.heard) o.takes.is
    ∙ ⊎_elim
    (λ (h : (after_taken o.takes.view o.takes.got o.takes.message
    (fresh_call (pace_of s) l.now)).heard ≡ l.now). h)
    (λ (h : (after_taken o.takes.view o.takes.got o.takes.message
    (fresh_call (pace_of s) l.now)).heard ≡ o.takes.view.now). h ∙ o.takes.view_is.now)
    (taken_heard o.takes.view o.takes.got o.takes.message (fresh_call (pace_of s) l.now)))
    (λ (m : IsMade s l e c b). ap (λ (k : CallLooks). k.heard) m.looks) starts.1

-- the call that is found behind further events, and it was heard no earlier
pub record HeardOn (s : Setup) (h : List Event) (c : CallName) (a : CallRecord) : Type 0 where
  pub call : CallRecord
  pub there : call_at (looks s h) c ≡ Some call
  pub heard : a.looks.heard ≤ call.looks.heard

heard_step : (s : Setup) (e : Event) (h : List Event) (c : CallName) (a : CallRecord) → FitsSetup s → Legal s (e ∷ h)
    → call_at (looks s h) c ≡ Some a → HeardOn s (e ∷ h) c a
heard_step s e h c a fits legal there =
    of (call_at (looks s (e ∷ h)) c) refl
    (subst (λ (o : Option CallRecord). CallStep s (looks s h) e c o (call_at (looks s (e ∷ h)) c)) there
    (each_step s h e c fits legal))
  where
    past : IsPast (looks s h).now a.looks
    past = past_holds s h c a fits legal.1 there

    of : (o : Option CallRecord) → call_at (looks s (e ∷ h)) c ≡ o → CallStep s (looks s h) e c (Some a) o
        → HeardOn s (e ∷ h) c a
    of None is step = absurd step
    of (Some b) is step =
        let low : a.looks.heard ≤ (looks s h).now = past.heard in
        record {
          call = b;
          there = is;
          heard = ⊎_elim
              (λ (g : Goes s (looks s h) e c a b). ⊎_elim
              (λ (same : b.looks.heard ≡ a.looks.heard). omega arith)
              (λ (now : b.looks.heard ≡ (looks s h).now). omega arith)
              (step_heard s (looks s h) e c a.looks b.looks g.end))
              (λ (starts : Starts s (looks s h) e c b). (
              let now = start_heard s (looks s h) e c b starts in omega arith)) step;
        }

pub heard_rises : (s : Setup) (later h : List Event) (c : CallName) (a : CallRecord) → FitsSetup s
    → Legal s (later ++ h) → call_at (looks s h) c ≡ Some a → HeardOn s (later ++ h) c a
heard_rises s [] h c a fits legal there = record { call = a; there = there; heard = omega arith }
heard_rises s (e ∷ later) h c a fits legal there =
    let old = heard_rises s later h c a fits legal.1 there in
    let new = heard_step s e (later ++ h) c old.call fits legal old.there in
    let low = old.heard in
    let high = new.heard in
    record { call = new.call; there = new.there; heard = omega arith }

module _ (s : Setup) (later h : List Event) (c : CallName) (a b : CallRecord) where
  -- so a call that isn't silent doesn't fall silent while its node's clock stands
  pub awake_stays : FitsSetup s → Legal s (later ++ h) → (looks s (later ++ h)).now ≡ (looks s h).now
      → call_at (looks s h) c ≡ Some a → is_active a.life ≡ true → is_silent (looks s h).now a ≡ false
      → call_at (looks s (later ++ h)) c ≡ Some b → is_silent (looks s (later ++ h)).now b ≡ false
  awake_stays fits legal now there active awake is =
      (let on = heard_rises s later h c a fits legal there in
      let one : on.call ≡ b = (let both : ◌≡◌ {A = Option CallRecord} (Some on.call) (Some b) = sym on.there ∙ is in
      cc (both)) in
      let short : nat_le SILENCE_MS ((looks s h).now - a.looks.heard) ≡ false =
      ap (λ (q : Bool). q && nat_le SILENCE_MS ((looks s h).now - a.looks.heard)) (sym active) ∙ awake in
      let less : (looks s h).now - a.looks.heard < SILENCE_MS =
      leb-false SILENCE_MS ((looks s h).now - a.looks.heard) short in
      let high : a.looks.heard ≤ b.looks.heard =
      subst (λ (k : CallRecord). a.looks.heard ≤ k.looks.heard) one on.heard in
      of (is_active b.life) ((looks s (later ++ h)).now) now less high)
    where
      of : (q : Bool) (m : ℕ) → m ≡ (looks s h).now → (looks s h).now - a.looks.heard < SILENCE_MS
          → a.looks.heard ≤ b.looks.heard → (q && nat_le SILENCE_MS (m - b.looks.heard)) ≡ false
      of false m same less high = refl
      of true m same less high = (let low : m - b.looks.heard < SILENCE_MS = omega arith in
          lt-leb SILENCE_MS (m - b.looks.heard) low)
