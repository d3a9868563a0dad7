-- The calls of a client: each lives or ended, and one that ended stays so.
use Rattle.std.proofs.Common.{◌≡◌, ◌⊎◌, ◌<◌, cond, nat_lt, ℕ, Bool, true, false, List, [], ◌∷◌, Option, Some, None}
use Rattle.std.proofs.Common.{option_map, Result, Ok, Err, refl, inl, inr, ◌∙◌, ap, sym, subst, arith}
use Rattle.rx_model.specs.declared.answers.BadMsg.{BadMsg}
use Rattle.rx_model.specs.declared.answers.End.{End}
use Rattle.rx_model.specs.declared.answers.Took.{Took}
use Rattle.rx_model.specs.declared.answers.Took.TheVariants as tooks
use Rattle.rx_model.specs.declared.event.Event.{Event}
use Rattle.rx_model.specs.declared.event.Event.TheVariants as events
use Rattle.rx_model.specs.declared.names.CallName.{CallName}
use Rattle.rx_model.specs.declared.names.Host.{Host}
use Rattle.rx_model.specs.Message.{Message}
use Rattle.rx_model.specs.Names.{channel_of, connection_of, same_name}
use Rattle.rx_model.specs.Reading.{reading_of}
use Rattle.rx_model.proofs.NameLaws.{name_is}
use Rattle.rx_rules.specs.After.{acknowledged, after, is_end, looks, prepared}
use Rattle.rx_rules.specs.CallLooks.{CallLooks, after_read, after_shut, after_write, fresh_call}
use Rattle.rx_rules.specs.Judging.{facts_of, opened, outer_row, own_row, took_of}
use Rattle.rx_rules.specs.Life.{Life, after_end, is_live}
use Rattle.rx_rules.specs.Life as lives
use Rattle.rx_rules.specs.Looks.{CallRecord, Looks, call_at, channel_at, conn_at, is_call, on_call, on_life, on_looks}
use Rattle.rx_rules.specs.Rules.{AllowedClient, Legal}
use Rattle.rx_rules.specs.Setup.{Client, FitsSetup, Setup, is_client, named, pace_of}
use Rattle.rx_rules.proofs.CallsLaws.{KeepsNames, call_at-on_call, changed_if}
use Rattle.rx_rules.proofs.ConnsLaws.{number_of}
use Rattle.rx_history.specs.Streams.{end_at, end_by, end_of_life}
use Rattle.rx_history.proofs.Client.{fresh-call}
use Rattle.rx_history.proofs.ClientHistory.{client-calls, clients}
use Rattle.rx_history.proofs.Conns.{Conns}
use Rattle.rx_history.proofs.Openings.{channel_prepared}
use Rattle.rx_history.proofs.Rows.RowsInFront.{above_served, may_start}
use Rattle.rx_history.proofs.Laws.SoundLaws.{Below, Sound}
use Rattle.rx_history.proofs.Takes.{call_at-any}
use Rattle.rx_asks.specs.History.{IsCalled}
use Rattle.rx_asks.proofs.Kept.{GoesOn, Kept, on-end, on-refl, on-trans}
use Rattle.rx_asks.proofs.KeptEvents.{StartsNoCall, kept_after}
use Rattle.rx_asks.proofs.KeptTaken.{StartsNone, StartsNoneBy, StartsNoneOf}
use Rattle.rx_plan.proofs.Aborts.AbortCauses.{named_row}

-- ---- a call goes on

-- none comes, and none goes
abbrev pub Onward : Option CallRecord → Option CallRecord → Type 0
Onward None None = Unit {0}
Onward None (Some b) = ⊥
Onward (Some a) None = ⊥
Onward (Some a) (Some b) = GoesOn a.life b.life

onward_refl : (o : Option CallRecord) → Onward o o
onward_refl None = tt
onward_refl (Some k) = on-refl k.life

onward_then : (a b c : Option CallRecord) → Onward a b → Onward b c → Onward a c
onward_then None None c p q = q
onward_then None (Some b) c p q = absurd p
onward_then (Some a) None c p q = absurd p
onward_then (Some a) (Some b) None p q = q
onward_then (Some a) (Some b) (Some c) p q = on-trans a.life b.life c.life p q

kept_onward : (a b : Option CallRecord) → Kept a b → Onward a b
kept_onward None None kept = tt
kept_onward None (Some b) kept = kept
kept_onward (Some a) None kept = kept
kept_onward (Some a) (Some b) kept = kept.life

if_goes : (b : Bool) (change : CallRecord → CallRecord) (k : CallRecord) → GoesOn k.life (change k).life
    → GoesOn k.life (cond b (change k) k).life
if_goes true change k goes = goes
if_goes false change k goes = on-refl k.life

onward_map : (change : CallRecord → CallRecord) (o : Option CallRecord)
    → ((k : CallRecord) → GoesOn k.life (change k).life) → Onward o (option_map change o)
onward_map change None goes = tt
onward_map change (Some k) goes = goes k

onward_call : (c d : CallName) (change : CallRecord → CallRecord) (l : Looks) → KeepsNames change
    → ((k : CallRecord) → GoesOn k.life (change k).life) → Onward (call_at l c) (call_at (on_call d change l) c)
onward_call c d change l names goes =
    subst (Onward (call_at l c)) (sym (call_at-on_call c d change l names))
    (onward_map (changed_if d change) (call_at l c) (λ k. if_goes (same_name k.name d) change k (goes k)))

onward_looks : (c d : CallName) (change : CallLooks → CallLooks) (l : Looks)
    → Onward (call_at l c) (call_at (on_looks d change l) c)
onward_looks c d change l =
    onward_call c d (λ k. record k { looks = change k.looks }) l (λ k. refl) (λ k. on-refl k.life)

-- an event that starts no call of this name
pub onward_after : (s : Setup) (host : Host) (epoch : ℕ) (l : Looks) (c : CallName) (e : Event)
    → AllowedClient s host epoch l e → StartsNoCall s l c e → Onward (call_at l c) (call_at (after s e l) c)
onward_after s host epoch l c (events.Wrote d offered got bytes) allowed none = onward_looks c d (after_write bytes) l
onward_after s host epoch l c (events.Shut d (Ok done)) allowed none = onward_looks c d after_shut l
onward_after s host epoch l c (events.Shut d (Err closed)) allowed none = onward_refl (call_at l c)
onward_after s host epoch l c (events.HasRead d max got bytes) allowed none =
    let end : Bool = is_end got in
    let inner : Looks = on_looks d (after_read l.now end bytes) (acknowledged end d l) in
    onward_then (call_at l c) (call_at inner c) (call_at (on_life d (after_end end) inner) c)
    (onward_looks c d (after_read l.now end bytes) (acknowledged end d l))
    (onward_call c d (λ k. record k { life = after_end end k.life }) inner (λ k. refl) (λ k. on-end end k.life))
onward_after s host epoch l c (events.Linked to service first got) allowed none =
    kept_onward (call_at l c) (call_at (after s (events.Linked to service first got) l) c)
    (kept_after s host epoch l c (events.Linked to service first got) allowed tt tt)
onward_after s host epoch l c (events.Called cid got) allowed none =
    kept_onward (call_at l c) (call_at (after s (events.Called cid got) l) c)
    (kept_after s host epoch l c (events.Called cid got) allowed tt none)
onward_after s host epoch l c (events.Ended d got) allowed none = onward_refl (call_at l c)
onward_after s host epoch l c (events.Cancelled d code got) allowed none =
    kept_onward (call_at l c) (call_at (after s (events.Cancelled d code got) l) c)
    (kept_after s host epoch l c (events.Cancelled d code got) allowed tt tt)
onward_after s host epoch l c (events.Taken from bytes got) allowed none =
    kept_onward (call_at l c) (call_at (after s (events.Taken from bytes got) l) c)
    (kept_after s host epoch l c (events.Taken from bytes got) allowed tt none)
onward_after s host epoch l c (events.Polled got) allowed none =
    kept_onward (call_at l c) (call_at (after s (events.Polled got) l) c)
    (kept_after s host epoch l c (events.Polled got) allowed tt tt)
onward_after s host epoch l c (events.Clocked now) allowed none = onward_refl (call_at l c)
onward_after s host epoch l c (events.Accepted got) allowed none = absurd allowed
onward_after s host epoch l c (events.Finished d code got) allowed none = absurd allowed

-- ---- no message starts one

module _ (s : Setup) (host : Host) (epoch : ℕ) (kind : s.kind ≡ Client host epoch) where
  pub starts_none : (l : Looks) (from : Host) (bytes : List ℕ) (got : Took) (m : Message) (c : CallName)
      → got ≡ took_of s l from bytes → reading_of bytes ≡ Ok m → outer_row s s.kind l from m ≡ None
      → may_start got ≡ true → StartsNone c (named s from m) (prepared s got (connection_of (named s from m)) l)
  starts_none l from bytes got m c is reads front starts same above =
      let d : CallName = named s from m in
      let high : nat_lt (channel_at l (channel_of d)).number d.number ≡ true =
      ap (λ (n : ℕ). nat_lt n d.number) (sym (channel_prepared s got d l)) ∙ above in
      let served : is_client s.kind ≡ false =
      above_served s.kind (facts_of s l d m) (own_row s (opened s d l) d m) got starts
      (named_row s l from bytes got m is reads front) high in
      let client : is_client s.kind ≡ true = ap is_client kind in
      cc (served, client)

  by_got : (l : Looks) (d c : CallName) (got : Took) → (may_start got ≡ true → StartsNone c d l)
      → StartsNoneBy got c d l
  by_got l d c tooks.Kept none = none refl
  by_got l d c tooks.NoSlot none = none refl
  by_got l d c _ none = tt

  pub none_of : (l : Looks) (from : Host) (bytes : List ℕ) (got : Took) (reading : Result Message BadMsg) (c : CallName)
      → got ≡ took_of s l from bytes → reading_of bytes ≡ reading → StartsNoneOf s l from reading got c
  none_of l from bytes got (Err bad) c is reads = tt
  none_of l from bytes got (Ok m) c is reads = λ front.
      by_got (prepared s got (connection_of (named s from m)) l) (named s from m) c got
      (starts_none l from bytes got m c is reads front)

  -- a new call has no record
  fresh_none : (cid : ℕ) (l : Looks) (d : CallName) → FitsSetup s → Conns s l → Sound l d 0
      → AllowedClient s host epoch l (events.Called cid (Ok d)) → call_at l d ≡ None
  fresh_none cid l d fits conns sound allowed =
      of (call_at l d) refl sound.below (fresh-call s host epoch cid l d kind fits conns allowed).above
    where
      of : (o : Option CallRecord) → call_at l d ≡ o
          → Below o d.number (number_of (conn_at l (connection_of d)) d.chan)
          → number_of (conn_at l (connection_of d)) d.chan < d.number → call_at l d ≡ None
      of None is below above = is
      of (Some k) is below above = absurd (omega arith)

  -- ---- a step of a call

  -- it starts, or goes on
  record Begins (l m : Looks) (c : CallName) : Type 0 where
    none : call_at l c ≡ None
    new : CallRecord
    there : call_at m c ≡ Some new
    calling : new.life ≡ lives.Calling

  step : (l : Looks) (e : Event) (c : CallName) → FitsSetup s → Conns s l → ((d : CallName) → Sound l d 0)
      → AllowedClient s host epoch l e
      → Begins l (after s e l) c ⊎ Onward (call_at l c) (call_at (after s e l) c)
  step l (events.Called cid (Ok d)) c fits conns sound allowed = of (same_name c d) refl
    where
      new : CallRecord
      new = record { name = d; life = lives.Calling; looks = fresh_call (pace_of s) l.now }

      of : (b : Bool) → same_name c d ≡ b → Begins l (after s (events.Called cid (Ok d)) l) c
          ⊎ Onward (call_at l c) (call_at (after s (events.Called cid (Ok d)) l) c)
      of true same =
          (let is : c ≡ d = name_is c d same in
          inl (record {
            none =
                subst (λ (n : CallName). call_at l n ≡ None) (sym is) (fresh_none cid l d fits conns (sound d) allowed);
            new = new;
            there = call_at-any c new l (sym is) (call_at l c) refl;
            calling = refl;
          }))
      of false other = inr (onward_after s host epoch l c (events.Called cid (Ok d)) allowed other)
  step l (events.Called cid (Err refused)) c fits conns sound allowed = inr (onward_refl (call_at l c))
  step l (events.Taken from bytes got) c fits conns sound allowed =
      inr (onward_after s host epoch l c (events.Taken from bytes got) allowed
      (none_of l from bytes got (reading_of bytes) c allowed.1 refl))
  step l (events.Wrote d offered got bytes) c fits conns sound allowed =
      inr (onward_after s host epoch l c (events.Wrote d offered got bytes) allowed tt)
  step l (events.Shut d got) c fits conns sound allowed =
      inr (onward_after s host epoch l c (events.Shut d got) allowed tt)
  step l (events.HasRead d max got bytes) c fits conns sound allowed =
      inr (onward_after s host epoch l c (events.HasRead d max got bytes) allowed tt)
  step l (events.Linked to service first got) c fits conns sound allowed =
      inr (onward_after s host epoch l c (events.Linked to service first got) allowed tt)
  step l (events.Ended d got) c fits conns sound allowed =
      inr (onward_after s host epoch l c (events.Ended d got) allowed tt)
  step l (events.Cancelled d code got) c fits conns sound allowed =
      inr (onward_after s host epoch l c (events.Cancelled d code got) allowed tt)
  step l (events.Polled got) c fits conns sound allowed =
      inr (onward_after s host epoch l c (events.Polled got) allowed tt)
  step l (events.Clocked now) c fits conns sound allowed =
      inr (onward_after s host epoch l c (events.Clocked now) allowed tt)
  step l (events.Accepted got) c fits conns sound allowed = absurd allowed
  step l (events.Finished d code got) c fits conns sound allowed = absurd allowed

-- ---- a history

-- a call that is there
pub record IsThere (l : Looks) (c : CallName) : Type 0 where
  pub call : CallRecord
  pub there : call_at l c ≡ Some call

-- a client's call that is looked for lives or ended
abbrev pub IsCalledOr : Option CallRecord → Type 0
IsCalledOr None = Unit {0}
IsCalledOr (Some k) = IsCalled k.life

onward_called : (a b : Option CallRecord) → Onward a b → IsCalledOr a → IsCalledOr b
onward_called None None on called = tt
onward_called None (Some b) on called = absurd on
onward_called (Some a) None on called = absurd on
onward_called (Some a) (Some b) on called = on.called called

onward_ended : (a b : Option CallRecord) (end : End) → Onward a b → end_by a ≡ Some end → end_by b ≡ Some end
onward_ended None b end on is = absurd cc
onward_ended (Some a) None end on is = absurd on
onward_ended (Some a) (Some b) end on is = ap end_of_life (on.ended end (ended_life a.life is))
  where
    ended_life : (x : Life) → end_of_life x ≡ Some end → x ≡ lives.Ended end
    ended_life (lives.Ended other) is = (let one : other ≡ end = cc in ap lives.Ended one)
    ended_life lives.Calling is = absurd cc
    ended_life lives.Waiting is = absurd cc
    ended_life lives.Accepted is = absurd cc
    ended_life lives.Finished is = absurd cc
    ended_life (lives.Broken code) is = absurd cc
    ended_life (lives.Over code) is = absurd cc

module _ (s : Setup) (host : Host) (epoch : ℕ) (kind : s.kind ≡ Client host epoch) (fits : FitsSetup s) where
  step_of : (e : Event) (h : List Event) (c : CallName) → Legal s (e ∷ h)
      → Begins s host epoch kind (looks s h) (looks s (e ∷ h)) c
      ⊎ Onward (call_at (looks s h) c) (call_at (looks s (e ∷ h)) c)
  step_of e h c legal =
      let before = client-calls s host epoch h kind fits legal.1 in
      step s host epoch kind (looks s h) e c fits before.standing.conns before.sound
      (clients s.kind s host epoch (looks s h) e kind legal.0)

  -- each call lives or ended
  pub calls_called : (h : List Event) (c : CallName) → Legal s h → IsCalledOr (call_at (looks s h) c)
  calls_called [] c legal = tt
  calls_called (e ∷ h) c legal = by (step_of e h c legal) (calls_called h c legal.1)
    where
      by : Begins s host epoch kind (looks s h) (looks s (e ∷ h)) c
          ⊎ Onward (call_at (looks s h) c) (call_at (looks s (e ∷ h)) c)
          → IsCalledOr (call_at (looks s h) c) → IsCalledOr (call_at (looks s (e ∷ h)) c)
      by (inl b) called = subst IsCalledOr (sym b.there) (subst IsCalled (sym b.calling) tt)
      by (inr on) called = onward_called (call_at (looks s h) c) (call_at (looks s (e ∷ h)) c) on called

  -- one that ended stays so
  pub end_stays : (e : Event) (h : List Event) (c : CallName) (end : End) → Legal s (e ∷ h)
      → end_at (looks s h) c ≡ Some end → end_at (looks s (e ∷ h)) c ≡ Some end
  end_stays e h c end legal is = by (step_of e h c legal)
    where
      by : Begins s host epoch kind (looks s h) (looks s (e ∷ h)) c
          ⊎ Onward (call_at (looks s h) c) (call_at (looks s (e ∷ h)) c)
          → end_at (looks s (e ∷ h)) c ≡ Some end
      by (inl b) = absurd (let none : None ≡ Some end = ap end_by (sym b.none) ∙ is in cc)
      by (inr on) = onward_ended (call_at (looks s h) c) (call_at (looks s (e ∷ h)) c) end on is

  -- one that is there stays
  pub there_stays : (e : Event) (h : List Event) (c : CallName) → Legal s (e ∷ h) → IsThere (looks s h) c
      → IsThere (looks s (e ∷ h)) c
  there_stays e h c legal t = by (step_of e h c legal)
    where
      of : (o : Option CallRecord) → call_at (looks s (e ∷ h)) c ≡ o → Onward (Some t.call) o
          → IsThere (looks s (e ∷ h)) c
      of None is on = absurd on
      of (Some k) is on = record { call = k; there = is }

      by : Begins s host epoch kind (looks s h) (looks s (e ∷ h)) c
          ⊎ Onward (call_at (looks s h) c) (call_at (looks s (e ∷ h)) c)
          → IsThere (looks s (e ∷ h)) c
      by (inl b) = record { call = b.new; there = b.there }
      by (inr on) =
          of (call_at (looks s (e ∷ h)) c) refl
          (subst (λ (o : Option CallRecord). Onward o (call_at (looks s (e ∷ h)) c)) t.there on)

  -- one that ends had lived
  pub lived : (e : Event) (h : List Event) (c : CallName) (end : End) → Legal s (e ∷ h)
      → end_at (looks s h) c ≡ None → end_at (looks s (e ∷ h)) c ≡ Some end
      → is_call (λ k. is_live k.life) (call_at (looks s h) c) ≡ true
  lived e h c end legal none ended = by (step_of e h c legal)
    where
      life : (x : Life) → IsCalled x → end_of_life x ≡ None → is_live x ≡ true
      life lives.Calling called none = refl
      life (lives.Ended other) called none = absurd cc
      life lives.Waiting called none = refl
      life lives.Accepted called none = refl
      life lives.Finished called none = refl
      life (lives.Broken code) called none = refl
      life (lives.Over code) called none = absurd called

      none_on : (o : Option CallRecord) → Onward None o → end_by o ≡ Some end → ⊥
      none_on None on is = absurd cc
      none_on (Some k) on is = on

      of : (o : Option CallRecord) → IsCalledOr o → end_by o ≡ None → Onward o (call_at (looks s (e ∷ h)) c)
          → is_call (λ k. is_live k.life) o ≡ true
      of None called none on = absurd (none_on (call_at (looks s (e ∷ h)) c) on ended)
      of (Some k) called none on = life k.life called none

      by : Begins s host epoch kind (looks s h) (looks s (e ∷ h)) c
          ⊎ Onward (call_at (looks s h) c) (call_at (looks s (e ∷ h)) c)
          → is_call (λ k. is_live k.life) (call_at (looks s h) c) ≡ true
      by (inl b) =
          absurd (let calling : end_at (looks s (e ∷ h)) c ≡ None = ap end_by b.there ∙ ap end_of_life b.calling in
          let never : None ≡ Some end = sym calling ∙ ended in cc)
      by (inr on) = of (call_at (looks s h) c) (calls_called h c legal.1) none on
