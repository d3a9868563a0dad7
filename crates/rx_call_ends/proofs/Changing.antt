-- One call of a node changes: what the node's ends keep, and what they tell of it.
use Rattle.std.proofs.Common.{◌≡◌, ◌≢◌, ◌⊎◌, inl, inr, ◌≤◌, ◌+◌, ◌-◌, ℕ, suc, zero, List, ◌∷◌, [], length, get_or}
use Rattle.std.proofs.Common.{false, Option, Some, None, is_some, IsSomeAnd, refl, sym, ap, ◌∙◌, subst, arith}
use Rattle.std.specs.Prelude.{sum_by}
use Rattle.std.specs.Option.{ForSome}
use Rattle.std.proofs.lemmas.Bool.{cases_eq}
use Rattle.std.proofs.lemmas.List.Sums.{sum_by-cons}
use Rattle.rx_rules.specs.CallLooks.{CallLooks, fresh_call}
use Rattle.rx_rules.specs.Received.{nothing_received}
use Rattle.rx_rules.specs.Sent.{nothing_sent}
use Rattle.rx_pool.specs.Pool.{Slots}
use Rattle.rx_pool.specs.Held.{Holds, Keeps}
use Rattle.rx_pool.proofs.Holding.{keeps_same}
use Rattle.rx_call.specs.Standing.{EndOfCall, StandsCall, IsIdle, IsSameEnd, HasSpare, slots_of, view_of}
use Rattle.rx_call.specs.Kept.{IsIdleOf, KeptCalls, OthersStay, call_under, with_call_under, live_count, slots_of_all}
use Rattle.rx_call.specs.Kept.{beside_of, beside_under, beside_of_all}
use Rattle.rx_call.proofs.CallsAt.{call_under-with_same, call_under-with_other, changes_one, holds_at, keeps_at}
use Rattle.rx_call.proofs.CallsAt.{live_count-with_call_under, of_some_and, only_one, some_and, some_of, stands_at}
use Rattle.rx_call.proofs.CallsAt.{holds_none, no_pace, of_only_one, pace-kept, pace-with_call_under}
use Rattle.rx_call.proofs.Spare.{beside-idle, beside-kept, beside-with_call_under, spare_at}
use Rattle.rx_model.specs.declared.pace.Pace.{Pace}
use Rattle.rx_call.proofs.Undisturbed.{idle_slots}
use Rattle.rx_call_ends.specs.Ends.{EndsState, KeepsEnds, KeepsSlots, StandsAs, StandsEnd, StepsEnd, beside_looks}
use Rattle.rx_call_ends.specs.Ends.{view_at}

-- ---- records by key

-- the record of one key becomes another
abbrev pick : (q key : ℕ) (k : CallLooks) (old : ℕ → CallLooks) → ((q ≡ key) ⊎ (q ≢ key)) → CallLooks
pick q key k old (inl same) = k
pick q key k old (inr other) = old q

-- ---- what the invariant says of one call

pub holds_of : (e : EndsState) (key : ℕ) (c : EndOfCall) → KeepsSlots e → call_under e.calls key ≡ Some c →
    Holds e.pool (slots_of c)
holds_of e key c ks is = holds_at e.pool e.calls key c is ks.holds

-- it has room for its lead and for as many as are left
pub spare_of : (e : EndsState) (key : ℕ) (c : EndOfCall) → KeepsSlots e → call_under e.calls key ≡ Some c →
    HasSpare e.pool c (e.shared - e.common)
spare_of e key c ks is =
    let all : length e.pool.free + length (slots_of_all e.calls) ≡ e.calls.room + e.shared = omega (arith, ks.all) in
    let few : beside_of_all e.calls ≤ e.shared = omega (arith, ks.common, ks.within) in
    let spare = spare_at e.pool e.calls key c e.shared is all ks.live few in
    subst (λ (n : ℕ). HasSpare e.pool c (e.shared - n)) (sym ks.common) spare

one_of_all : (xs : List (Option EndOfCall)) (key : ℕ) (c : EndOfCall) → get_or xs key None ≡ Some c →
    beside_of c ≤ sum_by beside_under xs
one_of_all [] key c is = absurd (cc)
one_of_all (x ∷ xs) zero c is =
    let more = sum_by-cons beside_under x xs in
    let here = ap beside_under is in
    omega (arith, more, here)
one_of_all (x ∷ xs) (suc key) c is =
    let more = sum_by-cons beside_under x xs in
    let rest = one_of_all xs key c is in
    omega (arith, more, rest)

-- what it holds beside its lead is counted
pub counted_of : (e : EndsState) (key : ℕ) (c : EndOfCall) → KeepsSlots e → call_under e.calls key ≡ Some c →
    beside_of c ≤ e.common
counted_of e key c ks is =
    let one = one_of_all e.calls.by_key key c is in
    omega (arith, one, ks.common)

-- ---- one call changes

-- the call of a key became d, the pool `after` and the count `common`
pub record Changes (e : EndsState) (key : ℕ) (c d : EndOfCall) (after : Slots) (common : ℕ) : Type 0 where
  pub is : call_under e.calls key ≡ Some c
  pub keeps : Keeps e.pool after (slots_of c) (slots_of d)
  pub pace : d.pace ≡ c.pace
  pub count : common + beside_of c ≡ e.common + beside_of d

abbrev pub changed : EndsState → ℕ → EndOfCall → Slots → ℕ → EndsState
changed e key d after common =
    record e { calls = with_call_under e.calls key d; pool = after; common = common }

module _ (e : EndsState) (key : ℕ) (c d : EndOfCall) (after : Slots) (common : ℕ) (ks : KeepsSlots e)
    (ch : Changes e key c d after common) where
  new_stands : (k : CallLooks) → StandsCall after d k → (q : ℕ) (x : EndOfCall) →
      call_under (with_call_under e.calls key d) q ≡ Some x →
      StandsCall after x (pick q key k ks.looks (cases_eq q key))
  new_stands k st q x found =
      elim (cases_eq q key) as (λ w. StandsCall after x (pick q key k ks.looks w)) [
        | inl same ↦ (
            let first = ap (call_under (with_call_under e.calls key d)) (sym same) ∙ found in
            let this : x ≡ d = (
            only_one (with_call_under e.calls key d) key d x
            (call_under-with_same e.calls key d (ap is_some ch.is)) first) in
            subst (λ (y : EndOfCall). StandsCall after y k) (sym this) st)
        | inr other ↦ (
            let before = sym (call_under-with_other e.calls key q d other) ∙ found in
            stands_at e.pool after e.calls key q c d x (ks.looks q) ch.is ks.holds ch.keeps other before
            (ks.stands q x before))
      ]

  -- the invariant, where it stands for some record, and holds beside its lead at most as many more as are left
  pub change_keeps : (k : CallLooks) → StandsCall after d k → beside_of d ≤ beside_of c + (e.shared - e.common) →
      KeepsSlots (changed e key d after common)
  change_keeps k st most =
      let all = keeps_at e.pool after e.calls key c d ch.is ks.holds ch.keeps in
      let live = live_count-with_call_under e.calls key d (ap is_some ch.is) in
      let beside = beside-with_call_under e.calls key c d ch.is in
      record {
        looks = λ q. pick q key k ks.looks (cases_eq q key);
        stands = new_stands k st;
        pace = pace-with_call_under e.calls key c d ch.is ch.pace ks.pace;
        holds = all.holds;
        all = all.count ∙ ks.all;
        live = omega (arith, live, ks.live);
        common = omega (arith, beside, ch.count, ks.common);
        within = omega (arith, ch.count, most, ks.within);
      }

  -- nothing else changes
  pub change_only : KeepsEnds e (changed e key d after common) key
  change_only =
      let one = changes_one e.pool after e.calls key c d ch.is ks.holds ch.keeps in
      record {
        others = one.kept;
        stands = λ q k other end. (
            let x = some_of (call_under e.calls q) (λ y. StandsAs e y k) end in
            some_and (call_under (with_call_under e.calls key d) q)
            (λ y. StandsAs (changed e key d after common) y k) x.0 (one.kept.others q other ∙ x.1)
            (record {
              stands = one.stands q x.0 k other x.1 x.2.stands;
              client = x.2.client;
              pace = x.2.pace;
            }));
        client = refl;
        shared = refl;
      }

  -- it took a step
  pub change_steps : (step : CallLooks → CallLooks) → d.client ≡ c.client →
      ((k : CallLooks) → StandsAs e c k → StandsCall after d (step k)) →
      ((k : CallLooks) → StandsAs e c k → common + beside_looks k ≡ e.common + beside_looks (step k)) →
      StepsEnd e (changed e key d after common) key step
  change_steps step client stands count =
      record {
        there = ap is_some (call_under-with_same e.calls key d (ap is_some ch.is));
        stands = λ k end. (
            let of = of_some_and (call_under e.calls key) (λ y. StandsAs e y k) c ch.is end in
            some_and (call_under (with_call_under e.calls key d) key)
            (λ y. StandsAs (changed e key d after common) y (step k)) d
            (call_under-with_same e.calls key d (ap is_some ch.is))
            (record {
              stands = stands k of;
              client = client ∙ of.client;
              pace = ch.pace ∙ of.pace;
            }));
        common = λ k end. count k (of_some_and (call_under e.calls key) (λ y. StandsAs e y k) c ch.is end);
        keeps = change_only;
      }

-- ---- a key comes to be there, or leaves

-- what an idle call stands for
abbrev pub idle_looks : EndOfCall → CallLooks
idle_looks c =
    record {
      received = nothing_received;
      sent = nothing_sent;
      rtt = c.rtt;
      cwnd = c.cwnd;
      owed_ack = c.owed;
      heard = c.heard;
      spoke = c.spoke;
    }

pub idle_stands : (pool : Slots) (c : EndOfCall) → IsIdle c → StandsCall pool c (idle_looks c)
idle_stands pool c idle =
    record {
      received = idle.received pool;
      sent = idle.sent pool;
      rtt = refl;
      cwnd = refl;
      owed = refl;
      heard = refl;
      spoke = refl;
    }

-- it holds no slot, before and after
pub record Turns (e : EndsState) (calls : KeptCalls) (key : ℕ) (k : CallLooks) : Type 0 where
  pub others : OthersStay e.calls calls key
  pub slots : slots_of_all calls ≡ slots_of_all e.calls
  pub live : live_count calls ≤ calls.room
  pub beside : beside_under (call_under calls key) ≡ beside_under (call_under e.calls key)
  pub pace : ForSome (call_under calls key) (λ c. c.pace ≡ calls.pace)
  pub stands : ForSome (call_under calls key) (λ c. StandsCall e.pool c k)

module _ (e : EndsState) (calls : KeptCalls) (key : ℕ) (k : CallLooks) (ks : KeepsSlots e)
    (t : Turns e calls key k) where
  turn_stands : (q : ℕ) (x : EndOfCall) → call_under calls q ≡ Some x →
      StandsCall e.pool x (pick q key k ks.looks (cases_eq q key))
  turn_stands q x found =
      elim (cases_eq q key) as (λ w. StandsCall e.pool x (pick q key k ks.looks w)) [
        | inl same ↦ t.stands x (ap (call_under calls) (sym same) ∙ found)
        | inr other ↦ ks.stands q x (sym (t.others.others q other) ∙ found)
      ]

  pub turn_keeps : KeepsSlots (record e { calls = calls })
  turn_keeps =
      let beside = beside-kept e.calls calls key t.others t.beside in
      let all = ap length t.slots in
      record {
        looks = λ q. pick q key k ks.looks (cases_eq q key);
        stands = turn_stands;
        pace = pace-kept e.calls calls key t.others t.pace ks.pace;
        holds = subst (λ ss. Holds e.pool ss) (sym t.slots) ks.holds;
        all = omega (arith, all, ks.all, t.others.room);
        live = t.live;
        common = omega (arith, ks.common, beside);
        within = ks.within;
      }

-- an idle call comes to be there
pub enters : (e : EndsState) (calls : KeptCalls) (key : ℕ) (c : EndOfCall) → call_under e.calls key ≡ None →
    call_under calls key ≡ Some c → IsIdleOf e.calls.pace c → OthersStay e.calls calls key →
    slots_of_all calls ≡ slots_of_all e.calls → live_count calls ≤ calls.room → Turns e calls key (idle_looks c)
enters e calls key c absent is idle others slots live =
    record {
      others = others;
      slots = slots;
      live = live;
      beside = ap beside_under is ∙ beside-idle c idle.idle ∙ sym (ap beside_under absent);
      pace = of_only_one calls key c (λ x. x.pace ≡ calls.pace) is (idle.pace_is ∙ sym others.pace);
      stands = of_only_one calls key c (λ x. StandsCall e.pool x (idle_looks c)) is (idle_stands e.pool c idle.idle);
    }

-- one leaves
pub leaves : (e : EndsState) (calls : KeptCalls) (key : ℕ) (k : CallLooks) → KeepsSlots e →
    IsSomeAnd (call_under e.calls key) IsIdle → call_under calls key ≡ None → OthersStay e.calls calls key →
    slots_of_all calls ≡ slots_of_all e.calls → live_count calls + 1 ≡ live_count e.calls → Turns e calls key k
leaves e calls key k ks idle absent others slots live =
    let x = some_of (call_under e.calls key) IsIdle idle in
    record {
      others = others;
      slots = slots;
      live = omega (arith, live, ks.live, others.room);
      beside = ap beside_under absent ∙ sym (ap beside_under x.1 ∙ beside-idle x.0 x.2);
      pace = λ c is. absurd (let both : None ≡ Some c = sym absent ∙ is in cc (both));
      stands = λ c is. absurd (let both : None ≡ Some c = sym absent ∙ is in cc (both));
    }

-- a call that holds the slots that it held
pub same_slots : (e : EndsState) (key : ℕ) (c d : EndOfCall) → KeepsSlots e → call_under e.calls key ≡ Some c →
    slots_of d ≡ slots_of c → d.pace ≡ c.pace → beside_of d ≡ beside_of c → Changes e key c d e.pool e.common
same_slots e key c d ks is slots pace beside =
    record {
      is = is;
      keeps = subst (λ ss. Keeps e.pool e.pool (slots_of c) ss) (sym slots)
          (keeps_same e.pool (slots_of c) (holds_of e key c ks is));
      pace = pace;
      count = omega (arith, beside);
    }

-- an idle call that starts
pub starts : (e : EndsState) (key : ℕ) (c d : EndOfCall) → KeepsSlots e → call_under e.calls key ≡ Some c → IsIdle c →
    slots_of d ≡ [] → d.pace ≡ c.pace → Changes e key c d e.pool e.common
starts e key c d ks is idle slots pace =
    let none = ap length slots in
    let was = beside-idle c idle in
    same_slots e key c d ks is (slots ∙ sym (idle_slots c idle)) pace (omega (arith, none, was))

-- it stands for a call that has just started
pub start_stands : (e : EndsState) (key : ℕ) (c d : EndOfCall) (pace : Pace) (now : ℕ) →
    call_under e.calls key ≡ Some c → StandsCall e.pool d (fresh_call c.pace now) →
    d.client ≡ e.client → d.pace ≡ c.pace → c.pace ≡ pace → e.calls.pace ≡ pace →
    StandsEnd (changed e key d e.pool e.common) key (fresh_call pace now)
start_stands e key c d pace now is st client same was of =
    some_and (call_under (with_call_under e.calls key d) key)
    (λ y. StandsAs (changed e key d e.pool e.common) y (fresh_call pace now)) d
    (call_under-with_same e.calls key d (ap is_some is))
    (record {
      stands = subst (λ w. StandsCall e.pool d (fresh_call w now)) was st;
      client = client;
      pace = same ∙ was ∙ sym of;
    })

-- one that becomes idle
pub clears : (e : EndsState) (key : ℕ) (c d : EndOfCall) (after : Slots) (before : ℕ) → KeepsSlots e →
    call_under e.calls key ≡ Some c → Keeps e.pool after (slots_of c) (slots_of d) → d.pace ≡ c.pace → IsIdle d →
    before ≡ beside_of c → Changes e key c d after (e.common - before)
clears e key c d after before ks is keeps pace idle counts =
    let low = counted_of e key c ks is in
    let none = beside-idle d idle in
    record { is = is; keeps = keeps; pace = pace; count = omega (arith, low, none, counts) }

-- ends with no call
pub empty_keeps : (e : EndsState) → ((key : ℕ) → call_under e.calls key ≡ None) → slots_of_all e.calls ≡ [] →
    live_count e.calls ≡ 0 → length e.pool.free ≡ e.shared + e.calls.room → e.common ≡ 0 → KeepsSlots e
empty_keeps e empty slots live free common =
    let size = ap length slots in
    let beside = beside-kept e.calls (record e.calls { by_key = [] }) 0
    (record { others = λ q other. sym (empty q); room = refl; pace = refl }) (ap beside_under (sym (empty 0))) in
    record {
      looks = λ key. idle_record;
      stands = λ key c is. absurd (let both : None ≡ Some c = sym (empty key) ∙ is in cc (both));
      pace = no_pace e.calls empty;
      holds = subst (λ ss. Holds e.pool ss) (sym slots) (holds_none e.pool);
      all = omega (arith, size, free);
      live = omega (arith, live);
      common = omega (arith, common, beside);
      within = omega (arith, common);
    }
  where
    idle_record : CallLooks
    idle_record = fresh_call (record { window = 0; prompt = false }) 0

-- ---- a call was counted before and behind

-- so many slots it held beside its lead, and so many it holds
module _ (e : EndsState) (key : ℕ) (c d : EndOfCall) (after : Slots) (before behind : ℕ) (ks : KeepsSlots e)
    (is : call_under e.calls key ≡ Some c) (keeps : Keeps e.pool after (slots_of c) (slots_of d)) (same : IsSameEnd c d)
    (first : before ≡ beside_of c) (last : behind ≡ beside_of d)
    (was : (pool : Slots) (k : CallLooks) → StandsCall pool c k → before ≡ beside_looks k)
    (becomes : (pool : Slots) (k : CallLooks) → StandsCall pool d k → behind ≡ beside_looks k) where
  counted_low : before ≤ e.common
  counted_low = (let low = counted_of e key c ks is in omega (arith, low, first))

  counted_changes : Changes e key c d after ((e.common - before) + behind)
  counted_changes =
      record {
        is = is;
        keeps = keeps;
        pace = same.pace;
        count = omega (arith, counted_low, first, last);
      }

  counted_most : (k : CallLooks) → StandsCall after d k →
      beside_looks k ≤ beside_looks (ks.looks key) + (e.shared - e.common) →
      beside_of d ≤ beside_of c + (e.shared - e.common)
  counted_most k st most =
      let old = was e.pool (ks.looks key) (ks.stands key c is) in
      let new = becomes after k st in
      omega (arith, old, new, first, last, most)

  -- no more than may be
  pub counted_fits : (k : CallLooks) → StandsCall after d k →
      beside_looks k ≤ beside_looks (ks.looks key) + (e.shared - e.common) → (e.common - before) + behind ≤ e.shared
  counted_fits k st most =
      let fits = counted_most k st most in
      omega (arith, fits, counted_low, first, last, ks.within)

  pub counted_keeps : (k : CallLooks) → StandsCall after d k →
      beside_looks k ≤ beside_looks (ks.looks key) + (e.shared - e.common) →
      KeepsSlots (changed e key d after ((e.common - before) + behind))
  counted_keeps k st most =
      change_keeps e key c d after ((e.common - before) + behind) ks counted_changes k st (counted_most k st most)

  pub counted_steps : (step : CallLooks → CallLooks) →
      ((k : CallLooks) → StandsAs e c k → StandsCall after d (step k)) →
      StepsEnd e (changed e key d after ((e.common - before) + behind)) key step
  counted_steps step stands =
      change_steps e key c d after ((e.common - before) + behind) ks counted_changes step same.client stands
      (λ k of. (
      let old = was e.pool k of.stands in
      let new = becomes after (step k) (stands k of) in
      omega (arith, counted_low, old, new)))

-- the call of a key, where it stands as this node's
pub of_end : (e : EndsState) (key : ℕ) (c : EndOfCall) (k : CallLooks) → KeepsSlots e
    → call_under e.calls key ≡ Some c →
    StandsEnd e key k → StandsAs e c k
of_end e key c k ks is end = of_some_and (call_under e.calls key) (λ y. StandsAs e y k) c is end

-- its view is that of its node
pub view_same : (e : EndsState) (c : EndOfCall) (k : CallLooks) (left now : ℕ) → StandsAs e c k →
    left ≡ e.shared - e.common → view_of c left now ≡ view_at e now
view_same e c k left now st is =
    λ i. record { client = st.client i; window = (st.pace i).window; left = is i; now = now }
