-- One call among all: what it does to the pool leaves the slots of the others, and all together keep the pool's rules.
-- For a node over its calls.
use Rattle.std.proofs.Common.{◌≡◌, ◌≢◌, inl, inr, ◌<◌, ◌+◌, cond, Bool, true, false, ℕ, zero, suc, List, [], ◌∷◌, ◌++◌}
use Rattle.std.proofs.Common.{Option, Some, None, is_some, IsSome, length, get_or, set, refl, sym, ap, ◌∙◌, subst}
use Rattle.std.proofs.Common.{arith}
use Rattle.std.proofs.Common.{append_assoc, count_by, IsSomeAnd}
use Rattle.std.specs.List.{flat_map}
use Rattle.std.specs.Option.{ForSome}
use Rattle.std.proofs.lemmas.Bool.{cases_Bool, cases_eq, cases_lt, false≢true}
use Rattle.std.proofs.lemmas.List.{get_or-set_same, get_or-set_other, set-get_or, get_or_past}
use Rattle.std.proofs.lemmas.List.Sums.{sum_by-set}
use Rattle.rx_pool.specs.Pool.{Slots, has, HasNoRepeat}
use Rattle.rx_pool.specs.Held.{Holds, Keeps}
use Rattle.rx_pool.proofs.Beside.{has_left, has_right, has_either, not_left, apart_disjoint, no_repeat_right}
use Rattle.rx_pool.proofs.Holding.{keeps_same, keeps_then}
use Rattle.rx_pool.proofs.Beside.{holds_left, holds_right, keeps_left, keeps_right}
use Rattle.rx_rules.specs.CallLooks.{CallLooks}
use Rattle.rx_call.specs.Standing.{EndOfCall, StandsCall, slots_of}
use Rattle.rx_call.specs.Kept.{KeptCalls, call_under, with_call_under, live_count, slots_under, slots_of_all}
use Rattle.rx_call.specs.Kept.{OthersStay, ChangesOne, HasTheirPace}
use Rattle.rx_call.proofs.Undisturbed.{call_undisturbed}

-- ---- the list of calls by key

-- a key that is there is within the list
pub key_within : (xs : List (Option EndOfCall)) (key : ℕ) → IsSome (get_or xs key None) → key < length xs
key_within xs key there =
    elim (cases_lt key (length xs)) as (λ _. key < length xs) [
      | inl lt ↦ lt
      | inr past ↦ absurd (false≢true (sym (ap is_some (get_or_past xs key None past)) ∙ there))
    ]

-- ---- how many keys are there

abbrev pub one_if : Bool → ℕ
one_if b = cond b 1 0

pub count-set : (xs : List (Option EndOfCall)) (key : ℕ) (v : Option EndOfCall) → key < length xs →
    count_by is_some (set xs key v) + one_if (is_some (get_or xs key None)) ≡ count_by is_some xs + one_if (is_some v)
count-set xs key v lt = sum_by-set (λ o. one_if (is_some o)) xs key v None lt

-- ---- what they hold

-- what comes before a key and what comes behind it
pub parts_at : (xs : List (Option EndOfCall)) (key : ℕ) → key < length xs →
    (front : List ℕ) × (back : List ℕ) × ((v : Option EndOfCall) →
    flat_map slots_under (set xs key v) ≡ front ++ (slots_under v ++ back))
parts_at [] key lt = absurd (omega (arith, lt))
parts_at (x ∷ xs) zero lt = ([], flat_map slots_under xs, λ v. refl)
parts_at (x ∷ xs) (suc key) lt =
    let later = parts_at xs key (omega (arith, lt)) in (
      slots_under x ++ later.0,
      later.1,
      λ v. ap (λ ys. slots_under x ++ ys) (later.2 v)
          ∙ sym (append_assoc (slots_under x) later.0 (slots_under v ++ later.1)),
    )

-- the slots of a key's call are among all
pub has_among : (xs : List (Option EndOfCall)) (key : ℕ) (c : EndOfCall) (s : ℕ) → get_or xs key None ≡ Some c →
    has s (slots_of c) ≡ true → has s (flat_map slots_under xs) ≡ true
has_among [] key c s is held = absurd (cc)
has_among (x ∷ xs) zero c s is held =
    has_left s (slots_under x) (flat_map slots_under xs) (ap (λ o. has s (slots_under o)) is ∙ held)
has_among (x ∷ xs) (suc key) c s is held =
    has_right s (slots_under x) (flat_map slots_under xs) (has_among xs key c s is held)

-- ---- who holds

-- what is before or behind isn't in the middle
apart_middle : (front mid back : List ℕ) (s : ℕ) → HasNoRepeat (front ++ (mid ++ back)) →
    has s (front ++ back) ≡ true → has s mid ≡ false
apart_middle front mid back s apart there =
    elim (cases_Bool (has s mid)) as (λ _. has s mid ≡ false) [
      | inl held ↦ (
          elim (has_either s front back there) as (λ _. has s mid ≡ false) [
            | inl l ↦ not_left s mid back (apart_disjoint front (mid ++ back) apart s l)
            | inr r ↦
                absurd
                (false≢true
                (sym (apart_disjoint mid back (no_repeat_right front (mid ++ back) apart) s held) ∙ r))
          ])
      | inr n ↦ n
    ]

-- all slots: those before the key, those of its call, those behind
record Parts (calls : KeptCalls) (key : ℕ) (c : EndOfCall) : Type 0 where
  front : List ℕ
  back : List ℕ
  is : slots_of_all calls ≡ front ++ (slots_of c ++ back)
  with : (d : EndOfCall) → slots_of_all (with_call_under calls key d) ≡ front ++ (slots_of d ++ back)
  without : flat_map slots_under (set calls.by_key key None) ≡ front ++ back

parts_of : (calls : KeptCalls) (key : ℕ) (c : EndOfCall) → call_under calls key ≡ Some c → Parts calls key c
parts_of calls key c is =
    let at = parts_at calls.by_key key (key_within calls.by_key key (ap is_some is)) in
    record {
      front = at.0;
      back = at.1;
      is =
          ap (flat_map slots_under) (sym (set-get_or calls.by_key key None)) ∙ at.2 (get_or calls.by_key key None)
          ∙ ap (λ o. at.0 ++ (slots_under o ++ at.1)) is;
      with = λ d. at.2 (Some d);
      without = at.2 None;
    }

-- a key that is there has the call that it got
pub call_under-with_same : (calls : KeptCalls) (key : ℕ) (d : EndOfCall) → IsSome (call_under calls key) →
    call_under (with_call_under calls key d) key ≡ Some d
call_under-with_same calls key d there =
    get_or-set_same calls.by_key key (Some d) None (key_within calls.by_key key there)

pub call_under-with_other : (calls : KeptCalls) (key q : ℕ) (d : EndOfCall) → q ≢ key →
    call_under (with_call_under calls key d) q ≡ call_under calls q
call_under-with_other calls key q d apart = get_or-set_other calls.by_key key q (Some d) None apart

-- a call that is there answers for itself alone
pub only_one : (calls : KeptCalls) (key : ℕ) (c e : EndOfCall) → call_under calls key ≡ Some c →
    call_under calls key ≡ Some e → e ≡ c
only_one calls key c e is also = let both : Some e ≡ Some c = sym also ∙ is in cc

-- what one has of a call, each has that is found at the key
pub of_only_one : (calls : KeptCalls) (key : ℕ) (c : EndOfCall) (P : EndOfCall → Type 0) →
    call_under calls key ≡ Some c → P c → ForSome (call_under calls key) P
of_only_one calls key c P is h = λ e also. subst P (sym (only_one calls key c e is also)) h

-- each call has the pace of all still
pub pace-with_call_under : (calls : KeptCalls) (key : ℕ) (c d : EndOfCall) → call_under calls key ≡ Some c →
    d.pace ≡ c.pace → HasTheirPace calls → HasTheirPace (with_call_under calls key d)
pace-with_call_under calls key c d is same all =
    λ q e found. (elim (cases_eq q key) as (λ _. e.pace ≡ calls.pace) [
      | inl here ↦ (
          let first = ap (call_under (with_call_under calls key d)) (sym here) ∙ found in
          let this : e ≡ d = (
          only_one (with_call_under calls key d) key d e (call_under-with_same calls key d (ap is_some is)) first) in
          ap (λ (x : EndOfCall). x.pace) this ∙ same ∙ all key c is)
      | inr other ↦ all q e (sym (call_under-with_other calls key q d other) ∙ found)
    ])

pub no_pace : (calls : KeptCalls) → ((key : ℕ) → call_under calls key ≡ None) → HasTheirPace calls
no_pace calls empty = λ key c is. absurd (let both : None ≡ Some c = sym (empty key) ∙ is in cc)

pub pace-kept : (old new : KeptCalls) (key : ℕ) → OthersStay old new key →
    ForSome (call_under new key) (λ c. c.pace ≡ new.pace) → HasTheirPace old → HasTheirPace new
pace-kept old new key kept here all =
    λ q e found. (elim (cases_eq q key) as (λ _. e.pace ≡ new.pace) [
      | inl same ↦ here e (ap (call_under new) (sym same) ∙ found)
      | inr other ↦ all q e (sym (kept.others q other) ∙ found) ∙ sym kept.pace
    ])

-- as many keys are there
pub live_count-with_call_under : (calls : KeptCalls) (key : ℕ) (d : EndOfCall) → IsSome (call_under calls key) →
    live_count (with_call_under calls key d) ≡ live_count calls
live_count-with_call_under calls key d there =
    let more = count-set calls.by_key key (Some d) (key_within calls.by_key key there) in
    let one = ap one_if there in
    omega (arith, more, one)

-- none is held where no slot is
pub holds_none : (pool : Slots) → Holds pool []
holds_none pool = record { of = λ s h. absurd (false≢true h); apart = tt }

-- the slots of one call are held where those of all are
pub holds_at : (pool : Slots) (calls : KeptCalls) (key : ℕ) (c : EndOfCall) → call_under calls key ≡ Some c →
    Holds pool (slots_of_all calls) → Holds pool (slots_of c)
holds_at pool calls key c is h =
    let p = parts_of calls key c is in
    holds_left pool (slots_of c) p.back
    (holds_right pool p.front (slots_of c ++ p.back) (subst (λ ss. Holds pool ss) p.is h))

-- a call that holds the slots that it held
pub slots-with_call_under : (calls : KeptCalls) (key : ℕ) (c d : EndOfCall) → call_under calls key ≡ Some c →
    slots_of d ≡ slots_of c → slots_of_all (with_call_under calls key d) ≡ slots_of_all calls
slots-with_call_under calls key c d is same =
    let p = parts_of calls key c is in
    p.with d ∙ ap (λ ss. p.front ++ (ss ++ p.back)) same ∙ sym p.is

-- what one call does, all do
pub keeps_at : (pool after : Slots) (calls : KeptCalls) (key : ℕ) (c d : EndOfCall) → call_under calls key ≡ Some c →
    Holds pool (slots_of_all calls) → Keeps pool after (slots_of c) (slots_of d) →
    Keeps pool after (slots_of_all calls) (slots_of_all (with_call_under calls key d))
keeps_at pool after calls key c d is h k =
    let p = parts_of calls key c is in
    let whole = subst (λ ss. Holds pool ss) p.is h in
    let right =
    keeps_left pool after (slots_of c) (slots_of d) p.back k (holds_right pool p.front (slots_of c ++ p.back) whole) in
    let all = keeps_right pool after p.front (slots_of c ++ p.back) (slots_of d ++ p.back) right whole in
    subst (λ ss. Keeps pool after ss (slots_of_all (with_call_under calls key d))) (sym p.is)
    (subst (λ ss. Keeps pool after (p.front ++ (slots_of c ++ p.back)) ss) (sym (p.with d)) all)

-- two calls share no slot
pub apart_at : (calls : KeptCalls) (key q : ℕ) (c e : EndOfCall) (s : ℕ) → call_under calls key ≡ Some c →
    call_under calls q ≡ Some e → q ≢ key → HasNoRepeat (slots_of_all calls) → has s (slots_of e) ≡ true →
    has s (slots_of c) ≡ false
apart_at calls key q c e s is other apart unshared held =
    let p = parts_of calls key c is in
    let still : get_or (set calls.by_key key None) q None ≡ Some e = (
    get_or-set_other calls.by_key key q None None apart ∙ other) in
    let among = has_among (set calls.by_key key None) q e s still held in
    apart_middle p.front (slots_of c) p.back s (subst HasNoRepeat p.is unshared)
    (ap (has s) (sym p.without) ∙ among)

module _ (pool after : Slots) (calls : KeptCalls) (key q : ℕ) (c d e : EndOfCall) (k : CallLooks) where
  -- every other call stands for what it stood for
  pub stands_at : call_under calls key ≡ Some c → Holds pool (slots_of_all calls)
      → Keeps pool after (slots_of c) (slots_of d) → q ≢ key → call_under calls q ≡ Some e → StandsCall pool e k
      → StandsCall after e k
  stands_at is h keeps apart other st =
      call_undisturbed pool after e k st
      (λ s held. (keeps.others s ((holds_at pool calls q e other h).of s held)
      (apart_at calls key q c e s is other apart h.apart held)).bytes)

-- the call of a key used the pool
pub changes_one : (pool after : Slots) (calls : KeptCalls) (key : ℕ) (c d : EndOfCall) → call_under calls key ≡ Some c →
    Holds pool (slots_of_all calls) → Keeps pool after (slots_of c) (slots_of d) →
    ChangesOne pool after calls (with_call_under calls key d) key
changes_one pool after calls key c d is h keeps =
    record {
      kept = record {
        others = λ q apart. call_under-with_other calls key q d apart;
        room = refl;
        pace = refl;
      };
      keeps = keeps_at pool after calls key c d is h keeps;
      stands = λ q e k apart other st. stands_at pool after calls key q c d e k is h keeps apart other st;
    }

-- a key comes to be there, or leaves
pub changes_kept : (pool : Slots) (old new : KeptCalls) (key : ℕ) → Holds pool (slots_of_all old) →
    OthersStay old new key → slots_of_all new ≡ slots_of_all old → ChangesOne pool pool old new key
changes_kept pool old new key h kept same =
    record {
      kept = kept;
      keeps =
          subst (λ ss. Keeps pool pool (slots_of_all old) ss) (sym same) (keeps_same pool (slots_of_all old) h);
      stands = λ q c k apart is st. st;
    }

-- one thing after another, at the same key
pub changes_then : (p q r : Slots) (a b c : KeptCalls) (key : ℕ) → ChangesOne p q a b key →
    ChangesOne q r b c key → ChangesOne p r a c key
changes_then p q r a b c key one next =
    record {
      kept = record {
        others = λ n apart. next.kept.others n apart ∙ one.kept.others n apart;
        room = next.kept.room ∙ one.kept.room;
        pace = next.kept.pace ∙ one.kept.pace;
      };
      keeps = keeps_then p q r (slots_of_all a) (slots_of_all b) (slots_of_all c) one.keeps next.keeps;
      stands = λ n e k apart is st.
          next.stands n e k apart (one.kept.others n apart ∙ is) (one.stands n e k apart is st);
    }

-- ---- idle calls

pub some_of : (o : Option EndOfCall) (P : EndOfCall → Type 0) → IsSomeAnd o P →
    (c : EndOfCall) × (o ≡ Some c) × P c
some_of None P h = absurd h
some_of (Some c) P h = (c, refl, h)

pub of_some_and : (o : Option EndOfCall) (P : EndOfCall → Type 0) (c : EndOfCall) → o ≡ Some c → IsSomeAnd o P → P c
of_some_and o P c is h = subst (λ (p : Option EndOfCall). IsSomeAnd p P) is h

pub some_and : (o : Option EndOfCall) (P : EndOfCall → Type 0) (c : EndOfCall) → o ≡ Some c → P c → IsSomeAnd o P
some_and o P c is h = subst (λ (p : Option EndOfCall). IsSomeAnd p P) (sym is) h
