-- A node whose calls hold no more beside their leads than may be has a slot for the lead of each call.
use Rattle.std.proofs.Common.{◌≡◌, inl, inr, ◌≤◌, ◌+◌, ◌-◌, cond, Bool, true, false, ℕ, zero, suc, List, [], ◌∷◌}
use Rattle.std.proofs.Common.{Option, Some, None, is_some, length, get_or, refl, sym, ap, ◌∙◌, arith}
use Rattle.std.proofs.Common.{length-append, count_by, subst}
use Rattle.std.specs.Prelude.{sum_by}
use Rattle.std.specs.List.{flat_map}
use Rattle.std.proofs.lemmas.Bool.{cases_Bool, cases_eq}
use Rattle.std.proofs.lemmas.List.Sums.{sum_by-set, sum_by-cons}
use Rattle.rx_pool.specs.Pool.{Slots}
use Rattle.rx_call.specs.Standing.{EndOfCall, IsIdle, HasSpare, slots_of, holds_lead, leadless}
use Rattle.rx_call.specs.Kept.{KeptCalls, call_under, with_call_under, live_count, slots_under, slots_of_all}
use Rattle.rx_call.specs.Kept.{OthersStay}
use Rattle.rx_call.specs.Kept.{beside_of, beside_under, beside_of_all}
use Rattle.rx_call.proofs.Leads.{lead_some}
use Rattle.rx_call.proofs.Undisturbed.{idle_slots}
use Rattle.rx_call.proofs.CallsAt.{key_within, one_if}

-- whether the call of a key holds its lead, in slots
abbrev lead_under : Option EndOfCall → ℕ
lead_under None = 0
lead_under (Some c) = one_if (holds_lead c)

-- the slots of one call: its lead, and those beside it
one_call : (c : EndOfCall) → length (slots_of c) ≡ beside_of c + one_if (holds_lead c)
one_call c =
    elim (cases_Bool (holds_lead c)) as (λ _. length (slots_of c) ≡ beside_of c + one_if (holds_lead c)) [
      | inl lead ↦ (
          let some = lead_some c lead in
          let one = ap one_if lead in
          omega (arith, some, one))
      | inr none ↦ (
          let zero = ap one_if none in
          omega (arith, zero))
    ]

all_calls : (xs : List (Option EndOfCall)) →
    length (flat_map slots_under xs) ≡ sum_by beside_under xs + sum_by lead_under xs
all_calls [] = refl
all_calls (None ∷ xs) =
    let rest = all_calls xs in
    let beside = sum_by-cons beside_under None xs in
    let lead = sum_by-cons lead_under None xs in
    omega (arith, rest, beside, lead)
all_calls (Some c ∷ xs) =
    let rest = all_calls xs in
    let beside = sum_by-cons beside_under (Some c) xs in
    let lead = sum_by-cons lead_under (Some c) xs in
    let here = one_call c in
    let both = length-append (slots_of c) (flat_map slots_under xs) in
    omega (arith, rest, beside, lead, here, both)

one_at_most : (b : Bool) → one_if b ≤ 1
one_at_most true = omega arith
one_at_most false = omega arith

-- each call that is there holds one lead at most
few_leads : (xs : List (Option EndOfCall)) → sum_by lead_under xs ≤ count_by is_some xs
few_leads [] = omega arith
few_leads (None ∷ xs) =
    let rest = few_leads xs in
    let lead = sum_by-cons lead_under None xs in
    let one = sum_by-cons (λ (o : Option EndOfCall). one_if (is_some o)) None xs in
    omega (arith, rest, lead, one)
few_leads (Some c ∷ xs) =
    let rest = few_leads xs in
    let lead = sum_by-cons lead_under (Some c) xs in
    let one = sum_by-cons (λ (o : Option EndOfCall). one_if (is_some o)) (Some c) xs in
    let most = one_at_most (holds_lead c) in
    omega (arith, rest, lead, one, most)

-- and with one that holds none, one fewer than are there
leads_but_one : (xs : List (Option EndOfCall)) (key : ℕ) (c : EndOfCall) → get_or xs key None ≡ Some c →
    sum_by lead_under xs + leadless c ≤ count_by is_some xs
leads_but_one [] key c is = absurd (cc)
leads_but_one (x ∷ xs) zero c is =
    let rest = few_leads xs in
    let lead = sum_by-cons lead_under x xs ∙ ap (λ o. lead_under o + sum_by lead_under xs) is in
    let one = sum_by-cons (λ (o : Option EndOfCall). one_if (is_some o)) x xs in
    let here = ap (λ o. one_if (is_some o)) is in
    let both = lead_or_none (holds_lead c) in
    omega (arith, rest, lead, one, here, both)
  where
    lead_or_none : (b : Bool) → one_if b + cond b 0 1 ≡ 1
    lead_or_none true = refl
    lead_or_none false = refl
leads_but_one (None ∷ xs) (suc key) c is =
    let rest = leads_but_one xs key c is in
    let lead = sum_by-cons lead_under None xs in
    let one = sum_by-cons (λ (o : Option EndOfCall). one_if (is_some o)) None xs in
    omega (arith, rest, lead, one)
leads_but_one (Some d ∷ xs) (suc key) c is =
    let rest = leads_but_one xs key c is in
    let lead = sum_by-cons lead_under (Some d) xs in
    let one = sum_by-cons (λ (o : Option EndOfCall). one_if (is_some o)) (Some d) xs in
    let most = one_at_most (holds_lead d) in
    omega (arith, rest, lead, one, most)

-- where the pool has a slot for each call and some beside, and the calls hold no more than those beside their leads,
-- each call has room for its lead and as many as are left
pub spare_at : (pool : Slots) (calls : KeptCalls) (key : ℕ) (c : EndOfCall) (shared : ℕ) →
    call_under calls key ≡ Some c → length pool.free + length (slots_of_all calls) ≡ calls.room + shared →
    live_count calls ≤ calls.room → beside_of_all calls ≤ shared → HasSpare pool c (shared - beside_of_all calls)
spare_at pool calls key c shared is size live most =
    let all = all_calls calls.by_key in
    let leads = leads_but_one calls.by_key key c is in
    omega (arith, all, leads, size, live, most)

-- ---- what they hold beside their leads, through changes

-- one call changes
pub beside-with_call_under : (calls : KeptCalls) (key : ℕ) (c d : EndOfCall) → call_under calls key ≡ Some c →
    beside_of_all (with_call_under calls key d) + beside_of c ≡ beside_of_all calls + beside_of d
beside-with_call_under calls key c d is =
    let more =
    sum_by-set beside_under calls.by_key key (Some d) None (key_within calls.by_key key (ap is_some is)) in
    let here = ap beside_under is in
    omega (arith, more, here)

sum_none : (ys : List (Option EndOfCall)) → ((i : ℕ) → beside_under (get_or ys i None) ≡ 0) →
    sum_by beside_under ys ≡ 0
sum_none [] none = refl
sum_none (y ∷ ys) none =
    let rest = sum_none ys (λ i. none (suc i)) in
    let first = none 0 in
    let more = sum_by-cons beside_under y ys in
    omega (arith, rest, first, more)

sum_same : (xs ys : List (Option EndOfCall)) →
    ((i : ℕ) → beside_under (get_or ys i None) ≡ beside_under (get_or xs i None)) →
    sum_by beside_under ys ≡ sum_by beside_under xs
sum_same [] ys same = sum_none ys same
sum_same (x ∷ xs) [] same = sym (sum_none (x ∷ xs) (λ i. sym (same i)))
sum_same (x ∷ xs) (y ∷ ys) same =
    let rest = sum_same xs ys (λ i. same (suc i)) in
    let first = same 0 in
    let one = sum_by-cons beside_under x xs in
    let two = sum_by-cons beside_under y ys in
    omega (arith, rest, first, one, two)

-- a key comes to be there, or leaves
pub beside-kept : (old new : KeptCalls) (key : ℕ) → OthersStay old new key →
    beside_under (call_under new key) ≡ beside_under (call_under old key) → beside_of_all new ≡ beside_of_all old
beside-kept old new key kept here =
    sum_same old.by_key new.by_key
    (λ q. elim (cases_eq q key) as (λ _. beside_under (call_under new q) ≡ beside_under (call_under old q)) [
      | inl same ↦ subst (λ n. beside_under (call_under new n) ≡ beside_under (call_under old n)) (sym same) here
      | inr other ↦ ap beside_under (kept.others q other)
    ])

-- an idle call holds none
pub beside-idle : (c : EndOfCall) → IsIdle c → beside_of c ≡ 0
beside-idle c idle =
    let none = ap length (idle_slots c idle) in
    omega (arith, none)
