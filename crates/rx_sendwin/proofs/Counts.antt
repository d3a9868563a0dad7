-- How many pieces are acknowledged, in flight or new.
use Rattle.std.proofs.Common.{◌≡◌, inl, inr, ◌<◌, ◌≤◌, ◌+◌, ◌-◌, cond, not, ◌&&◌, ◌||◌, nat_le, Bool}
use Rattle.std.proofs.Common.{true}
use Rattle.std.proofs.Common.{false, ℕ, suc, zero, List, get_or, Some, None, refl, sym}
use Rattle.std.proofs.Common.{ap, ◌∙◌}
use Rattle.std.proofs.Common.{arith}
use Rattle.std.proofs.lemmas.Bool.Decides.{nat_tests}
use Rattle.std.proofs.lemmas.Bool.{cases_eq}
use Rattle.rx_rules.specs.Sent.{count_to, highest_to}
use Rattle.rx_sendwin.specs.Marks.{is_acked_by, flight_by, newly_by, highest_by, is_new_by}

pub known_low : (acked : ℕ) (soft : List Bool) (k : ℕ) → k ≤ acked → is_acked_by acked soft k ≡ true
known_low acked soft k le =
    let yes : nat_le k acked ≡ true = grind (arith, nat_tests, le) in
    rw yes refl

pub known_high : (acked : ℕ) (soft : List Bool) (i : ℕ) → is_acked_by acked soft (suc (acked + i)) ≡ get_or soft i false
known_high acked soft i =
    let gone : nat_le (suc (acked + i)) acked ≡ false = grind (arith, nat_tests) in
    let at : suc (acked + i) - suc acked ≡ i = omega arith in
    (λ j. gone j || get_or soft (at j) false)

-- marks that are alike at each place say the same
pub known_alike : (acked : ℕ) (a b : List Bool) → ((i : ℕ) → get_or a i false ≡ get_or b i false) →
    is_acked_by acked a ≡ is_acked_by acked b
known_alike acked a b same = λ j k. nat_le k acked || same (k - suc acked) j

-- ---- counts

-- nothing is counted where no test passes
pub count_nothing : (test : ℕ → Bool) (n : ℕ) → ((k : ℕ) → k < n → test (suc k) ≡ false) → count_to test n ≡ 0
count_nothing test zero fails = refl
count_nothing test (suc n) fails =
    rw (fails n (omega arith)) (count_nothing test n (λ k lt. fails k (omega (arith, lt))))

highest_nothing : (test : ℕ → Bool) (n : ℕ) → ((k : ℕ) → k < n → test (suc k) ≡ false) → highest_to test n ≡ None
highest_nothing test zero fails = refl
highest_nothing test (suc n) fails =
    rw (fails n (omega arith)) (highest_nothing test n (λ k lt. fails k (omega (arith, lt))))

-- no more are counted than there are
pub count_most : (test : ℕ → Bool) (n : ℕ) → count_to test n ≤ n
count_most test zero = omega arith
count_most test (suc n) =
    let rest = count_most test n in
    elim (test (suc n)) as (λ b. cond b (suc (count_to test n)) (count_to test n) ≤ suc n) [
      | true ↦ omega (arith, rest)
      | false ↦ omega (arith, rest)
    ]

-- what no test passes behind u isn't counted
pub count_cut : (test : ℕ → Bool) (u n : ℕ) → u ≤ n → ((k : ℕ) → u < k → k ≤ n → test k ≡ false) →
    count_to test n ≡ count_to test u
count_cut test u zero le fails = (let is : zero ≡ u = omega (arith, le) in ap (count_to test) is)
count_cut test u (suc n) le fails =
    elim (cases_eq u (suc n)) as (λ _. count_to test (suc n) ≡ count_to test u) [
      | inl e ↦ ap (count_to test) (sym e)
      | inr apart ↦ (
          let up : u ≤ n = omega (arith, le, apart) in
          rw (fails (suc n) (omega (arith, up)) (omega arith))
          (count_cut test u n up (λ k lt most. fails k lt (omega (arith, most)))))
    ]

highest_cut : (test : ℕ → Bool) (u n : ℕ) → u ≤ n → ((k : ℕ) → u < k → k ≤ n → test k ≡ false) →
    highest_to test n ≡ highest_to test u
highest_cut test u zero le fails = (let is : zero ≡ u = omega (arith, le) in ap (highest_to test) is)
highest_cut test u (suc n) le fails =
    elim (cases_eq u (suc n)) as (λ _. highest_to test (suc n) ≡ highest_to test u) [
      | inl e ↦ ap (highest_to test) (sym e)
      | inr apart ↦ (
          let up : u ≤ n = omega (arith, le, apart) in
          rw (fails (suc n) (omega (arith, up)) (omega arith))
          (highest_cut test u n up (λ k lt most. fails k lt (omega (arith, most)))))
    ]

-- behind u all are in flight
pub flight_cut : (known : ℕ → Bool) (u n : ℕ) → u ≤ n → ((k : ℕ) → u < k → k ≤ n → known k ≡ false) →
    flight_by known n ≡ flight_by known u + (n - u)
flight_cut known u zero le none =
    let is : zero ≡ u = omega (arith, le) in
    let same : flight_by known zero ≡ flight_by known u = ap (flight_by known) is in
    same ∙ omega (arith, le)
flight_cut known u (suc n) le none =
    elim (cases_eq u (suc n)) as (λ _. flight_by known (suc n) ≡ flight_by known u + (suc n - u)) [
      | inl e ↦ (
          let same : flight_by known (suc n) ≡ flight_by known u = ap (flight_by known) (sym e) in
          same ∙ omega (arith, e))
      | inr apart ↦ (
          let up : u ≤ n = omega (arith, le, apart) in
          let rest = flight_cut known u n up (λ k lt most. none k lt (omega (arith, most))) in
          rw (none (suc n) (omega (arith, up)) (omega arith)) (omega (arith, rest, up)))
    ]

pub and_false : (a b : Bool) → b ≡ false → (a && b) ≡ false
and_false true b h = h
and_false false b h = refl

-- a piece that isn't acknowledged isn't new
pub newly_cut : (before after : ℕ → Bool) (u n : ℕ) → u ≤ n → ((k : ℕ) → u < k → k ≤ n → after k ≡ false) →
    newly_by before after n ≡ newly_by before after u
newly_cut before after u n le none =
    count_cut (is_new_by before after) u n le (λ k lt most. and_false (not (before k)) (after k) (none k lt most))

pub new_highest_cut : (before after : ℕ → Bool) (u n : ℕ) → u ≤ n →
    ((k : ℕ) → u < k → k ≤ n → after k ≡ false) → highest_by before after n ≡ highest_by before after u
new_highest_cut before after u n le none =
    highest_cut (is_new_by before after) u n le (λ k lt most. and_false (not (before k)) (after k) (none k lt most))

-- a piece that was hard acknowledged isn't new
not_new : (after : ℕ → Bool) (acked : ℕ) (soft : List Bool) (k : ℕ) → k ≤ acked →
    is_new_by (is_acked_by acked soft) after k ≡ false
not_new after acked soft k le = rw (known_low acked soft k le) refl

pub newly_none : (after : ℕ → Bool) (acked : ℕ) (soft : List Bool) (n : ℕ) → n ≤ acked →
    newly_by (is_acked_by acked soft) after n ≡ 0
newly_none after acked soft n le =
    count_nothing (is_new_by (is_acked_by acked soft) after) n
    (λ k lt. not_new after acked soft (suc k) (omega (arith, le, lt)))

pub highest_none : (after : ℕ → Bool) (acked : ℕ) (soft : List Bool) (n : ℕ) → n ≤ acked →
    highest_by (is_acked_by acked soft) after n ≡ None
highest_none after acked soft n le =
    highest_nothing (is_new_by (is_acked_by acked soft) after) n
    (λ k lt. not_new after acked soft (suc k) (omega (arith, le, lt)))

same_not_new : (b : Bool) → (not b && b) ≡ false
same_not_new true = refl
same_not_new false = refl

pub newly_same : (test : ℕ → Bool) (n : ℕ) → newly_by test test n ≡ 0
newly_same test n = count_nothing (is_new_by test test) n (λ k lt. same_not_new (test (suc k)))

pub highest_same : (test : ℕ → Bool) (n : ℕ) → highest_by test test n ≡ None
highest_same test n = highest_nothing (is_new_by test test) n (λ k lt. same_not_new (test (suc k)))

-- one piece down, where the highest isn't new
pub highest_down : (before after : ℕ → Bool) (n : ℕ) (b a : Bool) → 0 < n → b ≡ before n → a ≡ after n →
    (not b && a) ≡ false → highest_by before after n ≡ highest_by before after (n - 1)
highest_down before after zero b a lt eb ea old = absurd (omega (arith, lt))
highest_down before after (suc n) b a lt eb ea old =
    let test : (not (before (suc n)) && after (suc n)) ≡ false = (λ i. not (sym eb i) && sym ea i) ∙ old in
    let back : suc n - 1 ≡ n = omega arith in
    ap (λ t. cond t (Some (suc n)) (highest_by before after n)) test ∙ ap (highest_by before after) (sym back)

pub highest_here : (before after : ℕ → Bool) (n : ℕ) (b a : Bool) → 0 < n → b ≡ before n → a ≡ after n →
    (not b && a) ≡ true → highest_by before after n ≡ Some n
highest_here before after zero b a lt eb ea new = absurd (omega (arith, lt))
highest_here before after (suc n) b a lt eb ea new =
    let test : (not (before (suc n)) && after (suc n)) ≡ true = (λ i. not (sym eb i) && sym ea i) ∙ new in
    ap (λ t. cond t (Some (suc n)) (highest_by before after n)) test

pub flight_none : (acked : ℕ) (soft : List Bool) (n : ℕ) → n ≤ acked → flight_by (is_acked_by acked soft) n ≡ 0
flight_none acked soft n le =
    count_nothing (λ k. not (is_acked_by acked soft k)) n
    (λ k lt. ap not (known_low acked soft (suc k) (omega (arith, le, lt))))

pub flight_most : (known : ℕ → Bool) (n : ℕ) → flight_by known n ≤ n
flight_most known n = count_most (λ k. not (known k)) n
