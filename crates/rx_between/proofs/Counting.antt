-- Lemmas on numbers in a row: which of them pass a test, and how far from the first one on all pass.
use Rattle.std.proofs.Common.{◌≡◌, ℕ, zero, suc, ◌+◌, ◌<◌, ◌≤◌, Bool, true, false, cond, ◌&&◌}
use Rattle.std.proofs.Common.{replicate, refl, ap, sym, subst, slice_index_or}
use Rattle.std.proofs.Common.{◌∙◌, arith, ◌==◌, inl, inr}
use Rattle.std.proofs.lemmas.Bool.{eq-eqb, ne_eqb, cases_eq, cases_lt, both_ways, eqb-true, and_parts}
use Rattle.rx_rules.specs.Received.{reach}
use Rattle.rx_rules.specs.Sent.{count_to}
use Rattle.rx_rules.proofs.ReachLaws.{reach_within}

-- ---- how many pass

-- none
pub count_none : (p : ℕ → Bool) (n : ℕ) → ((k : ℕ) → 1 ≤ k → k ≤ n → p k ≡ false) → count_to p n ≡ 0
count_none p zero none = refl
count_none p (suc n) none =
    rw (none (suc n) (omega arith) (omega arith))
    (count_none p n (λ k low high. none k low (omega arith)))

-- the first g don't pass, and the other d do
pub count_rest : (p : ℕ → Bool) (g d n : ℕ) → n ≡ g + d
    → ((k : ℕ) → 1 ≤ k → k ≤ g → p k ≡ false)
    → ((k : ℕ) → g < k → k ≤ n → p k ≡ true)
    → count_to p n ≡ d
count_rest p g zero n whole none all =
    count_none p n (λ k low high. none k low (omega arith))
count_rest p g (suc d) zero whole none all = absurd (omega arith)
count_rest p g (suc d) (suc n) whole none all =
    rw (all (suc n) (omega arith) (omega arith))
    (ap (λ i. suc i) (count_rest p g d n (omega arith) none (λ k low high. all k low (omega arith))))

-- ---- how far

pub reach_all : (test : ℕ → Bool) (n : ℕ) → ((k : ℕ) → 1 ≤ k → k ≤ n → test k ≡ true) → reach test n ≡ n
reach_all test zero all = refl
reach_all test (suc n) all =
    let before : reach test n ≡ n = reach_all test n (λ k low high. all k low (omega arith)) in
    rw (before, eq-eqb n n refl, all (suc n) (omega arith) (omega arith)) refl

pub reach_none : (test : ℕ → Bool) (n : ℕ) → test 1 ≡ false → reach test n ≡ 0
reach_none test zero none = refl
reach_none test (suc zero) none = rw none refl
reach_none test (suc (suc n)) none = rw
    (reach_none test (suc n) none, ne_eqb 0 (suc n) (λ (e : 0 ≡ suc n). omega arith)) refl

-- each up to there passes
pub reach_passes : (test : ℕ → Bool) (n j : ℕ) → 1 ≤ j → j ≤ reach test n → test j ≡ true
reach_passes test zero j low high = absurd (omega arith)
reach_passes test (suc n) j low high =
    (elim ((reach test n == n) && test (suc n)) as (λ b. ((reach test n == n) && test (suc n)) ≡ b
    → j ≤ cond b (suc n) (reach test n) → test j ≡ true) [
      | true ↦ λ both within. (
          let parts = and_parts (reach test n == n) (test (suc n)) both in
          let far : reach test n ≡ n = eqb-true (reach test n) n parts.0 in
          elim (cases_eq j (suc n)) as (λ c. test j ≡ true) [
            | inl last ↦ subst (λ (i : ℕ). test i ≡ true) (sym last) parts.1
            | inr sooner ↦ reach_passes test n j low (omega arith)
          ])
      | false ↦ λ not_both within. reach_passes test n j low within
    ]) refl high

-- where each of the first m passes it goes so far
pub reach_least : (test : ℕ → Bool) (n m : ℕ) → m ≤ n → ((j : ℕ) → 1 ≤ j → j ≤ m → test j ≡ true) → m ≤ reach test n
reach_least test zero m within all = omega arith
reach_least test (suc n) m within all =
    elim (cases_eq m (suc n)) as (λ c. m ≤ reach test (suc n)) [
      | inl whole ↦ (
          let far : n ≤ reach test n = reach_least test n n (omega arith) (λ j low high. all j low (omega arith)) in
          let exact : reach test n ≡ n = omega (arith, reach_within test n) in
          let last : test (suc n) ≡ true = all (suc n) (omega arith) (omega arith) in
          rw (exact, eq-eqb n n refl, last) (omega arith))
      | inr less ↦ (
          let before : m ≤ reach test n = reach_least test n m (omega arith) all in
          elim ((reach test n == n) && test (suc n)) as (λ b. m ≤ cond b (suc n) (reach test n)) [
            | true ↦ omega arith
            | false ↦ before
          ])
    ]

-- it is no more than where one fails
pub reach_short : (test : ℕ → Bool) (n k : ℕ) → 1 ≤ k → test k ≡ false → reach test n < k
reach_short test n k low fails =
    elim (cases_lt (reach test n) k) as (λ c. reach test n < k) [
      | inl less ↦ less
      | inr there ↦ absurd (both_ways (test k) fails (reach_passes test n k low there))
    ]

-- ---- marks

pub index_all : (n k : ℕ) → k < n → slice_index_or (replicate n true) k false ≡ true
index_all zero k low = absurd (omega arith)
index_all (suc n) zero low = refl
index_all (suc n) (suc k) low = index_all n k (omega arith)

pub index_past : (n k : ℕ) → n ≤ k → slice_index_or (replicate n true) k false ≡ false
index_past zero k high = refl
index_past (suc n) zero high = absurd (omega arith)
index_past (suc n) (suc k) high = index_past n k (omega arith)
