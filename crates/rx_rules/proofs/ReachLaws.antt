-- The greatest k such that each of 1 to k passes.
use Rattle.std.proofs.Common.{◌≡◌, inl, inr, ◌<◌, ◌≤◌, ◌&&◌, ◌==◌, cond, Bool, true, false, ℕ, suc, zero, refl, sym, ap}
use Rattle.std.proofs.Common.{◌∙◌, arith}
use Rattle.std.proofs.lemmas.Bool.{cases_lt, cases_order, false≢true}
use Rattle.std.proofs.lemmas.Bool.Decides.{nat_tests}
use Rattle.rx_rules.specs.Received.{reach}

both : (a b : Bool) → (a && b) ≡ true → (a ≡ true) × (b ≡ true)
both true b h = (refl, h)
both false b h = absurd cc

not_both : (a b : Bool) → (a && b) ≡ false → a ≡ true → b ≡ false
not_both true b h t = h
not_both false b h t = absurd cc

-- it reaches no further than it is asked
pub reach_within : (test : ℕ → Bool) (n : ℕ) → reach test n ≤ n
reach_within test zero = omega arith
reach_within test (suc n) =
    let rest = reach_within test n in
    elim ((reach test n == n) && test (suc n)) as (λ b. cond b (suc n) (reach test n) ≤ suc n) [
      | true ↦ omega arith
      | false ↦ omega (arith, rest)
    ]

-- each that it reaches passes
pub reach_passes : (test : ℕ → Bool) (n k : ℕ) → k < reach test n → test (suc k) ≡ true
reach_passes test zero k lt = absurd (omega (arith, lt))
reach_passes test (suc n) k lt =
    (elim ((reach test n == n) && test (suc n)) as (λ b. ((reach test n == n) && test (suc n)) ≡ b →
    k < cond b (suc n) (reach test n) → test (suc k) ≡ true) [
      | true ↦ λ h l. (
          let parts = both (reach test n == n) (test (suc n)) h in
          let at : reach test n ≡ n = grind (arith, nat_tests, parts.0) in
          elim (cases_order k n) as (λ _. test (suc k) ≡ true) [
            | inl e ↦ ap (λ j. test (suc j)) e ∙ parts.1
            | inr r ↦ reach_passes test n k (omega (arith, at, l, r))
          ])
      | false ↦ λ h l. reach_passes test n k l
    ]) refl lt

-- the one behind them doesn't
pub reach_stops : (test : ℕ → Bool) (n : ℕ) → reach test n < n → test (suc (reach test n)) ≡ false
reach_stops test zero lt = absurd (omega (arith, lt))
reach_stops test (suc n) lt =
    let most = reach_within test n in
    (elim ((reach test n == n) && test (suc n)) as (λ b. ((reach test n == n) && test (suc n)) ≡ b →
    cond b (suc n) (reach test n) < suc n → test (suc (cond b (suc n) (reach test n))) ≡ false) [
      | true ↦ λ h l. absurd (omega (arith, l))
      | false ↦ λ h l. (
          elim (cases_lt (reach test n) n) as (λ _. test (suc (reach test n)) ≡ false) [
            | inl r ↦ reach_stops test n r
            | inr r ↦ (
                let is : reach test n ≡ n = omega (arith, r, most) in
                let tested : (reach test n == n) ≡ true = grind (arith, nat_tests, is) in
                ap (λ j. test (suc j)) is ∙ not_both (reach test n == n) (test (suc n)) h tested)
          ])
    ]) refl lt

-- only one number is so
pub reach_only : (test : ℕ → Bool) (n u : ℕ) → u ≤ n → ((k : ℕ) → k < u → test (suc k) ≡ true) →
    (u < n → test (suc u) ≡ false) → reach test n ≡ u
reach_only test n u within all stops =
    let most = reach_within test n in
    elim (cases_order (reach test n) u) as (λ _. reach test n ≡ u) [
      | inl e ↦ e
      | inr r ↦ (elim r as (λ _. reach test n ≡ u) [
        | inl lt ↦ absurd (false≢true (sym (reach_stops test n (omega (arith, lt, within))) ∙ all (reach test n) lt))
        | inr gt ↦ absurd (false≢true (sym (stops (omega (arith, gt, most))) ∙ reach_passes test n u gt))
      ])
    ]
