-- How far a test reaches, and how many packets are kept above a seq.
use Rattle.std.proofs.Common.{◌≡◌, ◌≤◌, ◌<◌, ◌==◌, ◌&&◌, ℕ, zero, suc, cond, is_some, Bool, true, false}
use Rattle.std.proofs.Common.{List, [], ◌∷◌, Some, refl, subst, arith}
use Rattle.std.proofs.lemmas.Bool.Decides.{nat_tests}
use Rattle.rx_rules.specs.Received.{Packet, count_above, packet_at, reach}
use Rattle.rx_model.proofs.NameLaws.{same_number, number_itself}
use Rattle.rx_rules.proofs.ReachLaws.{reach_passes, reach_within}

-- ---- a test of each number from 1 on

-- where each of 1 to n passes it reaches n
reach_all : (test : ℕ → Bool) (n : ℕ) → ((j : ℕ) → suc j ≤ n → test (suc j) ≡ true) → reach test n ≡ n
reach_all test zero all = refl
reach_all test (suc n) all =
    let before : reach test n ≡ n = reach_all test n (λ j low. all j (omega arith)) in
    rw (before, number_itself n, all n (omega arith)) refl

-- asked for more it reaches as far at least
reach_more : (test : ℕ → Bool) (n m : ℕ) → n ≤ m → reach test n ≤ reach test m
reach_more test n zero low = (let top = reach_within test n in omega arith)
reach_more test n (suc m) low =
    (elim (n == suc m) as (λ b. (n == suc m) ≡ b → reach test n ≤ reach test (suc m)) [
      | true ↦ λ same. subst (λ (k : ℕ). reach test n ≤ reach test k) (same_number n (suc m) same) (omega arith)
      | false ↦ λ other. (
          let less : n ≤ m = grind (arith, nat_tests) in
          let before = reach_more test n m less in
          let top = reach_within test m in
          (elim ((reach test m == m) && test (suc m)) as (λ b. reach test n ≤ cond b (suc m) (reach test m)) [
            | true ↦ omega arith
            | false ↦ before
          ]))
    ]) refl

-- where each of 1 to m passes it reaches m at least
pub reach_least : (test : ℕ → Bool) (n m : ℕ) → m ≤ n → ((j : ℕ) → suc j ≤ m → test (suc j) ≡ true) → m ≤ reach test n
reach_least test n m low all =
    let is : reach test m ≡ m = reach_all test m all in
    let more = reach_more test m n low in
    omega arith

-- what passes one test passes another: it reaches as far
pub reach_wider : (old new : ℕ → Bool) (n m : ℕ) → reach old n ≤ m
    → ((j : ℕ) → suc j ≤ reach old n → old (suc j) ≡ true → new (suc j) ≡ true) → reach old n ≤ reach new m
reach_wider old new n m low all =
    reach_least new m (reach old n) low (λ j high. all j high (reach_passes old n j high))

-- ---- packets

-- fewer are above a greater seq
pub count_falls : (ps : List Packet) (low high : ℕ) → low ≤ high → count_above high ps ≤ count_above low ps
count_falls [] low high is = omega arith
count_falls (p ∷ ps) low high is =
    let rest = count_falls ps low high is in
    grind (arith, nat_tests)

-- fewer by one at least where one that is kept lies between
pub count_passes : (ps : List Packet) (low high k : ℕ) → low < k → k ≤ high → is_some (packet_at ps k) ≡ true
    → suc (count_above high ps) ≤ count_above low ps
count_passes [] low high k above below is = absurd cc
count_passes (p ∷ ps) low high k above below is =
    (elim (p.seq == k) as (λ b. (p.seq == k) ≡ b → is_some (cond b (Some p.piece) (packet_at ps k)) ≡ true
    → suc (count_above high (p ∷ ps)) ≤ count_above low (p ∷ ps)) [
      | true ↦ λ same there. (let rest = count_falls ps low high (omega arith) in grind (arith, nat_tests))
      | false ↦ λ other there. (let rest = count_passes ps low high k above below there in grind (arith, nat_tests))
    ]) refl is
