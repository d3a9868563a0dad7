-- Which piece is taken for lost, by the rules.
use Rattle.std.proofs.Common.{◌==◌, ◌≡◌, inl, inr, ◌<◌, ◌≤◌, cond, not, ◌&&◌, ◌||◌, nat_lt, nat_le, Bool, true, false}
use Rattle.std.proofs.Common.{ℕ, suc, zero, Option, Some, None, refl, sym, ap, ◌∙◌, arith}
use Rattle.std.proofs.lemmas.Bool.Decides.{nat_tests}
use Rattle.std.proofs.lemmas.Bool.{cases_lt, false≢true}
use Rattle.rx_rules.specs.Lost.{order_of, lowest_to, is_overtaken, overtakes, overtaken_of, late_of, under_way}
use Rattle.rx_rules.specs.Lost.{first_lost, lost_of}
use Rattle.rx_rules.specs.Lost.{is_once, halves}
use Rattle.rx_rules.specs.Rates.{Cwnd}
use Rattle.rx_rules.specs.Received.{reach}
use Rattle.rx_rules.specs.Sent.{Sent, count_to, given_of, is_acked, last_giving, lowest_of}
use Rattle.rx_rules.proofs.ReachLaws.{reach_within, reach_passes, reach_stops, reach_only}
use Rattle.rx_sendwin.specs.Lost.{IsLowest}
use Rattle.rx_sendwin.proofs.Acks.{not_true}
use Rattle.rx_sendwin.proofs.Counts.{count_nothing, and_false}

-- ---- the lowest that passes a test

-- those that fail
abbrev pub fails : (ℕ → Bool) → ℕ → Bool
fails test k = not (test k)

not_false : (b : Bool) → not b ≡ false → b ≡ true
not_false true h = refl
not_false false h = absurd (false≢true (sym h))

-- one that is found passes
pub lowest_passes : (test : ℕ → Bool) (n k : ℕ) → lowest_to test n ≡ Some k → test k ≡ true
lowest_passes test n k is =
    let r = reach (fails test) n in
    (elim (nat_lt r n) as (λ b. nat_lt r n ≡ b → cond b (Some (suc r)) None ≡ Some k → test k ≡ true) [
      | true ↦ λ less at. (
          let lt : r < n = grind (arith, nat_tests, less) in
          let same : suc r ≡ k = cc in
          ap test (sym same) ∙ not_false (test (suc r)) (reach_stops (fails test) n lt))
      | false ↦ λ less at. absurd cc
    ]) refl is

-- where none is found none passes
pub none_passes : (test : ℕ → Bool) (n k : ℕ) → lowest_to test n ≡ None → 0 < k → k ≤ n → test k ≡ false
none_passes test n zero is lt le = absurd (omega (arith, lt))
none_passes test n (suc k) is lt le =
    let r = reach (fails test) n in
    let most = reach_within (fails test) n in
    (elim (nat_lt r n) as (λ b. nat_lt r n ≡ b → cond b (Some (suc r)) None ≡ None → test (suc k) ≡ false) [
      | true ↦ λ less at. absurd cc
      | false ↦ λ less at. (
          let all : n ≤ r = grind (arith, nat_tests, less) in
          not_true (test (suc k)) (reach_passes (fails test) n k (omega (arith, le, all))))
    ]) refl is

lowest_of_reach : (test : ℕ → Bool) (n r : ℕ) (b : Bool) → reach (fails test) n ≡ r → nat_lt r n ≡ b →
    lowest_to test n ≡ cond b (Some (suc r)) None
lowest_of_reach test n r b is less =
    ap (λ m. cond (nat_lt m n) (Some (suc m)) None) is ∙ ap (λ t. cond t (Some (suc r)) None) less

-- the lowest above those that fail is the lowest of all
pub lowest_is_found : (test : ℕ → Bool) (above n : ℕ) (o : Option ℕ) → IsLowest test above n o →
    ((k : ℕ) → k ≤ above → test k ≡ false) → lowest_to test n ≡ o
lowest_is_found test above n None low below =
    let all : (k : ℕ) → k < n → fails test (suc k) ≡ true = (λ k lt.
    ap not (elim (cases_lt above (suc k)) as (λ _. test (suc k) ≡ false) [
      | inl more ↦ low (suc k) more (omega (arith, lt))
      | inr le ↦ below (suc k) le
    ])) in
    let no : nat_lt n n ≡ false = grind (arith, nat_tests) in
    lowest_of_reach test n n false (reach_only (fails test) n n (omega arith) all (λ lt. absurd (omega (arith, lt)))) no
lowest_is_found test above n (Some zero) low below =
    let more = low.past in
    absurd (omega (arith, more))
lowest_is_found test above n (Some (suc k)) low below =
    let within = low.within in
    let all : (j : ℕ) → j < k → fails test (suc j) ≡ true = (λ j lt.
    ap not (elim (cases_lt above (suc j)) as (λ _. test (suc j) ≡ false) [
      | inl more ↦ low.before (suc j) more (omega (arith, lt))
      | inr le ↦ below (suc j) le
    ])) in
    let yes : nat_lt k n ≡ true = grind (arith, nat_tests, within) in
    lowest_of_reach test n k true
    (reach_only (fails test) n k (omega (arith, within)) all (λ lt. ap not low.passes)) yes

-- ---- overtaken

-- behind the last that was given none overtakes
unmarked_past : (s : Sent) (k : ℕ) → given_of s < k → count_to (overtakes s k) (given_of s) ≡ 0
unmarked_past s k lt =
    count_nothing (overtakes s k) (given_of s) (λ j less.
    let no : nat_lt k (suc j) ≡ false = grind (arith, nat_tests, lt, less) in
    ap (λ b. b && (s.soft (suc j) && nat_lt (order_of s k) (order_of s (suc j)))) no)

-- where none is found none is
pub none_overtaken : (s : Sent) (k : ℕ) → overtaken_of s ≡ None → is_overtaken s k ≡ false
none_overtaken s zero is =
    let yes : nat_le 0 s.acked ≡ true = grind (arith, nat_tests) in
    ap (λ b. not (b || s.soft 0) && nat_le 3 (count_to (overtakes s 0) (given_of s))) yes
none_overtaken s (suc k) is =
    elim (cases_lt (given_of s) (suc k)) as (λ _. is_overtaken s (suc k) ≡ false) [
      | inl lt ↦ ap (λ n. not (is_acked s (suc k)) && nat_le 3 n) (unmarked_past s (suc k) lt)
          ∙ and_false (not (is_acked s (suc k))) false refl
      | inr le ↦ none_passes (is_overtaken s) (given_of s) (suc k) is (omega arith) le
    ]

-- ---- lost

-- the one that is late, where the window lets it go
abbrev pub late_in : Cwnd → Sent → Option ℕ
late_in c s = cond (nat_lt (under_way s) c.window) (late_of s) None

lost_if : (c : Cwnd) (s : Sent) (b : Bool) → c.prompt ≡ b →
    lost_of c s ≡ cond b (first_lost (overtaken_of s) (late_in c s)) None
lost_if c s b is = ap (λ t. cond t (first_lost (overtaken_of s) (late_in c s)) None) is

-- where none is lost none is overtaken at a prompt node
pub unless_lost : (c : Cwnd) (s : Sent) → c.prompt ≡ true → lost_of c s ≡ None → overtaken_of s ≡ None
unless_lost c s prompt is =
    (elim (overtaken_of s) as (λ o. first_lost o (late_in c s) ≡ None → o ≡ None) [
      | None ↦ λ _. refl
      | Some k ↦ λ at. absurd cc
    ]) (sym (lost_if c s true prompt) ∙ is)

-- giving a piece closes no window where none is lost
pub halves_none : (c : Cwnd) (s : Sent) (k : ℕ) → lost_of c s ≡ None → halves c s k ≡ false
halves_none c s k is =
    let rest = (k == lowest_of s) && is_once (last_giving s.givings k) in
    (elim c.prompt as (λ b. c.prompt ≡ b → (b && (is_overtaken s k && rest)) ≡ false) [
      | true ↦ λ prompt. ap (λ b. b && rest) (none_overtaken s k (unless_lost c s prompt is))
      | false ↦ λ prompt. refl
    ]) refl

some_none : (k : ℕ) → ◌≡◌ {A = Option ℕ} (Some k) None → ⊥
some_none k is = cc

-- a piece is lost at a prompt node alone
pub lost_prompt : (c : Cwnd) (s : Sent) (k : ℕ) → lost_of c s ≡ Some k → c.prompt ≡ true
lost_prompt c s k is =
    (elim c.prompt as (λ b. c.prompt ≡ b → b ≡ true) [
      | true ↦ λ prompt. refl
      | false ↦ λ prompt. absurd (some_none k (sym is ∙ lost_if c s false prompt))
    ]) refl

-- what is lost and isn't overtaken closes no window
pub halves_late : (c : Cwnd) (s : Sent) (k : ℕ) → overtaken_of s ≡ None → halves c s k ≡ false
halves_late c s k is =
    let rest = (k == lowest_of s) && is_once (last_giving s.givings k) in
    ap (λ b. c.prompt && (b && rest)) (none_overtaken s k is) ∙ and_false c.prompt false refl

-- what is overtaken does, where it is the lowest and was given once
pub halves_first : (c : Cwnd) (s : Sent) (k j : ℕ) → lost_of c s ≡ Some k → overtaken_of s ≡ Some j →
    halves c s k ≡ ((k == lowest_of s) && is_once (last_giving s.givings k))
halves_first c s k j is found =
    let prompt = lost_prompt c s k is in
    let lost : Some j ≡ Some k = (
    sym (ap (λ o. first_lost o (late_in c s)) found) ∙ sym (lost_if c s true prompt) ∙ is) in
    let same : j ≡ k = cc in
    let passes : is_overtaken s k ≡ true = (
    ap (is_overtaken s) (sym same) ∙ lowest_passes (is_overtaken s) (given_of s) j found) in
    (λ i. prompt i && (passes i && ((k == lowest_of s) && is_once (last_giving s.givings k))))
