-- What marks say of the pieces.
use Rattle.std.proofs.Common.{◌==◌, ◌≡◌, inl, inr, ◌<◌, ◌≤◌, ◌+◌, ◌-◌, cond, not, ◌&&◌, ◌||◌, nat_lt, nat_le, min, Bool}
use Rattle.std.proofs.Common.{true}
use Rattle.std.proofs.Common.{false, ℕ, suc, zero, List, [], ◌∷◌, length, get_or, take, refl, sym}
use Rattle.std.proofs.Common.{ap, ◌∙◌}
use Rattle.std.proofs.Common.{arith}
use Rattle.std.proofs.lemmas.Bool.Decides.{nat_tests}
use Rattle.std.proofs.lemmas.Bool.{cases_lt, false≢true}
use Rattle.rx_rules.specs.Received.{reach}
use Rattle.rx_rules.specs.Sent.{is_marked, marks_past}
use Rattle.rx_rules.proofs.ReachLaws.{reach_only}
use Rattle.rx_sendwin.specs.Marks.{is_acked_by, flight_by, is_valid_ack, leading_marks}
use Rattle.rx_sendwin.proofs.Counts.{known_high, known_low}

-- ---- marks

pub leading_all : (ms : List Bool) (i : ℕ) → i < leading_marks ms → get_or ms i false ≡ true
leading_all [] i lt = absurd (omega (arith, lt))
leading_all (true ∷ ms) zero lt = refl
leading_all (true ∷ ms) (suc i) lt = leading_all ms i (omega (arith, lt))
leading_all (false ∷ ms) i lt = absurd (omega (arith, lt))

pub leading_stops : (ms : List Bool) → get_or ms (leading_marks ms) false ≡ false
leading_stops [] = refl
leading_stops (true ∷ ms) = leading_stops ms
leading_stops (false ∷ ms) = refl

pub leading_most : (ms : List Bool) → leading_marks ms ≤ length ms
leading_most [] = omega arith
leading_most (true ∷ ms) = (let rest = leading_most ms in omega (arith, rest))
leading_most (false ∷ ms) = omega arith

-- as many as are marked without a gap were given
pub leading_within : (acked given : ℕ) (ms : List Bool) → acked ≤ given →
    ((i : ℕ) → given ≤ acked + i → get_or ms i false ≡ false) → acked + leading_marks ms ≤ given
leading_within acked given ms le quiet =
    elim (cases_lt given (acked + leading_marks ms)) as (λ _. acked + leading_marks ms ≤ given) [
      | inl lt ↦ (
          let top = leading_marks ms - 1 in
          let set_there = leading_all ms top (omega (arith, lt, le)) in
          absurd (false≢true (sym (quiet top (omega (arith, lt, le))) ∙ set_there)))
      | inr done ↦ done
    ]

pub or_none : (a b : Bool) → (a || b) ≡ false → (a ≡ false) × (b ≡ false)
or_none true b h = absurd cc
or_none false b h = (refl, h)

-- marks that make sense stand for pieces that were given
pub past_quiet : (ms : List Bool) (first given i : ℕ) → marks_past ms first given ≡ false → given < first + i →
    get_or ms i false ≡ false
past_quiet [] first given i fit lt = refl
past_quiet (m ∷ ms) first given zero fit lt =
    let here = (or_none (m && nat_lt given first) (marks_past ms (suc first) given) fit).0 in
    let past : nat_lt given first ≡ true = grind (arith, nat_tests, lt) in
    (elim m as (λ b. (b && nat_lt given first) ≡ false → b ≡ false) [
      | true ↦ λ h. absurd (false≢true (sym h ∙ past))
      | false ↦ λ h. refl
    ]) here
past_quiet (m ∷ ms) first given (suc i) fit lt =
    let rest = (or_none (m && nat_lt given first) (marks_past ms (suc first) given) fit).1 in
    past_quiet ms (suc first) given i rest (omega (arith, lt))

pub marked_at : (first : ℕ) (marks : List Bool) (i : ℕ) → 0 < first →
    get_or marks i false ≡ is_marked first marks (suc (first - 1 + i))
marked_at first marks i lt =
    let is : suc (first - 1 + i) ≡ first + i = omega (arith, lt) in
    let yes : nat_le first (suc (first - 1 + i)) ≡ true = grind (arith, nat_tests, lt) in
    let at : suc (first - 1 + i) - first ≡ i = omega (arith, lt) in
    sym (λ j. yes j && get_or marks (at j) false)

-- what an ACK that makes sense says
pub record MakesSense (given first : ℕ) (marks : List Bool) : Type 0 where
  pub some : 0 < first
  pub upto : first - 1 ≤ given
  pub past : marks_past marks first given ≡ false

pub not_true : (b : Bool) → not b ≡ true → b ≡ false
not_true true h = absurd (false≢true h)
not_true false h = refl

pub makes_sense : (given first : ℕ) (marks : List Bool) → is_valid_ack given first marks ≡ true →
    MakesSense given first marks
makes_sense given first marks valid =
    let rest = nat_lt given (first - 1) || marks_past marks first given in
    let one = or_none (first == 0) rest (not_true ((first == 0) || rest) valid) in
    let two = or_none (nat_lt given (first - 1)) (marks_past marks first given) one.1 in
    let zero_test : (first == 0) ≡ false = one.0 in
    let upto_test : nat_lt given (first - 1) ≡ false = two.0 in
    record { some = grind (arith, nat_tests, zero_test); upto = grind (arith, nat_tests, upto_test); past = two.1 }

-- ---- the lowest piece that isn't acknowledged

pub lowest_reach : (acked given : ℕ) (soft : List Bool) → acked ≤ given →
    ((i : ℕ) → given ≤ acked + i → get_or soft i false ≡ false) →
    reach (is_acked_by acked soft) given ≡ acked + leading_marks soft
lowest_reach acked given soft le quiet =
    reach_only (is_acked_by acked soft) given (acked + leading_marks soft) (leading_within acked given soft le quiet)
    (λ k lt. elim (cases_lt k acked) as (λ _. is_acked_by acked soft (suc k) ≡ true) [
      | inl below ↦ known_low acked soft (suc k) (omega (arith, below))
      | inr past ↦ (
          let back : acked + (k - acked) ≡ k = omega (arith, past) in
          let marked = leading_all soft (k - acked) (omega (arith, lt, past)) in
          ap (λ j. is_acked_by acked soft (suc j)) (sym back) ∙ known_high acked soft (k - acked) ∙ marked)
    ])
    (λ _. known_high acked soft (leading_marks soft) ∙ leading_stops soft)

-- ---- a piece more is given

pub flight_next : (acked given : ℕ) (soft : List Bool) → acked ≤ given →
    ((i : ℕ) → given ≤ acked + i → get_or soft i false ≡ false) →
    flight_by (is_acked_by acked soft) (suc given) ≡ suc (flight_by (is_acked_by acked soft) given)
flight_next acked given soft le quiet =
    let back : acked + (given - acked) ≡ given = omega (arith, le) in
    let gone : is_acked_by acked soft (suc given) ≡ false = (
    ap (λ j. is_acked_by acked soft (suc j)) (sym back) ∙ known_high acked soft (given - acked)
    ∙ quiet (given - acked) (omega (arith, le))) in
    ap (λ b. cond (not b) (suc (flight_by (is_acked_by acked soft) given)) (flight_by (is_acked_by acked soft) given))
    gone

past_end : {X : Type 0} (xs : List X) (i : ℕ) (d : X) → length xs ≤ i → get_or xs i d ≡ d
past_end [] i d le = refl
past_end (x ∷ xs) zero d le = absurd (omega (arith, le))
past_end (x ∷ xs) (suc i) d le = past_end xs i d (omega (arith, le))

-- behind the marks nothing is acknowledged
pub known_past : (acked : ℕ) (marks : List Bool) (k : ℕ) → acked + length marks < k → is_acked_by acked marks k ≡ false
known_past acked marks k lt =
    let gone : nat_le k acked ≡ false = grind (arith, nat_tests, lt) in
    let none = past_end marks (k - suc acked) false (omega (arith, lt)) in
    (λ j. gone j || none j)

-- ---- the marks that are kept

taken_at : {X : Type 0} (xs : List X) (n i : ℕ) (d : X) → i < n → get_or (take n xs) i d ≡ get_or xs i d
taken_at xs zero i d lt = absurd (omega (arith, lt))
taken_at [] (suc n) i d lt = refl
taken_at (x ∷ xs) (suc n) zero d lt = refl
taken_at (x ∷ xs) (suc n) (suc i) d lt = taken_at xs n i d (omega (arith, lt))

taken_past : {X : Type 0} (xs : List X) (n i : ℕ) (d : X) → n ≤ i → get_or (take n xs) i d ≡ d
taken_past xs zero i d le = refl
taken_past [] (suc n) i d le = refl
taken_past (x ∷ xs) (suc n) zero d le = absurd (omega (arith, le))
taken_past (x ∷ xs) (suc n) (suc i) d le = taken_past xs n i d (omega (arith, le))

-- where no mark past so many is set, those up to there say all
pub kept_alike : (soft marks : List Bool) (most : ℕ) → soft ≡ take (min (length marks) most) marks →
    ((i : ℕ) → most ≤ i → get_or marks i false ≡ false) → (i : ℕ) → get_or soft i false ≡ get_or marks i false
kept_alike soft marks most is quiet i =
    let n = min (length marks) most in
    ap (λ ms. get_or ms i false) is
    ∙ (elim (cases_lt i n) as (λ _. get_or (take n marks) i false ≡ get_or marks i false) [
      | inl lt ↦ taken_at marks n i false lt
      | inr le ↦ (
          taken_past marks n i false le
          ∙ sym (elim (cases_lt i most) as (λ _. get_or marks i false ≡ false) [
            | inl below ↦ past_end marks i false (omega (arith, le, below))
            | inr past ↦ quiet i past
          ]))
    ])
