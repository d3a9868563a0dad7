-- Where no piece is marked and all are on their way, nothing is lost.
use Rattle.std.proofs.Common.{◌≡◌, inl, inr, ◌<◌, ◌≤◌, ◌+◌, ◌-◌, cond, not, ◌&&◌, nat_lt, nat_le, Bool, true, false}
use Rattle.std.proofs.Common.{ℕ, suc, zero, List, get_or, drop, None, refl, sym, ap, ◌∙◌, arith}
use Rattle.std.proofs.lemmas.Bool.Decides.{nat_tests}
use Rattle.std.proofs.lemmas.Bool.{cases_eq, cases_lt, false≢true}
use Rattle.rx_rules.specs.Lost.{order_by}
use Rattle.rx_rules.specs.Sent.{count_to}
use Rattle.rx_sendwin.specs.declared.lost.Lost.{Lost}
use Rattle.rx_sendwin.specs.declared.piece.HeldPiece.{HeldPiece}
use Rattle.rx_sendwin.specs.Marks.{is_acked_by, flight_by}
use Rattle.rx_sendwin.specs.Lost.{AreLost, order_in, is_marked_past, overtakes_by}
use Rattle.rx_sendwin.specs.Lost.{is_under_way_by}
use Rattle.rx_sendwin.proofs.Counts.{count_nothing, and_false, flight_none, known_high}
use Rattle.rx_sendwin.proofs.Losing.{under_acked}
use Rattle.rx_sendwin.proofs.Acks.{not_true}
use Rattle.rx_sendwin.proofs.Acknowledging.{dropped_giving}

-- ---- counts past a number

count_bound : (test : ℕ → Bool) (m n : ℕ) → m ≤ n → count_to test n ≤ n - m + count_to test m
count_bound test m zero le = (let is : m ≡ zero = omega (arith, le) in omega (arith, ap (count_to test) is))
count_bound test m (suc n) le =
    elim (cases_eq m (suc n)) as (λ _. count_to test (suc n) ≤ suc n - m + count_to test m) [
      | inl e ↦ (
          let same : count_to test m ≡ count_to test (suc n) = ap (count_to test) e in
          omega (arith, same))
      | inr apart ↦ (
          let up : m ≤ n = omega (arith, le, apart) in
          let rest = count_bound test m n up in
          elim (test (suc n))
          as (λ b. cond b (suc (count_to test n)) (count_to test n) ≤ suc n - m + count_to test m) [
            | true ↦ omega (arith, rest, up)
            | false ↦ omega (arith, rest, up)
          ])
    ]

-- where as many are counted as there are, each passes
pub count_full : (test : ℕ → Bool) (m n : ℕ) → m ≤ n → count_to test n ≡ n - m + count_to test m → (k : ℕ) → m < k →
    k ≤ n → test k ≡ true
count_full test m zero le full k more upto = absurd (omega (arith, more, upto))
count_full test m (suc n) le full k more upto =
    let up : m ≤ n = omega (arith, more, upto) in
    let bound = count_bound test m n up in
    (elim (test (suc n)) as (λ b. test (suc n) ≡ b → cond b (suc (count_to test n)) (count_to test n)
    ≡ suc n - m + count_to test m → test k ≡ true) [
      | true ↦ λ yes counted. (
          elim (cases_eq k (suc n)) as (λ _. test k ≡ true) [
            | inl e ↦ ap test e ∙ yes
            | inr apart ↦ count_full test m n up (omega (arith, counted, up)) k more (omega (arith, upto, apart))
          ])
      | false ↦ λ no counted. absurd (omega (arith, counted, bound, up))
    ]) refl full

-- where each passes, as many are counted as there are
pub count_all : (test : ℕ → Bool) (m n : ℕ) → m ≤ n → ((k : ℕ) → m < k → k ≤ n → test k ≡ true) →
    count_to test n ≡ n - m + count_to test m
count_all test m zero le all =
    let is : m ≡ zero = omega (arith, le) in
    let same : count_to test m ≡ 0 = ap (count_to test) is in
    omega (arith, same)
count_all test m (suc n) le all =
    elim (cases_eq m (suc n)) as (λ _. count_to test (suc n) ≡ suc n - m + count_to test m) [
      | inl e ↦ (
          let same : count_to test m ≡ count_to test (suc n) = ap (count_to test) e in
          omega (arith, same, e))
      | inr apart ↦ (
          let up : m ≤ n = omega (arith, le, apart) in
          let rest = count_all test m n up (λ k more upto. all k more (omega (arith, upto))) in
          ap (λ b. cond b (suc (count_to test n)) (count_to test n)) (all (suc n) (omega (arith, up)) (omega arith))
          ∙ omega (arith, rest, up))
    ]

-- ---- all are on their way

and_right : (a b : Bool) → (a && b) ≡ true → b ≡ true
and_right true b h = h
and_right false b h = absurd (false≢true h)

-- where as many are on their way as were given, each was given behind the latest time that was up
pub all_later : (acked given since : ℕ) (soft : List Bool) (order : ℕ → ℕ) (lost : Lost) → acked ≤ given →
    AreLost acked given since soft order lost → lost.under_way ≡ given - acked → (k : ℕ) → acked < k → k ≤ given →
    since < order (k - suc acked)
all_later acked given since soft order lost le are all k more upto =
    let test = is_under_way_by acked soft order since in
    let none = under_acked acked since soft order in
    let counted = are.under_way in
    let passes = count_full test acked given le (omega (arith, none, counted, all)) k more upto in
    let later : nat_lt since (order (k - suc acked)) ≡ true = (
    and_right (not (is_acked_by acked soft k)) (nat_lt since (order (k - suc acked))) passes) in
    grind (arith, nat_tests, later)

-- where no piece that was given is acknowledged besides and each was given behind that time, nothing is lost
pub lost_plain : (acked given since flight : ℕ) (soft : List Bool) (order : ℕ → ℕ) → acked ≤ given →
    flight ≡ flight_by (is_acked_by acked soft) given → flight ≡ given - acked →
    ((k : ℕ) → acked < k → k ≤ given → since < order (k - suc acked)) →
    AreLost acked given since soft order (record { overtaken = None; late = None; under_way = flight })
lost_plain acked given since flight soft order le flight_is all later =
    let known = is_acked_by acked soft in
    let none = flight_none acked soft acked (omega arith) in
    let fresh : (k : ℕ) → acked < k → k ≤ given → known k ≡ false = (λ k more upto.
    not_true (known k)
    (count_full (λ j. not (known j)) acked given le (omega (arith, none, flight_is, all)) k more upto)) in
    let mark : (j : ℕ) → acked < j → j ≤ given → get_or soft (j - suc acked) false ≡ false = (λ j more upto.
    let back : suc (acked + (j - suc acked)) ≡ j = omega (arith, more) in
    sym (known_high acked soft (j - suc acked)) ∙ ap known back ∙ fresh j more upto) in
    let way = is_under_way_by acked soft order since in
    let counted = count_all way acked given le (λ k more upto.
    let yes : nat_lt since (order (k - suc acked)) ≡ true = grind (arith, nat_tests, later k more upto) in
    (λ i. not (fresh k more upto i) && yes i)) in
    let low = under_acked acked since soft order in
    record {
      overtaken = λ k more upto. and_false (not (known k))
          (nat_le 3 (count_to (overtakes_by acked soft order k) given))
          (ap (nat_le 3) (count_nothing (overtakes_by acked soft order k) given (λ j lt.
          elim (cases_lt k (suc j)) as (λ _. overtakes_by acked soft order k (suc j) ≡ false) [
            | inl less ↦ (
                let o = order (k - suc acked) in
                and_false (nat_lt k (suc j)) (is_marked_past acked soft order o (suc j))
                (ap (λ b. b && nat_lt o (order (suc j - suc acked)))
                (mark (suc j) (omega (arith, more, less)) (omega (arith, lt)))))
            | inr past ↦ (
                let no : nat_lt k (suc j) ≡ false = grind (arith, nat_tests, past) in
                ap (λ b. b && is_marked_past acked soft order (order (k - suc acked)) (suc j)) no)
          ])));
      late = λ k more upto.
          let no : nat_le (order (k - suc acked)) since ≡ false = grind (arith, nat_tests, later k more upto) in
          and_false (not (known k)) (nat_le (order (k - suc acked)) since) no;
      under_way = omega (arith, counted, low, all);
    }

-- the orders behind pieces that are given up
pub order_dropped : (hs : List HeldPiece) (n i : ℕ) → order_in (drop n hs) i ≡ order_in hs (n + i)
order_dropped hs n i = ap order_by (dropped_giving hs n i)
