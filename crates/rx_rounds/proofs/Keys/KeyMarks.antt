-- What an ACK tells of pieces that came and that nobody read: it marks each of them.
use Rattle.std.proofs.Common.{◌≡◌, ◌<◌, ◌≤◌, ◌+◌, ◌-◌, ◌*◌, ◌==◌, ◌++◌, ℕ, suc, zero, Bool, true, false}
use Rattle.std.proofs.Common.{List, [], ◌∷◌, refl, ap, ◌∙◌, inl, inr, Option, Some, is_some, arith}
use Rattle.std.proofs.Common.{length, nat_le, replicate, drop, length-take, length-drop}
use Rattle.std.proofs.Common.{◌≢◌, cond, zero-le, le-ltb}
use Rattle.std.proofs.lemmas.Bool.{cases_lt, eq-eqb, le-leb, lt-leb}
use Rattle.rx_rules.specs.Received.{Piece, front_of, greatest, is_done, marks_from, marks_of, packet_at, used_of}
use Rattle.rx_rules.specs.Sent.{is_marked, marks_past}
use Rattle.rx_between.proofs.Counting.{index_all, index_past, reach_none}
use Rattle.rx_rounds.proofs.Flow.{Marked, total}
use Rattle.rx_rounds.proofs.Keeper.{greatest_kept, kept_to, packet_kept, part_read, piece}

-- ---- what an ACK tells of pieces that nobody read

-- none of them is done with
pub used_none : (bytes : List ℕ) (p n : ℕ) → used_of (part_read bytes [] p n) ≡ 0
used_none bytes p zero = refl
used_none bytes p (suc n) =
    let first : packet_at (kept_to bytes (suc n)) 1 ≡ Some (piece bytes 1) =
    packet_kept bytes (suc n) 1 (omega arith) (omega arith) in
    reach_none (is_done (part_read bytes [] p (suc n))) (front_of (kept_to bytes (suc n)))
    (rw first (of (1 == total bytes) refl))
  where
    of : (b : Bool) → (1 == total bytes) ≡ b
        → cond b false (nat_le (0 + length (piece bytes 1).payload) 0) ≡ false
    of true last = refl
    of false more =
        let many : 1 ≢ total bytes = λ (same : 1 ≡ total bytes). (let yes_ = eq-eqb 1 (total bytes) same in cc) in
        lt-leb (0 + length (piece bytes 1).payload) 0
        (omega (arith, length-take 1412 (drop (1412 * 0) bytes), length-drop (1412 * 0) bytes))

-- each is marked
snoc_true : (m : ℕ) → replicate m true ++ true ∷ [] ≡ true ∷ replicate m true
snoc_true zero = refl
snoc_true (suc m) = ap (λ (bs : List Bool). true ∷ bs) (snoc_true m)

marks_to : (bytes : List ℕ) (n m : ℕ) → m ≤ n → marks_from (kept_to bytes n) 0 m ≡ replicate m true
marks_to bytes n zero within = refl
marks_to bytes n (suc m) within =
    let at_ : 0 + suc m ≡ suc m = omega arith in
    ap (λ (bs : List Bool). bs ++ is_some (packet_at (kept_to bytes n) (0 + suc m)) ∷ [])
    (marks_to bytes n m (omega arith))
    ∙ ap (λ (k : ℕ). replicate m true ++ is_some (packet_at (kept_to bytes n) k) ∷ []) at_
    ∙ ap (λ (o : Option Piece). replicate m true ++ is_some o ∷ [])
    (packet_kept bytes n (suc m) (omega arith) within)
    ∙ snoc_true m

pub marks_all : (bytes : List ℕ) (p n : ℕ) → marks_of (part_read bytes [] p n) ≡ replicate n true
marks_all bytes p n =
    let whole : greatest (kept_to bytes n) - 0 ≡ n = omega (arith, greatest_kept bytes n) in
    rw (used_none bytes p n) (rw whole (marks_to bytes n n (omega arith)))

-- so all of them are acknowledged, none of them hard
pub marked_to : (n k : ℕ) → 0 < k → is_marked (0 + 1) (replicate n true) k ≡ nat_le k n
marked_to n zero low = absurd (omega arith)
marked_to n (suc j) low =
    let behind : suc j - (0 + 1) ≡ j = omega arith in
    elim (cases_lt j n) as (λ c. is_marked (0 + 1) (replicate n true) (suc j) ≡ nat_le (suc j) n) [
      | inl inside ↦
          rw (le-leb (0 + 1) (suc j) (omega arith), behind, index_all n j inside, le-leb (suc j) n inside) refl
      | inr past ↦
          rw (le-leb (0 + 1) (suc j) (omega arith), behind, index_past n j past, lt-leb (suc j) n (omega arith)) refl
    ]

abbrev pub all_marked : (n : ℕ) → Marked n (is_marked (0 + 1) (replicate n true))
all_marked n = record { h = 0; within = zero-le; marks = marked_to n }

-- and none was not given
pub marks_given : (m first given : ℕ) → first + m ≤ suc given → marks_past (replicate m true) first given ≡ false
marks_given zero first given within = refl
marks_given (suc m) first given within =
    rw (le-ltb given first (omega arith)) (marks_given m (suc first) given (omega arith))

pub length_marks : (n : ℕ) → length (replicate n true) ≡ n
length_marks zero = refl
length_marks (suc n) = ap (λ (k : ℕ). suc k) (length_marks n)
