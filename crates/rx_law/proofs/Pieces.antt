-- A piece that counts never changes as the stream grows.
use Rattle.std.proofs.Common.{◌≡◌, ◌≤◌, ◌<◌, ◌+◌, ◌*◌, ◌-◌, ◌/◌, ◌==◌, cond, max, Bool, true, false, List, ◌++◌}
use Rattle.std.proofs.Common.{length, take, drop, length-append, length-drop, refl, ap, sym, subst, ◌∙◌, arith, ℕ, zero}
use Rattle.std.proofs.Common.{suc}
use Rattle.std.proofs.Common.{append-nil}
use Rattle.std.proofs.lemmas.Bool.Decides.{nat_tests}
use Rattle.std.proofs.lemmas.List.{take-append-le, drop-append-le}
use Rattle.rx_rules.specs.Received.{Piece}
use Rattle.rx_rules.specs.Sent.{Sent, piece_at, counting_of, opened}
use Rattle.rx_history.proofs.Ends.{Grows}
use Rattle.rx_law.specs.Pieces.{IsAt, IsPiece}

more_open : (j n : ℕ) → suc j ≤ (n - 1) / 1412 → 1412 * j + 1412 < n
more_open j n counts = omega arith

more_shut : (j n : ℕ) → suc j ≤ max 1 ((n + (1412 - 1)) / 1412) → (suc j == max 1 ((n + (1412 - 1)) / 1412)) ≡ false
    → 1412 * j + 1412 < n
more_shut j n counts other =
    let apart : suc j < max 1 ((n + (1412 - 1)) / 1412) = grind (arith, nat_tests) in
    omega arith

done_shut : (j n : ℕ) → (suc j == max 1 ((n + (1412 - 1)) / 1412)) ≡ true → n ≤ 1412 * j + 1412
done_shut j n last =
    let is : suc j ≡ max 1 ((n + (1412 - 1)) / 1412) = grind (arith, nat_tests) in
    omega arith

facts_of : (shut : Bool) (s : Sent) (j : ℕ) → s.shut ≡ shut → suc j ≤ counting_of s
    → IsPiece s.said shut j (piece_at s (suc j))
facts_of true s j is counts =
    let low : suc j ≤ max 1 (opened (length s.said)) =
    subst (λ (b : Bool). suc j ≤ cond b (max 1 (opened (length s.said))) ((length s.said - 1) / 1412)) is counts in
    let mark : (piece_at s (suc j)).last ≡ (suc j == max 1 (opened (length s.said))) = rw is refl in
    record {
      payload_is = refl;
      more = λ n. more_shut j (length s.said) low (sym mark ∙ n);
      done = λ y. (refl, done_shut j (length s.said) (sym mark ∙ y));
    }
facts_of false s j is counts =
    let low : suc j ≤ (length s.said - 1) / 1412 =
    subst (λ (b : Bool). suc j ≤ cond b (max 1 (opened (length s.said))) ((length s.said - 1) / 1412)) is counts in
    let mark : (piece_at s (suc j)).last ≡ false = rw is refl in
    record {
      payload_is = refl;
      more = λ n. more_open j (length s.said) low;
      done = λ y. absurd (cc (y, mark));
    }

-- a piece that counts is one
pub piece_is : (s : Sent) (j : ℕ) → suc j ≤ counting_of s → IsPiece s.said s.shut j (piece_at s (suc j))
piece_is s j counts = facts_of s.shut s j refl counts

grown : (old more : List ℕ) (is : Bool) (j : ℕ) (p : Piece) → IsPiece old false j p → IsPiece (old ++ more) is j p
grown old more is j p f =
    (elim p.last as (λ b. p.last ≡ b → IsPiece (old ++ more) is j p) [
      | true ↦ λ last. (let t : false ≡ true = (f.done last).0 in absurd (cc (t)))
      | false ↦ λ goes. (
          let room : 1412 * j + 1412 < length old = f.more goes in
          let rest : 1412 ≤ length (drop (1412 * j) old) = omega (arith, length-drop (1412 * j) old) in
          let same : take 1412 (drop (1412 * j) (old ++ more)) ≡ take 1412 (drop (1412 * j) old) =
          ap (take 1412) (drop-append-le (1412 * j) old more (omega arith))
          ∙ take-append-le 1412 (drop (1412 * j) old) more rest in
          record {
            payload_is = f.payload_is ∙ sym same;
            more = λ n. omega (arith, length-append old more);
            done = λ y. absurd (cc (y, goes));
          })
    ]) refl

-- as the stream grows
pub piece_grows : (old new : List ℕ) (was is : Bool) (j : ℕ) (p : Piece) → Grows old was new is → IsPiece old was j p
    → IsPiece new is j p
piece_grows old new true is j p g f =
    let s = g.stops refl in
    let whole : new ≡ old = g.joined ∙ ap (λ (xs : List ℕ). old ++ xs) s.0 ∙ append-nil old in
    subst (λ (xs : List ℕ). IsPiece xs is j p) (sym whole) (subst (λ (b : Bool). IsPiece old b j p) (sym s.1) f)
piece_grows old new false is j p g f = subst (λ (xs : List ℕ). IsPiece xs is j p) (sym g.joined)
    (grown old g.more is j p f)

pub at_grows : (old new : List ℕ) (was is : Bool) (seq : ℕ) (p : Piece) → Grows old was new is → IsAt old was seq p
    → IsAt new is seq p
at_grows old new was is zero p g f = f
at_grows old new was is (suc j) p g f = piece_grows old new was is j p g f
