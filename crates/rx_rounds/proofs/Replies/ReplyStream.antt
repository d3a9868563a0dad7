-- The bytes of a stream whose pieces are kept in order: so many pieces are its front, and with the last piece all of
-- it.
use Rattle.std.proofs.Common.{◌≡◌, ◌≤◌, ◌+◌, ◌*◌, ◌++◌, ℕ, suc, zero, List, [], ◌∷◌, refl, ap, sym}
use Rattle.std.proofs.Common.{◌∙◌, length, take, drop, arith, length-take}
use Rattle.std.proofs.lemmas.List.{drop_min, take-append-drop, take-take}
use Rattle.std.proofs.Common.{take_all}
use Rattle.rx_rules.specs.Received.{bytes_to, heard_of, packet_at, payload_of, unread_of}
use Rattle.rx_rounds.proofs.Flow.{total}
use Rattle.rx_rounds.proofs.Keeper.{front_kept, kept_to, packet_kept, part_read}
use Rattle.rx_law.proofs.Fronts.{take_more}

-- nothing is taken of nothing
pub take_nothing : (m : ℕ) → take {A = ℕ} m [] ≡ []
take_nothing zero = refl
take_nothing (suc m) = refl

module _ (bytes : List ℕ) where
  -- the first k of n kept pieces
  bytes_kept : (n k : ℕ) → k ≤ n → bytes_to (kept_to bytes n) k ≡ take (1412 * k) bytes
  bytes_kept n zero low = take_none bytes
    where
      take_none : (xs : List ℕ) → [] ≡ take (1412 * 0) xs
      take_none xs = refl
  bytes_kept n (suc k) low =
      let one : 1412 * suc k ≡ 1412 * k + 1412 = omega arith in
      ap (λ (ys : List ℕ). ys ++ payload_of (packet_at (kept_to bytes n) (suc k))) (bytes_kept n k (omega arith))
      ∙ ap (λ o. take (1412 * k) bytes ++ payload_of o) (packet_kept bytes n (suc k) (omega arith) low)
      ∙ take_more (1412 * k) 1412 bytes
      ∙ ap (λ (j : ℕ). take j bytes) (sym one)

  pub heard_kept : (n : ℕ) → heard_of (kept_to bytes n) ≡ take (1412 * n) bytes
  heard_kept n =
      ap (λ (j : ℕ). bytes_to (kept_to bytes n) j) (front_kept bytes n) ∙ bytes_kept n n (omega arith)

  -- with the last piece it is all
  pub heard_whole : (n : ℕ) → n ≡ total bytes → heard_of (kept_to bytes n) ≡ bytes
  heard_whole n all = heard_kept n ∙ take_all (1412 * n) bytes (omega (arith, all))

  -- what is there to read
  pub unread_kept : (read : List ℕ) (p n m : ℕ) → m ≤ n → read ≡ take (1412 * m) bytes
      → read ++ unread_of (part_read bytes read p n) ≡ take (1412 * n) bytes
  unread_kept read p n m low is =
      let h : List ℕ = take (1412 * n) bytes in
      let front : read ≡ take (1412 * m) h = is ∙ sym (take-take (1412 * m) (1412 * n) bytes (omega arith)) in
      ap (λ (ys : List ℕ). read ++ drop (length read) ys) (heard_kept n)
      ∙ ap (λ (j : ℕ). read ++ drop j h) (ap (λ (ys : List ℕ). length ys) front ∙ length-take (1412 * m) h)
      ∙ ap (λ (ys : List ℕ). read ++ ys) (drop_min (1412 * m) h)
      ∙ ap (λ (ys : List ℕ). ys ++ drop (1412 * m) h) front
      ∙ take-append-drop (1412 * m) h
