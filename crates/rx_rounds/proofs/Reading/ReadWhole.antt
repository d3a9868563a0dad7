-- An end that read a stream to its end is done with all of it, and marks nothing.
use Rattle.std.proofs.Common.{◌≡◌, ◌≤◌, ◌+◌, ◌-◌, ◌==◌, ℕ, Bool, true, false, cond, List, [], refl, ap, ◌∙◌, length}
use Rattle.std.proofs.Common.{arith, nat_le}
use Rattle.std.proofs.lemmas.Bool.{le-leb}
use Rattle.std.proofs.lemmas.List.{length-append}
use Rattle.rx_rules.proofs.PacketLaws.{bytes_split, end_is}
use Rattle.rx_rules.specs.Received.{Received, bytes_to, end_of, greatest, heard_of, is_done, is_done_by, marks_of}
use Rattle.rx_rules.specs.Received.{used_of}
use Rattle.rx_between.proofs.Counting.{reach_all}
use Rattle.rx_rounds.proofs.Flow.{total}
use Rattle.rx_rounds.proofs.Keeper.{front_kept, greatest_kept, kept_to, packet_kept, part_read}

module _ (bytes read : List ℕ) (p n : ℕ) (long : length (heard_of (kept_to bytes n)) ≤ length read) where
  -- it read the end
  abbrev pub whole_read : Received
  whole_read = record (part_read bytes read p n) { ended = true }

  all_done : (k : ℕ) → 1 ≤ k → k ≤ n → is_done whole_read k ≡ true
  all_done k low high =
      let split = bytes_split (kept_to bytes n) k n high in
      let whole : length (bytes_to (kept_to bytes n) n) ≡ length (bytes_to (kept_to bytes n) k) + length split.0 = ap
      (λ (xs : List ℕ). length xs) split.1 ∙ length-append (bytes_to (kept_to bytes n) k) split.0 in
      let front : length (heard_of (kept_to bytes n)) ≡ length (bytes_to (kept_to bytes n) n) = ap
      (λ (j : ℕ). length (bytes_to (kept_to bytes n) j)) (front_kept bytes n) in
      let ends : end_of (kept_to bytes n) k ≡ length (bytes_to (kept_to bytes n) k) = end_is (kept_to bytes n) k in
      ap (λ o. is_done_by true (end_of (kept_to bytes n) k) (length read) o) (packet_kept bytes n k low high)
      ∙ of (k == total bytes) (le-leb (end_of (kept_to bytes n) k) (length read) (omega arith))
    where
      of : (b : Bool) → nat_le (end_of (kept_to bytes n) k) (length read) ≡ true
          → cond b true (nat_le (end_of (kept_to bytes n) k) (length read)) ≡ true
      of true there = refl
      of false there = there

  pub used_all : used_of whole_read ≡ n
  used_all = rw (front_kept bytes n) (reach_all (is_done whole_read) n all_done)

  pub marks_all : marks_of whole_read ≡ []
  marks_all =
      let none : greatest (kept_to bytes n) - n ≡ 0 = omega (arith, greatest_kept bytes n) in
      rw used_all (rw none refl)
