-- A stream that was read to its end: all its packets are there and done with, and no further one is kept.
use Rattle.std.proofs.Common.{◌≡◌, ◌≤◌, ◌<◌, ◌==◌, ◌+◌, ℕ, zero, suc, if◌then◌else◌, is_some, nat_le, Bool, true, false}
use Rattle.std.proofs.Common.{List, [], ◌++◌, length, Option, Some, None, refl, ◌∙◌, ap, subst, arith}
use Rattle.std.proofs.Common.{drop, length-append, length-drop}
use Rattle.std.proofs.lemmas.Bool.Decides.{nat_tests}
use Rattle.rx_rules.specs.Received.{Packet, Piece, Received, after_read, bytes_to, end_of, front_of, is_above}
use Rattle.rx_rules.specs.Received.{is_complete, is_done}
use Rattle.rx_rules.specs.Received.{is_done_by, is_within, last_seq, packet_at, unread_of, used_of}
use Rattle.rx_model.proofs.NameLaws.{same_number}
use Rattle.rx_history.proofs.Reaches.{reach_least}
use Rattle.rx_rules.proofs.PacketLaws.{front_all, end_is}
use Rattle.rx_history.proofs.Laws.UsedLaws.{above_front, used_reads}

-- where nothing is left behind so many, there are no more
pub none_left : (n : ℕ) (xs : List ℕ) → drop n xs ≡ [] → length xs ≤ n
none_left n xs h = (let e : length (drop n xs) ≡ 0 = ap length h in omega (arith, length-drop n xs))

-- all packets are there, and done with
pub record Whole (r : Received) : Type 0 where
  pub complete : is_complete r ≡ true
  pub used : front_of r.kept ≤ used_of r

-- it stays so where reads go on
pub whole_reads : (end : Bool) (bytes : List ℕ) (r : Received) → Whole r → Whole (after_read end bytes r)
whole_reads end bytes r w =
    let more = used_reads end bytes r in
    let all = w.used in
    record { complete = w.complete; used = omega arith }

-- and no further packet is kept
pub whole_keeps : (p : Packet) (r : Received) → Whole r → used_of r < p.seq → is_some (packet_at r.kept p.seq) ≡ false
    → is_above (last_seq r.kept) p.seq ≡ false → ⊥
whole_keeps p r w above away clash = of (last_seq r.kept) (above_front p r above away) w.complete clash
  where
    of : (o : Option ℕ) → front_of r.kept < p.seq → is_within o (front_of r.kept) ≡ true → is_above o p.seq ≡ false → ⊥
    of None high within clash = absurd cc
    of (Some last) high within clash = grind (arith, nat_tests)

end-rises : (ps : List Packet) (k n : ℕ) → k ≤ n → end_of ps k ≤ end_of ps n
end-rises ps k zero low = (let is : k ≡ 0 = omega arith in rw is (omega arith))
end-rises ps k (suc n) low =
    (elim (k == suc n) as (λ b. (k == suc n) ≡ b → end_of ps k ≤ end_of ps (suc n)) [
      | true ↦ λ same. subst (λ (j : ℕ). end_of ps k ≤ end_of ps j) (same_number k (suc n) same) (omega arith)
      | false ↦ λ other. (let rest = end-rises ps k n (let less : k ≤ n = grind (arith, nat_tests) in less) in
          omega arith)
    ]) refl

-- a read that answers End leaves it so
pub end_reads : (bytes : List ℕ) (r : Received) → unread_of r ≡ [] → is_complete r ≡ true
    → Whole (after_read true bytes r)
end_reads bytes r none complete =
    record {
      complete = complete;
      used = reach_least (is_done (after_read true bytes r)) (front_of r.kept) (front_of r.kept) (omega arith) each;
    }
  where
    read : end_of r.kept (front_of r.kept) ≤ length (r.read ++ bytes)
    read =
        let all = none_left (length r.read) (bytes_to r.kept (front_of r.kept)) none in
        let is : end_of r.kept (front_of r.kept) ≡ length (bytes_to r.kept (front_of r.kept)) = end_is r.kept
        (front_of r.kept) in
        let size = length-append r.read bytes in
        omega arith

    of : (k : ℕ) (o : Option Piece) → end_of r.kept k ≤ length (r.read ++ bytes) → is_some o ≡ true
        → is_done_by true (end_of r.kept k) (length (r.read ++ bytes)) o ≡ true
    of k None low there = absurd cc
    of k (Some p) low there =
        (elim p.last as (λ b. (if b then true else nat_le (end_of r.kept k) (length (r.read ++ bytes))) ≡ true) [
          | true ↦ refl
          | false ↦ grind (arith, nat_tests)
        ])

    each : (j : ℕ) → suc j ≤ front_of r.kept → is_done (after_read true bytes r) (suc j) ≡ true
    each j low =
        let rises = end-rises r.kept (suc j) (front_of r.kept) low in
        let all = read in
        of (suc j) (packet_at r.kept (suc j)) (omega arith) (front_all r.kept j low)
