-- What is done with of a stream, as packets are kept and reads go on.
use Rattle.std.proofs.Common.{◌≡◌, ◌≤◌, ◌<◌, ◌==◌, ◌||◌, ◌+◌, ℕ, zero, suc, cond, if◌then◌else◌, is_some, nat_le, Bool}
use Rattle.std.proofs.Common.{true, false, List, ◌∷◌, ◌++◌, length, Option, Some, None, refl, ◌∙◌, arith}
use Rattle.std.proofs.Common.{length-append}
use Rattle.std.proofs.lemmas.Bool.Decides.{nat_tests}
use Rattle.rx_rules.specs.Received.{Packet, Piece, Received, count_above, end_of, front_of, greatest}
use Rattle.rx_rules.specs.Received.{after_read, is_done, is_done_by, packet_at, payload_of, used_of}
use Rattle.rx_history.proofs.Reaches.{count_falls, count_passes, reach_least, reach_wider}
use Rattle.rx_rules.proofs.ReachLaws.{reach_stops, reach_within}
use Rattle.rx_rules.proofs.PacketLaws.{front_all}
use Rattle.rx_rules.proofs.ReachLaws.{reach_passes}

-- what is done with stands in front
pub used_within : (r : Received) → used_of r ≤ front_of r.kept
used_within r = reach_within (is_done r) (front_of r.kept)

-- ---- a packet is kept

-- another packet is kept as before
packet-other : (p : Packet) (ps : List Packet) (k : ℕ) → (p.seq == k) ≡ false → packet_at (p ∷ ps) k ≡ packet_at ps k
packet-other p ps k other = rw other refl

some-kept : (p : Packet) (ps : List Packet) (k : ℕ) → is_some (packet_at ps k) ≡ true
    → is_some (packet_at (p ∷ ps) k) ≡ true
some-kept p ps k there = of (p.seq == k)
  where
    of : (b : Bool) → is_some (cond b (Some p.piece) (packet_at ps k)) ≡ true
    of true = refl
    of false = there

-- the front goes no way back
pub front_grows : (p : Packet) (ps : List Packet) → front_of ps ≤ front_of (p ∷ ps)
front_grows p ps =
    reach_wider (λ k. is_some (packet_at ps k)) (λ k. is_some (packet_at (p ∷ ps) k)) (greatest ps) (greatest (p ∷ ps))
    (let top = reach_within (λ k. is_some (packet_at ps k)) (greatest ps) in omega arith)
    (λ j low there. some-kept p ps (suc j) there)

-- the next packet moves it on
pub front_next : (p : Packet) (ps : List Packet) → p.seq ≡ front_of ps + 1 → front_of ps < front_of (p ∷ ps)
front_next p ps next =
    reach_least (λ k. is_some (packet_at (p ∷ ps) k)) (greatest (p ∷ ps)) (suc (front_of ps)) (omega arith) each
  where
    each : (j : ℕ) → suc j ≤ suc (front_of ps) → is_some (packet_at (p ∷ ps) (suc j)) ≡ true
    each j low =
        (elim (p.seq == suc j) as (λ b. (p.seq == suc j) ≡ b
        → is_some (cond b (Some p.piece) (packet_at ps (suc j))) ≡ true) [
          | true ↦ λ own. refl
          | false ↦ λ other. front_all ps j (let apart : suc j ≤ front_of ps = grind (arith, nat_tests) in apart)
        ]) refl

-- a packet that is neither done with nor kept stands above the front
pub above_front : (p : Packet) (r : Received) → used_of r < p.seq → is_some (packet_at r.kept p.seq) ≡ false
    → front_of r.kept < p.seq
above_front p r above away = of p.seq above away
  where
    of : (n : ℕ) → used_of r < n → is_some (packet_at r.kept n) ≡ false → front_of r.kept < n
    of zero above away = absurd (omega arith)
    of (suc j) above away =
        (elim (nat_le (suc j) (front_of r.kept)) as (λ b. nat_le (suc j) (front_of r.kept) ≡ b
        → front_of r.kept < suc j) [
          | true ↦ λ low. (
              let there = front_all r.kept j (let is : suc j ≤ front_of r.kept = grind (arith, nat_tests) in is) in
              absurd (cc (there, away)))
          | false ↦ λ high. grind (arith, nat_tests)
        ]) refl

-- below it, packets end where they ended
end-below : (p : Packet) (ps : List Packet) (k : ℕ) → k < p.seq → end_of (p ∷ ps) k ≡ end_of ps k
end-below p ps zero below = refl
end-below p ps (suc k) below =
    let other : (p.seq == suc k) ≡ false = grind (arith, nat_tests) in
    let same : packet_at (p ∷ ps) (suc k) ≡ packet_at ps (suc k) = packet-other p ps (suc k) other in
    let before : end_of (p ∷ ps) k ≡ end_of ps k = end-below p ps k (omega arith) in
    λ i. before i + length (payload_of (same i))

-- a packet was kept
abbrev pub with_kept : Packet → ℕ → Received → Received
with_kept p previous r = record r { kept = p ∷ r.kept; previous = previous }

done-below : (p : Packet) (previous : ℕ) (r : Received) (k : ℕ) → k < p.seq
    → is_done (with_kept p previous r) k ≡ is_done r k
done-below p previous r k below =
    let other : (p.seq == k) ≡ false = grind (arith, nat_tests) in
    let same : packet_at (p ∷ r.kept) k ≡ packet_at r.kept k = packet-other p r.kept k other in
    let ends : end_of (p ∷ r.kept) k ≡ end_of r.kept k = end-below p r.kept k below in
    λ i. is_done_by r.ended (ends i) (length r.read) (same i)

module _ (p : Packet) (previous : ℕ) (r : Received) (above : used_of r < p.seq)
    (away : is_some (packet_at r.kept p.seq) ≡ false) where
  -- as much is done with
  pub used_keeps : used_of r ≤ used_of (with_kept p previous r)
  used_keeps =
      reach_wider (is_done r) (is_done (with_kept p previous r)) (front_of r.kept) (front_of (p ∷ r.kept))
      (let top = used_within r in let more = front_grows p r.kept in omega arith)
      (λ j low done. done-below p previous r (suc j) (omega arith) ∙ done)

  -- at most one more is held
  pub held_keeps : count_above (used_of (with_kept p previous r)) (p ∷ r.kept) ≤ suc (count_above (used_of r) r.kept)
  held_keeps =
      let falls = count_falls (p ∷ r.kept) (used_of r) (used_of (with_kept p previous r)) used_keeps in
      let one : count_above (used_of r) (p ∷ r.kept) ≤ suc (count_above (used_of r) r.kept) = grind
      (arith, nat_tests) in
      omega arith

  -- a packet that stood in front and wasn't done with stays so
  pub lead_keeps : used_of r < front_of r.kept → used_of (with_kept p previous r) < front_of (p ∷ r.kept)
  lead_keeps low =
      let high = above_front p r above away in
      let stops : is_done (with_kept p previous r) (suc (used_of r)) ≡ false =
      done-below p previous r (suc (used_of r)) (omega arith) ∙ reach_stops (is_done r) (front_of r.kept) low in
      let grows = front_grows p r.kept in
      let top : used_of (with_kept p previous r) < suc (used_of r) = of
      (nat_le (suc (used_of r)) (used_of (with_kept p previous r))) refl stops in
      omega arith
    where
      of : (b : Bool) → nat_le (suc (used_of r)) (used_of (with_kept p previous r)) ≡ b
          → is_done (with_kept p previous r) (suc (used_of r)) ≡ false
          → used_of (with_kept p previous r) < suc (used_of r)
      of false less stops = grind (arith, nat_tests)
      of true more stops =
          (let high : suc (used_of r) ≤ used_of (with_kept p previous r) = grind (arith, nat_tests) in
          let passes = reach_passes (is_done (with_kept p previous r)) (front_of (p ∷ r.kept)) (used_of r) high in
          absurd (cc (passes, stops)))

  -- where nothing in front of the next packet is left, either it stands in front or no more is held
  pub next_keeps : p.seq ≡ front_of r.kept + 1 → front_of (p ∷ r.kept) ≤ used_of (with_kept p previous r)
      → count_above (used_of (with_kept p previous r)) (p ∷ r.kept) ≤ count_above (used_of r) r.kept
  next_keeps next all =
      let on = front_next p r.kept next in
      let falls = count_falls r.kept (used_of r) (used_of (with_kept p previous r)) used_keeps in
      grind (arith, nat_tests)

-- ---- a read

done-read : (end : Bool) (bytes : List ℕ) (r : Received) (k : ℕ) → is_done r k ≡ true
    → is_done (after_read end bytes r) k ≡ true
done-read end bytes r k done =
    of (packet_at r.kept k) (let size = length-append r.read bytes in omega arith) done
  where
    of : (o : Option Piece) → length r.read ≤ length (r.read ++ bytes)
        → is_done_by r.ended (end_of r.kept k) (length r.read) o ≡ true
        → is_done_by (end || r.ended) (end_of r.kept k) (length (r.read ++ bytes)) o ≡ true
    of None more done = absurd cc
    of (Some p) more done =
        (elim p.last as (λ b. (if b then r.ended else nat_le (end_of r.kept k) (length r.read)) ≡ true
        → (if b then end || r.ended else nat_le (end_of r.kept k) (length (r.read ++ bytes))) ≡ true) [
          | true ↦ λ ended. either end ended
          | false ↦ λ low. grind (arith, nat_tests)
        ]) done
      where
        either : (e : Bool) → r.ended ≡ true → (e || r.ended) ≡ true
        either true ended = refl
        either false ended = ended

-- as much is done with
pub used_reads : (end : Bool) (bytes : List ℕ) (r : Received) → used_of r ≤ used_of (after_read end bytes r)
used_reads end bytes r =
    reach_wider (is_done r) (is_done (after_read end bytes r)) (front_of r.kept) (front_of r.kept) (used_within r)
    (λ j low done. done-read end bytes r (suc j) done)

-- no more is held
pub held_reads : (end : Bool) (bytes : List ℕ) (r : Received)
    → count_above (used_of (after_read end bytes r)) r.kept ≤ count_above (used_of r) r.kept
held_reads end bytes r = count_falls r.kept (used_of r) (used_of (after_read end bytes r)) (used_reads end bytes r)

-- where a packet that stood in front is done with, fewer are held
pub lead_reads : (end : Bool) (bytes : List ℕ) (r : Received) → used_of r < front_of r.kept
    → front_of r.kept ≤ used_of (after_read end bytes r)
    → suc (count_above (used_of (after_read end bytes r)) r.kept) ≤ count_above (used_of r) r.kept
lead_reads end bytes r low all =
    count_passes r.kept (used_of r) (used_of (after_read end bytes r)) (suc (used_of r)) (omega arith) (omega arith)
    (front_all r.kept (used_of r) (omega arith))
