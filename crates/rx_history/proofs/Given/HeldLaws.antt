-- How many slots an end of a call holds beside its own, step by step.
use Rattle.std.proofs.Common.{◌≡◌, ◌⊎◌, ◌≤◌, ◌<◌, ◌==◌, ◌&&◌, ◌||◌, ◌+◌, ◌-◌, ℕ, suc, is_some}
use Rattle.std.proofs.Common.{nat_lt, not, Bool, true, false, List, ◌++◌, length, Option, refl, sym, subst}
use Rattle.std.proofs.Common.{arith, inl, inr, length-append}
use Rattle.std.proofs.lemmas.Bool.Decides.{nat_tests}
use Rattle.rx_model.specs.declared.answers.Took.{Took}
use Rattle.rx_model.specs.declared.answers.Took.TheVariants as tooks
use Rattle.rx_model.specs.Body.{Body}
use Rattle.rx_model.specs.Body as bodies
use Rattle.rx_model.specs.Message.{Message}
use Rattle.rx_rules.specs.CallLooks.{CallLooks, NodeView, after_body, after_chunk, after_read, after_shut}
use Rattle.rx_rules.specs.CallLooks.{after_taken, after_write, found}
use Rattle.rx_rules.specs.CallLooks.{freed, has_lead, held, lead}
use Rattle.rx_rules.specs.Received.{Packet, count_above, front_of, has_slot, packet_at, used_of}
use Rattle.rx_rules.specs.Sent.{Sent, after_ack, held_pieces, pieces_of, room_of}
use Rattle.rx_history.proofs.Laws.UsedLaws.{held_keeps, held_reads, lead_keeps, lead_reads, next_keeps, with_kept}
use Rattle.rx_history.proofs.Given.HeldNumbers.{beside_by, fewer-packets, fewer-pieces, first-piece, more-pieces}
use Rattle.rx_history.proofs.Given.HeldNumbers.{one-more}
use Rattle.rx_history.proofs.Given.HeldNumbers.{shut-pieces, the-next, write-pieces}

-- the slots of a call beside its own
abbrev pub beside_of : CallLooks → ℕ
beside_of k = held k - lead k

-- ---- what is acknowledged

-- reply data acknowledges the whole request
pub beside_found : (client : Bool) (k : CallLooks) → beside_of (found client k) ≤ beside_of k
beside_found true k =
    fewer-pieces (used_of k.received) (front_of k.received.kept) (count_above (used_of k.received) k.received.kept)
    (held_pieces k.sent) (pieces_of k.sent - pieces_of k.sent) (omega arith)
beside_found false k = omega arith

pub ack-pieces : (first : ℕ) (marks : List Bool) (window : Option ℕ) (s : Sent)
    → held_pieces (after_ack first marks window s) ≤ held_pieces s
ack-pieces first marks window s =
    (elim (nat_lt (first - 1) s.acked) as (λ b. nat_lt (first - 1) s.acked ≡ b
    → held_pieces (after_ack first marks window s) ≤ held_pieces s) [
      | true ↦ λ stale. rw stale (omega arith)
      | false ↦ λ fresh. rw fresh (let low : s.acked ≤ first - 1 = grind (arith, nat_tests) in omega arith)
    ]) refl

-- a message that is heard may acknowledge pieces
beside-body : (now : ℕ) (m : Message) (body : Body) (k : CallLooks) → beside_of (after_body now m body k) ≤ beside_of k
beside-body now m (bodies.Ack a) k =
    fewer-pieces (used_of k.received) (front_of k.received.kept) (count_above (used_of k.received) k.received.kept)
    (held_pieces k.sent) (held_pieces (after_ack a.first a.marks a.window k.sent))
    (ack-pieces a.first a.marks a.window k.sent)
beside-body now m bodies.AckAll k =
    fewer-pieces (used_of k.received) (front_of k.received.kept) (count_above (used_of k.received) k.received.kept)
    (held_pieces k.sent) (pieces_of k.sent - pieces_of k.sent) (omega arith)
beside-body now m _ k = omega arith

-- ---- a message comes

-- data that isn't kept takes no slot
beside-chunk : (v : NodeView) (m : Message) (body : Body) (k : CallLooks)
    → (beside_of (after_chunk v tooks.Repeat m body k) ≤ beside_of k)
    × (beside_of (after_chunk v tooks.Beyond m body k) ≤ beside_of k)
    × (beside_of (after_chunk v tooks.Clash m body k) ≤ beside_of k)
    × (beside_of (after_chunk v tooks.NoSlot m body k) ≤ beside_of k)
beside-chunk v m (bodies.Chunk payload) k =
    (beside_found v.client k, beside_found v.client k, beside_found v.client k, beside_found v.client k)
beside-chunk v m _ k = (omega arith, omega arith, omega arith, omega arith)

-- no other answer than Kept takes a slot
pub beside_taken : (v : NodeView) (got : Took) (m : Message) (k : CallLooks) → (got ≡ tooks.Kept → ⊥)
    → beside_of (after_taken v got m k) ≤ beside_of k
beside_taken v tooks.Kept m k other = absurd (other refl)
beside_taken v tooks.Repeat m k other = (beside-chunk v m m.body k).0
beside_taken v tooks.Beyond m k other = (beside-chunk v m m.body k).1
beside_taken v tooks.Clash m k other = (beside-chunk v m m.body k).2
beside_taken v tooks.NoSlot m k other = (beside-chunk v m m.body k).3
beside_taken v tooks.Heard m k other = beside-body v.now m m.body k
beside_taken v _ m k other = omega arith

-- the packet is neither done with nor kept, and there is a slot for it
pub record Slotted (v : NodeView) (p : Packet) (k : CallLooks) : Type 0 where
  pub above : used_of k.received < p.seq
  pub away : is_some (packet_at k.received.kept p.seq) ≡ false
  pub slot : has_slot (not (has_lead (found v.client k))) (v.left + freed v.client k) p.seq k.received ≡ true

no-lead : (used front pieces : ℕ) → not (nat_lt used front || nat_lt 0 pieces) ≡ true → (front ≤ used) × (pieces ≡ 0)
no-lead used front pieces none = (grind (arith, nat_tests), grind (arith, nat_tests))

slot-by : (leadless next : Bool) (left : ℕ) → ((leadless && next) || nat_lt 0 left) ≡ true
    → ((leadless ≡ true) × (next ≡ true)) ⊎ (1 ≤ left)
slot-by true true left is = inl (refl, refl)
slot-by true false left is = inr (grind (arith, nat_tests))
slot-by false next left is = inr (grind (arith, nat_tests))

module _ (v : NodeView) (p : Packet) (previous : ℕ) (k : CallLooks) (s : Slotted v p k) where
  abbrev kept_looks : CallLooks
  kept_looks = record (found v.client k) { received = with_kept p previous k.received }

  kept-lead : not (has_lead (found v.client k)) ≡ true → (p.seq == (front_of k.received.kept + 1)) ≡ true
      → beside_of kept_looks ≤ beside_of (found v.client k)
  kept-lead leadless next =
      let none = no-lead (used_of k.received) (front_of k.received.kept)
      (held_pieces (found v.client k).sent) leadless in
      let zero : held_pieces (found v.client k).sent ≡ 0 = none.1 in
      let seq : p.seq ≡ front_of k.received.kept + 1 = grind (arith, nat_tests) in
      subst (λ (q : ℕ). beside_by (used_of kept_looks.received) (front_of kept_looks.received.kept)
      (count_above (used_of kept_looks.received) kept_looks.received.kept) q
      ≤ beside_by (used_of k.received) (front_of k.received.kept)
      (count_above (used_of k.received) k.received.kept) q) (sym zero)
      (the-next (used_of k.received) (front_of k.received.kept) (count_above (used_of k.received) k.received.kept)
      (used_of kept_looks.received) (front_of kept_looks.received.kept)
      (count_above (used_of kept_looks.received) kept_looks.received.kept)
      none.0 (held_keeps p previous k.received s.above s.away) (next_keeps p previous k.received s.above s.away seq))

  kept-more : beside_of kept_looks ≤ suc (beside_of (found v.client k))
  kept-more =
      one-more (used_of k.received) (front_of k.received.kept) (count_above (used_of k.received) k.received.kept)
      (held_pieces (found v.client k).sent)
      (used_of kept_looks.received) (front_of kept_looks.received.kept)
      (count_above (used_of kept_looks.received) kept_looks.received.kept)
      (held_keeps p previous k.received s.above s.away) (lead_keeps p previous k.received s.above s.away)

  -- a packet that is kept takes at most what is left
  pub beside_kept : beside_of kept_looks ≤ beside_of k + v.left
  beside_kept =
      let less = beside_found v.client k in
      of (slot-by (not (has_lead (found v.client k))) (p.seq == (front_of k.received.kept + 1))
      (v.left + freed v.client k) s.slot)
    where
      of : ((not (has_lead (found v.client k)) ≡ true) × ((p.seq == (front_of k.received.kept + 1)) ≡ true))
          ⊎ (1 ≤ v.left + freed v.client k)
          → beside_of kept_looks ≤ beside_of k + v.left
      of (inl next) = (let same = kept-lead next.0 next.1 in let less = beside_found v.client k in omega arith)
      of (inr left) = (let more = kept-more in let less = beside_found v.client k in omega arith)

-- ---- the application's calls

-- a read takes none
pub beside_read : (now : ℕ) (end : Bool) (bytes : List ℕ) (k : CallLooks)
    → beside_of (after_read now end bytes k) ≤ beside_of k
beside_read now end bytes k =
    fewer-packets (used_of k.received) (front_of k.received.kept) (count_above (used_of k.received) k.received.kept)
    (held_pieces k.sent)
    (used_of (after_read now end bytes k).received)
    (count_above (used_of (after_read now end bytes k).received) k.received.kept)
    (held_reads end bytes k.received) (lead_reads end bytes k.received)

-- a write takes at most what is left
pub beside_write : (window left : ℕ) (bytes : List ℕ) (k : CallLooks) → k.sent.shut ≡ false
    → length bytes ≤ room_of window (left + 1 - lead k) k.sent → beside_of (after_write bytes k) ≤ beside_of k + left
beside_write window left bytes k unshut low =
    let pieces = write-pieces k.sent.shut (length k.sent.said) (length bytes) (length (k.sent.said ++ bytes)) window
    (left + 1 - lead k)
    k.sent.acked unshut (length-append k.sent.said bytes) low in
    more-pieces (used_of k.received) (front_of k.received.kept) (count_above (used_of k.received) k.received.kept)
    (held_pieces k.sent)
    (held_pieces (after_write bytes k).sent) left pieces.0 pieces.1

-- shutting takes none where no packet stands in front that isn't done with
pub beside_shut : (k : CallLooks) → front_of k.received.kept ≤ used_of k.received
    → beside_of (after_shut k) ≤ beside_of k
beside_shut k done =
    first-piece (used_of k.received) (front_of k.received.kept) (count_above (used_of k.received) k.received.kept)
    (held_pieces k.sent)
    (held_pieces (after_shut k).sent) done (shut-pieces k.sent.shut (length k.sent.said) k.sent.acked)
