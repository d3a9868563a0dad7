-- The lowest piece that a sender doesn't know to be there, as it comes to a drained end: it is the next one, and so
-- kept whatever slots are left, or it is there already.
use Rattle.std.proofs.Common.{◌≡◌, ◌≤◌, ◌<◌, ◌+◌, ◌-◌, ◌&&◌, ◌||◌, ◌==◌, if◌then◌else◌, not, nat_le, nat_lt, is_some}
use Rattle.std.proofs.Common.{ℕ, Bool, true, false, List, ◌∷◌, length, refl, ◌∙◌, ap, sym}
use Rattle.std.proofs.Common.{subst, arith, inl, inr}
use Rattle.std.proofs.lemmas.Bool.{cases_lt}
use Rattle.std.proofs.lemmas.Bool.Decides.{nat_tests}
use Rattle.rx_model.specs.declared.answers.Took.{Took}
use Rattle.rx_model.specs.declared.answers.Took.TheVariants as tooks
use Rattle.rx_model.specs.Body.{Body}
use Rattle.rx_model.specs.Body as bodies
use Rattle.rx_model.specs.Message.{Message}
use Rattle.rx_model.proofs.NameLaws.{number_itself}
use Rattle.rx_rules.specs.CallLooks.{CallLooks, NodeView, after_chunk, after_taken, arrival, call_row, found, freed}
use Rattle.rx_rules.specs.CallLooks.{has_lead, packet_of}
use Rattle.rx_rules.specs.Received.{Packet, Received, arrival_row, front_of, greatest, packet_at, used_of}
use Rattle.rx_rules.specs.Sent.{Sent, given_of, held_pieces, is_acked, lowest_of, pieces_by, pieces_of}
use Rattle.rx_rules.proofs.PacketLaws.{kept_within}
use Rattle.rx_history.proofs.Laws.UsedLaws.{front_next}
use Rattle.rx_between.specs.Acknowledged.{AreTrue}
use Rattle.rx_between.specs.Agreed.{MakesSense}
use Rattle.rx_between.proofs.Counting.{reach_least, reach_passes}
use Rattle.rx_between.proofs.Marks.{acked_kept, front_reaches}
use Rattle.rx_between.proofs.SaysLate.{IsSilent}
use Rattle.rx_progress.specs.Moving.{Moves, behind_message}
use Rattle.rx_between.proofs.HonestRows.{either_false}
use Rattle.rx_rules.proofs.ReachLaws.{reach_stops}

-- ---- what the sender knows

-- it isn't acknowledged
lowest_open : (c : Sent) → lowest_of c ≤ given_of c → is_acked c (lowest_of c) ≡ false
lowest_open c given = reach_stops (is_acked c) (given_of c) (omega arith)

pub not_acked : (a b : Bool) → (a || b) ≡ false → a ≡ false
not_acked true b none = none
not_acked false b none = refl

acked_below : (c : Sent) → lowest_of c ≤ given_of c → c.acked < lowest_of c
acked_below c given =
    (let none = not_acked (nat_le (lowest_of c) c.acked) (c.soft (lowest_of c)) (lowest_open c given) in
    grind (arith, nat_tests))

-- where it is there already, the front is beyond what the sender knows
there_tells : (c : Sent) (v : Received) → AreTrue c v → lowest_of c ≤ given_of c
    → is_some (packet_at v.kept (lowest_of c)) ≡ true → c.acked < front_of v.kept
there_tells c v truth given there =
    let k : ℕ = lowest_of c in
    let all : (j : ℕ) → 1 ≤ j → j ≤ k → is_some (packet_at v.kept j) ≡ true =
    λ j from to. elim (cases_lt j k) as (λ e. is_some (packet_at v.kept j) ≡ true) [
      | inl less ↦ acked_kept c v truth j from (reach_passes (is_acked c) (given_of c) j from (omega arith))
      | inr same ↦ subst (λ (i : ℕ). is_some (packet_at v.kept i) ≡ true)
          (let is : k ≡ j = omega (arith, to, same) in is) there
    ] in
    let within : k ≤ greatest v.kept = kept_within v.kept k there in
    let far : k ≤ front_of v.kept = reach_least (λ j. is_some (packet_at v.kept j)) (greatest v.kept) k within all in
    let below : c.acked < k = acked_below c given in
    omega arith

-- where it isn't, it is the next one
is_next : (c : Sent) (v : Received) → AreTrue c v → is_some (packet_at v.kept (lowest_of c)) ≡ false
    → lowest_of c ≡ front_of v.kept + 1
is_next c v truth away =
    let k : ℕ = lowest_of c in
    let reaches : k ≤ front_of v.kept + 1 = front_reaches c v truth in
    let past : front_of v.kept < k =
    elim (cases_lt (front_of v.kept) k) as (λ e. front_of v.kept < k) [
      | inl below ↦ below
      | inr above ↦ absurd (let there : is_some (packet_at v.kept k) ≡ true =
          reach_passes (λ j. is_some (packet_at v.kept j)) (greatest v.kept) k (omega arith) above in
          cc (there, away))
    ] in
    omega arith

-- ---- the row of the next one

kept_by : (strange again beyond clash slot : Bool)
    → MakesSense (if strange then tooks.Strange else if again then tooks.Repeat else if beyond then tooks.Beyond
    else if clash then tooks.Clash else if slot then tooks.Kept else tooks.NoSlot)
    → again ≡ false → slot ≡ true
    → (if strange then tooks.Strange else if again then tooks.Repeat else if beyond then tooks.Beyond
    else if clash then tooks.Clash else if slot then tooks.Kept else tooks.NoSlot) ≡ tooks.Kept
kept_by true again beyond clash slot sense new has = absurd sense
kept_by false true beyond clash slot sense new has = absurd cc
kept_by false false true clash slot sense new has = absurd sense
kept_by false false false true slot sense new has = absurd sense
kept_by false false false false true sense new has = refl
kept_by false false false false false sense new has = absurd cc

slot_there : (leadless next more : Bool) → leadless ≡ true → next ≡ true → ((leadless && next) || more) ≡ true
slot_there true true more a b = refl
slot_there true false more a b = absurd cc
slot_there false next more a b = absurd cc

equal_is : (m n : ℕ) → m ≡ n → (m == n) ≡ true
equal_is m n same = ap (λ (k : ℕ). k == n) same ∙ number_itself n

row_kept : (client : Bool) (window left : ℕ) (p : Packet) (k : CallLooks) → has_lead (found client k) ≡ false
    → p.seq ≡ front_of k.received.kept + 1 → nat_le p.seq (used_of k.received) ≡ false
    → is_some (packet_at k.received.kept p.seq) ≡ false
    → MakesSense (arrival_row (arrival client window left p (found client k)))
    → arrival_row (arrival client window left p (found client k)) ≡ tooks.Kept
row_kept true window left p k none next above away sense =
    kept_by _ _ _ _ _ sense
    (either_false (nat_le p.seq (used_of k.received)) (is_some (packet_at k.received.kept p.seq)) above away)
    (slot_there (not (has_lead (found true k))) (p.seq == front_of k.received.kept + 1) _ (ap not none)
    (equal_is p.seq (front_of k.received.kept + 1) next))
row_kept false window left p k none next above away sense =
    kept_by _ _ _ _ _ sense
    (either_false (nat_le p.seq (used_of k.received)) (is_some (packet_at k.received.kept p.seq)) above away)
    (slot_there (not (has_lead k)) (p.seq == front_of k.received.kept + 1) _ (ap not none)
    (equal_is p.seq (front_of k.received.kept + 1) next))

-- ---- no lead

-- a client's end that is drained has none, as reply data acknowledges its whole request
pub client_leadless : (k : CallLooks) → used_of k.received ≡ front_of k.received.kept → has_lead (found true k) ≡ false
client_leadless k drained =
    either_false (nat_lt (used_of k.received) (front_of k.received.kept)) _ (grind (arith, nat_tests))
    (let none : nat_lt 0 (pieces_of k.sent - pieces_of k.sent) ≡ false = grind (arith, nat_tests) in none)

-- nor a server's that said nothing yet
pub silent_leadless : (k : CallLooks) → IsSilent k.sent → used_of k.received ≡ front_of k.received.kept
    → has_lead (found false k) ≡ false
silent_leadless k silent drained =
    either_false (nat_lt (used_of k.received) (front_of k.received.kept)) _ (grind (arith, nat_tests))
    (let empty : length k.sent.said ≡ 0 = ap length silent.0 in
    let none : pieces_of k.sent ≡ 0 =
    (λ i. pieces_by (empty i) (silent.1 i)) in
    let held : held_pieces k.sent ≡ 0 = omega (arith, none) in
    grind (arith, nat_tests))

-- ---- it moves

taken_front : (v : NodeView) (m : Message) (payload : List ℕ) (k : CallLooks) → m.body ≡ bodies.Chunk payload
    → m.seq ≡ front_of k.received.kept + 1
    → front_of k.received.kept < front_of (after_taken v tooks.Kept m k).received.kept
taken_front v m payload k chunk next =
    subst (λ (b : Body). front_of k.received.kept < front_of (after_chunk v tooks.Kept m b k).received.kept) (sym chunk)
    (of v.client)
  where
    of : (client : Bool)
        → front_of k.received.kept < front_of (packet_of m payload ∷ (found client k).received.kept)
    of true = front_next (packet_of m payload) k.received.kept next
    of false = front_next (packet_of m payload) k.received.kept next

-- at any end
pub moves : (sent : Sent) (v : NodeView) (m : Message) (payload : List ℕ) (k : CallLooks)
    → AreTrue sent k.received → m.body ≡ bodies.Chunk payload → m.seq ≡ lowest_of sent → lowest_of sent ≤ given_of sent
    → used_of k.received ≡ front_of k.received.kept
    → (is_some (packet_at k.received.kept (lowest_of sent)) ≡ false → has_lead (found v.client k) ≡ false)
    → MakesSense (call_row v m m.body k) → Moves sent k.received (behind_message v m k).received
moves sent v m payload k truth chunk seq given drained leadless sense =
    of (is_some (packet_at k.received.kept (lowest_of sent))) refl
  where
    of : (b : Bool) → is_some (packet_at k.received.kept (lowest_of sent)) ≡ b
        → Moves sent k.received (behind_message v m k).received
    of true there = inr (let far = there_tells sent k.received truth given there in omega (arith, far, drained))
    of false away =
        inl (subst (λ (t : Took). front_of k.received.kept < front_of (after_taken v t m k).received.kept) (sym row)
        (taken_front v m payload k chunk (seq ∙ next)))
      where
        next : lowest_of sent ≡ front_of k.received.kept + 1
        next = is_next sent k.received truth away

        above : nat_le m.seq (used_of k.received) ≡ false
        above = (let at = seq ∙ next in let low = drained in grind (arith, nat_tests))

        row : call_row v m m.body k ≡ tooks.Kept
        row =
            ap (λ (b : Body). call_row v m b k) chunk
            ∙ row_kept v.client v.window (v.left + freed v.client k) (packet_of m payload) k (leadless away)
            (seq ∙ next)
            above (subst (λ (n : ℕ). is_some (packet_at k.received.kept n) ≡ false) (sym seq) away)
            (subst (λ (b : Body). MakesSense (call_row v m b k)) chunk sense)
