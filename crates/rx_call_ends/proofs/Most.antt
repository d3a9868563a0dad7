-- How many more slots a step takes beside a call's lead: at most as many as are left.
use Rattle.std.proofs.Common.{◌≡◌, inl, inr, ◌<◌, ◌≤◌, ◌||◌, ◌+◌, ◌-◌, not, cond, nat_lt, nat_le, is_some, ℕ, Bool}
use Rattle.std.proofs.Common.{true, false, List, length, Option, Some, None, refl, sym, ap, ◌∙◌, arith, subst, take}
use Rattle.std.proofs.Common.{length-append, length-take}
use Rattle.std.specs.Prelude.{if◌then◌else◌, min}
use Rattle.std.proofs.lemmas.Bool.{cases_eq}
use Rattle.std.proofs.lemmas.Bool.Decides.{nat_tests}
use Rattle.rx_model.specs.declared.answers.Took.{Took}
use Rattle.rx_model.specs.declared.answers.Took.TheVariants as tooks
use Rattle.rx_model.specs.Body.{Body}
use Rattle.rx_model.specs.Body as bodies
use Rattle.rx_model.specs.Message.{Message}
use Rattle.rx_model.proofs.NameLaws.{neither}
use Rattle.rx_rules.specs.CallItems.{Sending}
use Rattle.rx_rules.specs.CallItems as items
use Rattle.rx_rules.specs.CallLooks.{CallLooks, NodeView, after_chunk, after_shut, after_taken, after_write, arrival}
use Rattle.rx_rules.specs.CallLooks.{call_row, found, freed, has_lead, lead, packet_of}
use Rattle.rx_rules.specs.Received.{Arrival, Packet, Received, arrival_row, count_above, front_of, packet_at}
use Rattle.rx_rules.specs.Received.{used_of}
use Rattle.rx_rules.specs.Sent.{held_pieces, opened, pieces_by, room_of}
use Rattle.rx_history.proofs.Given.HeldLaws.{Slotted, beside_kept, beside_shut, beside_taken, beside_write}
use Rattle.rx_pool.specs.Pool.{Slots}
use Rattle.rx_recvwin.specs.Window.{packet_slots, window_of}
use Rattle.rx_recvwin.proofs.Nearness.{held_is, lead_is}
use Rattle.rx_recvwin.proofs.SlotLaws.{count_seen, leading_seen, slots_count}
use Rattle.rx_sendwin.specs.Window.{piece_slots}
use Rattle.rx_call.specs.Kept.{beside_of, call_under}
use Rattle.rx_call.specs.Standing.{EndOfCall, HasSpare, StandsCall, after_given, has_unread, holds_lead, leadless}
use Rattle.rx_call.specs.Standing.{slots_of}
use Rattle.rx_call.proofs.CallsAt.{of_some_and}
use Rattle.rx_call_ends.specs.Ends.{EndsState, HasShutSlot, IsUnshut, KeepsSlots, beside_looks}
use Rattle.rx_history.proofs.Rows.RowsKept.{above-by}

-- ---- what is held of what came

unread_is : (pool : Slots) (c : EndOfCall) (k : CallLooks) → StandsCall pool c k →
    has_unread c.received ≡ nat_lt (used_of k.received) (front_of k.received.kept)
unread_is pool c k st =
    ap (λ n. nat_lt c.received.used (c.received.used + n)) (sym (leading_seen pool c.received.places))
    ∙ lead_is (window_of pool c.received) k.received st.received

packets_are : (pool : Slots) (c : EndOfCall) (k : CallLooks) → StandsCall pool c k →
    length (packet_slots c.received) ≡ count_above (used_of k.received) k.received.kept
packets_are pool c k st =
    slots_count c.received.places ∙ sym (count_seen pool c.received.places)
    ∙ held_is (window_of pool c.received) k.received st.received

-- ---- a message comes

kept_slot : (a : Arrival) → arrival_row a ≡ tooks.Kept → (a.is_repeat ≡ false) × (a.has_slot ≡ true)
kept_slot a is = of a.is_strange a.is_repeat a.is_beyond a.is_clash a.has_slot is
  where
    of : (strange repeat beyond clash slot : Bool) → (if strange then tooks.Strange else if repeat then tooks.Repeat
        else if beyond then tooks.Beyond else if clash then tooks.Clash else if slot then tooks.Kept
        else tooks.NoSlot) ≡ tooks.Kept → (repeat ≡ false) × (slot ≡ true)
    of true repeat beyond clash slot is = absurd cc
    of false true beyond clash slot is = absurd cc
    of false false true clash slot is = absurd cc
    of false false false true slot is = absurd cc
    of false false false false true is = (refl, refl)
    of false false false false false is = absurd cc

-- a packet that is kept has a slot
slotted : (v : NodeView) (p : Packet) (k : CallLooks) →
    arrival_row (arrival v.client v.window (v.left + freed v.client k) p (found v.client k)) ≡ tooks.Kept
    → Slotted v p k
slotted v p k is =
    let row = kept_slot (arrival v.client v.window (v.left + freed v.client k) p (found v.client k)) is in
    let new = neither (nat_le p.seq (used_of k.received)) (is_some (packet_at k.received.kept p.seq)) row.0 in
    record { above = above-by p.seq (used_of k.received) new.0; away = new.1; slot = row.1 }

chunk_most : (v : NodeView) (m : Message) (body : Body) (k : CallLooks) → call_row v m body k ≡ tooks.Kept →
    beside_looks (after_chunk v tooks.Kept m body k) ≤ beside_looks k + v.left
chunk_most v m (bodies.Chunk payload) k is =
    beside_kept v (packet_of m payload) m.seq k (slotted v (packet_of m payload) k is)
chunk_most v m _ k is = omega arith

pub taken_most : (v : NodeView) (got : Took) (m : Message) (k : CallLooks) → got ≡ call_row v m m.body k →
    beside_looks (after_taken v got m k) ≤ beside_looks k + v.left
taken_most v tooks.Kept m k is = chunk_most v m m.body k (sym is)
taken_most v got m k is = (let low = beside_taken v got m k (λ same. cc (same)) in omega (arith, low))

-- ---- the application's calls

within : (count size room : ℕ) → count ≡ min size room → min count size ≤ room
within count size room is = omega (arith, is)

pub write_most : (window left count : ℕ) (bytes : List ℕ) (k : CallLooks) → k.sent.shut ≡ false →
    count ≡ min (length bytes) (room_of window (left + 1 - lead k) k.sent) →
    beside_looks (after_write (take count bytes) k) ≤ beside_looks k + left
write_most window left count bytes k unshut is =
    let room = room_of window (left + 1 - lead k) k.sent in
    beside_write window left (take count bytes) k unshut
    (subst (λ n. n ≤ room) (sym (length-take count bytes)) (within count (length bytes) room is))

-- a stream that isn't empty opens no piece where it is shut
no_more : (n : ℕ) (shut : Bool) → 0 < n → pieces_by n true ≡ pieces_by n shut
no_more n true some = refl
no_more n false some = (let one : 1 ≤ opened n = omega (arith, some) in omega (arith, one))

-- where nothing was said it holds no piece, and so no lead where no packet stands without a gap
pub shut_leadless : (pool : Slots) (c : EndOfCall) (k : CallLooks) → StandsCall pool c k → holds_lead c ≡ has_lead k →
    c.sent.shut ≡ false → (c.sent.total ≡ 0 → has_unread c.received ≡ false) → c.sent.total ≡ 0 → holds_lead c ≡ false
shut_leadless pool c k st lead unshut unread none =
    let front : nat_lt (used_of k.received) (front_of k.received.kept) ≡ false =
    sym (unread_is pool c k st) ∙ unread none in
    let pieces : nat_lt 0 (held_pieces k.sent) ≡ false =
    (λ i. nat_lt 0 (pieces_by ((sym st.sent.total ∙ none) i) ((sym st.sent.shut ∙ unshut) i) - k.sent.acked))
    ∙ no_pieces k.sent.acked in
    lead ∙ (λ i. front i || pieces i)
  where
    no_pieces : (acked : ℕ) → nat_lt 0 (pieces_by 0 false - acked) ≡ false
    no_pieces acked = grind (arith, nat_tests)

-- the same of a call that is there
pub slot_of : (e : EndsState) (key : ℕ) (c : EndOfCall) → KeepsSlots e → call_under e.calls key ≡ Some c →
    ((pool : Slots) (k : CallLooks) → StandsCall pool c k → holds_lead c ≡ has_lead k) → IsUnshut e key →
    HasShutSlot e key → c.sent.total ≡ 0 → holds_lead c ≡ false
slot_of e key c inv there lead unshut slot =
    let st = inv.stands key c there in
    shut_leadless e.pool c (inv.looks key) st (lead e.pool (inv.looks key) st)
    (of_some_and _ (λ (d : EndOfCall). d.sent.shut ≡ false) c there unshut)
    (of_some_and _ (λ (d : EndOfCall). d.sent.total ≡ 0 → has_unread d.received ≡ false) c there slot)

-- the slots beside its lead of a call with so many pieces
abbrev beside_by : CallLooks → ℕ → ℕ
beside_by k n =
    (count_above (used_of k.received) k.received.kept + n)
    - (if nat_lt (used_of k.received) (front_of k.received.kept) || nat_lt 0 n then 1 else 0)

-- where nothing was said, it holds no lead
pub shut_most : (pool : Slots) (c : EndOfCall) (k : CallLooks) → StandsCall pool c k →
    (c.sent.total ≡ 0 → holds_lead c ≡ false) → beside_looks (after_shut k) ≤ beside_looks k
shut_most pool c k st free =
    elim (cases_eq c.sent.total 0) as (λ _. beside_looks (after_shut k) ≤ beside_looks k) [
      | inl none ↦ (
          let unread : has_unread c.received ≡ false = (
          neither (has_unread c.received) (nat_lt 0 (length (piece_slots c.sent))) (free none)).0 in
          let front = sym (unread_is pool c k st) ∙ unread in
          beside_shut k (done (used_of k.received) (front_of k.received.kept) front))
      | inr some ↦ (
          let same = no_more (length k.sent.said) k.sent.shut (omega (arith, some, st.sent.total)) in
          let pieces : held_pieces (after_shut k).sent ≡ held_pieces k.sent = ap (λ n. n - k.sent.acked) same in
          subst (λ n. beside_by k n ≤ beside_looks k) (sym pieces) (omega arith))
    ]
  where
    done : (used front : ℕ) → nat_lt used front ≡ false → front ≤ used
    done used front not = grind (arith, nat_tests)

-- ---- a giving

-- it takes and frees none
pub given_same : (now : ℕ) (sending : Option Sending) (k : CallLooks) →
    beside_looks (after_given now sending k) ≡ beside_looks k
given_same now None k = refl
given_same now (Some (items.Piece seq again)) k = refl
given_same now (Some (items.Ack reason serial)) k = refl

pub received_same : (now : ℕ) (sending : Option Sending) (k : CallLooks)
    → (after_given now sending k).received ≡ k.received
received_same now None k = refl
received_same now (Some (items.Piece seq again)) k = refl
received_same now (Some (items.Ack reason serial)) k = refl

-- a call that holds the slots that it held, and received what it received
pub poll_beside : (pool : Slots) (c d : EndOfCall) (now : ℕ) (sending : Option Sending) (k : CallLooks) →
    StandsCall pool c k → StandsCall pool d (after_given now sending k) → slots_of d ≡ slots_of c →
    beside_of d ≡ beside_of c
poll_beside pool c d now sending k st after same =
    let received = received_same now sending k in
    let unread : has_unread d.received ≡ has_unread c.received = (
    unread_is pool d (after_given now sending k) after
    ∙ ap (λ (r : Received). nat_lt (used_of r) (front_of r.kept)) received ∙ sym (unread_is pool c k st)) in
    let packets : length (packet_slots d.received) ≡ length (packet_slots c.received) = (
    packets_are pool d (after_given now sending k) after
    ∙ ap (λ (r : Received). count_above (used_of r) r.kept) received ∙ sym (packets_are pool c k st)) in
    let all = ap length same in
    let old = length-append (packet_slots c.received) (piece_slots c.sent) in
    let new = length-append (packet_slots d.received) (piece_slots d.sent) in
    let pieces : length (piece_slots d.sent) ≡ length (piece_slots c.sent) = omega (arith, packets, all, old, new) in
    let leads : holds_lead d ≡ holds_lead c = (λ i. unread i || nat_lt 0 (pieces i)) in
    (λ i. all i - cond (leads i) 1 0)

-- ---- shutting

-- a call where nothing was said has a free slot
pub shut_free : (pool : Slots) (c : EndOfCall) (left : ℕ) → HasSpare pool c left →
    (c.sent.total ≡ 0 → holds_lead c ≡ false) → c.sent.total ≡ 0 → 0 < length pool.free
shut_free pool c left spare slot none =
    let one : leadless c ≡ 1 = ap (λ b. cond b 0 1) (slot none) in
    omega (arith, spare, one)
