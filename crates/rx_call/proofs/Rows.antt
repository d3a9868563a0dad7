-- The row of a message, and what it makes of the call.
use Rattle.std.proofs.Common.{◌≡◌, ◌∙◌, ◌+◌, ◌==◌, ◌&&◌, ◌||◌, not, cond, nat_lt, Bool, true, false, ℕ, List, refl, sym}
use Rattle.std.proofs.Common.{ap, subst}
use Rattle.rx_model.specs.declared.answers.Took.{Took}
use Rattle.rx_model.specs.declared.answers.Took.TheVariants as tooks
use Rattle.rx_model.specs.Body as bodies
use Rattle.rx_packet.specs.declared.head.Head.{Head}
use Rattle.rx_packet.specs.Seen.{message_with_head}
use Rattle.rx_rules.specs.CallLooks.{CallLooks, NodeView, after_taken, after_data, after_ack, found, freed, arrival}
use Rattle.rx_rules.specs.CallLooks.{has_lead}
use Rattle.rx_rules.specs.Received.{Packet, Arrival, arrival_row, arrival_of, front_of, is_no_seq}
use Rattle.rx_rules.specs.Sent.{is_all_given}
use Rattle.rx_call.specs.Standing.{data_row, heard_or_same}

pub or_left : (a b : Bool) → (a || b) ≡ false → a ≡ false
or_left true b e = e
or_left false b e = refl

-- data that isn't strange
pub chunk_row : (client : Bool) (window left common : ℕ) (p : Packet) (k : CallLooks) → is_no_seq p.seq ≡ false →
    (is_no_seq p.seq || (client && not (is_all_given k.sent))) ≡ false →
    nat_lt 0 left ≡ nat_lt 0 (common + freed client k) →
    data_row window left p (found client k) ≡ arrival_row
    (arrival client window (common + freed client k) p (found client k))
chunk_row true window left common p k seq plain some =
    let f = found true k in
    λ i. arrival_row (record (arrival_of window
    ((not (has_lead f) && (p.seq == front_of f.received.kept + 1)) || some i) p f.received)
    { is_strange = (seq ∙ sym plain) i })
chunk_row false window left common p k seq plain some =
    let f = found false k in
    λ i. arrival_row (record (arrival_of window
    ((not (has_lead f) && (p.seq == front_of f.received.kept + 1)) || some i) p f.received)
    { is_strange = (seq ∙ sym plain) i })

-- the rows behind Strange
abbrev pub row : Arrival → Took
row a = cond a.is_repeat tooks.Repeat (cond a.is_beyond tooks.Beyond (cond a.is_clash tooks.Clash
    (cond a.has_slot tooks.Kept tooks.NoSlot)))

row_taken : (v : NodeView) (h : Head) (payload : List ℕ) (k : CallLooks) (r b c s : Bool) →
    let got = cond r tooks.Repeat (cond b tooks.Beyond (cond c tooks.Clash (cond s tooks.Kept tooks.NoSlot))) in
    after_data got v.now (message_with_head h (bodies.Chunk payload)) payload (found v.client k)
    ≡ after_taken v got (message_with_head h (bodies.Chunk payload)) k
row_taken v h payload k true b c s = refl
row_taken v h payload k false true c s = refl
row_taken v h payload k false false true s = refl
row_taken v h payload k false false false true = refl
row_taken v h payload k false false false false = refl

-- what is made of data with its row
pub data_taken : (v : NodeView) (h : Head) (payload : List ℕ) (k : CallLooks) (got : Took) (a : Arrival) →
    a.is_strange ≡ false → got ≡ arrival_row a →
    after_data got v.now (message_with_head h (bodies.Chunk payload)) payload (found v.client k)
    ≡ after_taken v got (message_with_head h (bodies.Chunk payload)) k
data_taken v h payload k got a plain is =
    let m = message_with_head h (bodies.Chunk payload) in
    let behind = is ∙ ap (λ t. cond t tooks.Strange (row a)) plain in
    subst (λ (t : Took). after_data t v.now m payload (found v.client k) ≡ after_taken v t m k) (sym behind)
    (row_taken v h payload k a.is_repeat a.is_beyond a.is_clash a.has_slot)

-- what is made of an acknowledgement with its answer
pub ack_taken : (v : NodeView) (h : Head) (a : bodies.AckBody) (k : CallLooks) (strange : Bool) (got : Took) →
    got ≡ cond strange tooks.Strange tooks.Heard →
    heard_or_same strange (record (after_ack v.now (message_with_head h (bodies.Ack a)) a k) { heard = v.now }) k
    ≡ after_taken v got (message_with_head h (bodies.Ack a)) k
ack_taken v h a k true got is = ap (λ (t : Took). after_taken v t (message_with_head h (bodies.Ack a)) k) (sym is)
ack_taken v h a k false got is = ap (λ (t : Took). after_taken v t (message_with_head h (bodies.Ack a)) k) (sym is)
