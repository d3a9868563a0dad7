-- A stream that was read to its end is whole, at every moment: all its packets are there and done with. So no fewer are
-- done with than the stream has pieces.
use Rattle.std.proofs.Common.{◌≡◌, ◌⊎◌, ◌≤◌, ◌*◌, ◌||◌, ℕ, zero, suc, cond, Bool, true, false}
use Rattle.std.proofs.Common.{List, [], ◌∷◌, length, Some, refl, ap, sym, subst, ◌∙◌, inl, inr, arith}
use Rattle.std.proofs.lemmas.Bool.Decides.{nat_tests}
use Rattle.rx_model.specs.declared.answers.Took.{Took}
use Rattle.rx_model.specs.declared.answers.Took.TheVariants as tooks
use Rattle.rx_model.specs.declared.event.Event.{Event}
use Rattle.rx_model.specs.declared.names.CallName.{CallName}
use Rattle.rx_model.specs.Body.{Body}
use Rattle.rx_model.specs.Body as bodies
use Rattle.rx_model.specs.Message.{Message}
use Rattle.rx_rules.specs.After.{is_end}
use Rattle.rx_rules.specs.CallItems.{Sending, Piece, Ack, after_sending}
use Rattle.rx_rules.specs.CallLooks.{CallLooks, NodeView, after_body, after_chunk, after_taken, call_row, packet_of}
use Rattle.rx_rules.specs.Looks.{Looks}
use Rattle.rx_rules.specs.Received.{Packet, Received, after_packet, after_read, front_of, is_complete, is_within}
use Rattle.rx_rules.specs.Received.{last_seq}
use Rattle.rx_rules.specs.Received.{unread_of, used_of}
use Rattle.rx_rules.specs.Received as packets
use Rattle.rx_rules.specs.Sent.{pieces_by}
use Rattle.rx_rules.specs.Setup.{Setup}
use Rattle.rx_history.proofs.Ends.{Ends}
use Rattle.rx_law.proofs.Carries.{Carries}
use Rattle.rx_law.proofs.Fronts.{ArePieces}
use Rattle.rx_history.proofs.Laws.WholeLaws.{Whole, end_reads, whole_keeps, whole_reads}
use Rattle.rx_law.specs.Pieces.{IsAt}
use Rattle.rx_between.proofs.Each.EachStep.{EndStep, finishes, gives, reads, shuts, stays, takes, writes}
use Rattle.rx_between.proofs.Grows.{IsNew, row_new}

-- where a read answered End
abbrev pub EndsWhole : Received → Type 0
EndsWhole r = r.ended ≡ true → Whole r

-- a read answers End only of a stream that is read out, and whose last packet stands without a gap
abbrev pub MayEnd : Received → Received → Type 0
MayEnd before behind =
    behind.ended ≡ true
    → (before.ended ≡ true) ⊎ ((unread_of before ≡ []) × (is_complete before ≡ true))

-- ---- a message

same-whole : (r : Received) (seq : ℕ) → EndsWhole r → EndsWhole (record r { previous = seq })
same-whole r seq whole ended = (let w = whole ended in record { complete = w.complete; used = w.used })

packet-whole : (got : Took) (p : Packet) (r : Received) → (got ≡ tooks.Kept → IsNew p r) → EndsWhole r
    → EndsWhole (after_packet got p r)
packet-whole tooks.Kept p r new whole = λ ended.
    (let n = new refl in
    absurd (whole_keeps p r (whole ended) n.above n.away n.below))
packet-whole tooks.Repeat p r new whole = same-whole r p.seq whole
packet-whole tooks.Beyond p r new whole = same-whole r p.seq whole
packet-whole tooks.NoSlot p r new whole = same-whole r p.seq whole
packet-whole _ p r new whole = whole

chunk-whole : (v : NodeView) (got : Took) (m : Message) (body : Body) (k : CallLooks)
    → ((payload : List ℕ) → body ≡ bodies.Chunk payload → got ≡ tooks.Kept → IsNew (packet_of m payload) k.received)
    → EndsWhole k.received → EndsWhole (after_chunk v got m body k).received
chunk-whole v got m (bodies.Chunk payload) k new whole =
    packet-whole got (packet_of m payload) k.received (λ is. new payload refl is) whole
chunk-whole v got m _ k new whole = whole

body-whole : (now : ℕ) (m : Message) (body : Body) (k : CallLooks) → EndsWhole k.received
    → EndsWhole (after_body now m body k).received
body-whole now m (bodies.Ack a) k whole = whole
body-whole now m bodies.AckAll k whole = whole
body-whole now m _ k whole = whole

same_payload : (a b : List ℕ) → bodies.Chunk a ≡ bodies.Chunk b → a ≡ b
same_payload a b is = cc

taken-whole : (v : NodeView) (got : Took) (m : Message) (k : CallLooks) → call_row v m m.body k ≡ got
    → EndsWhole k.received → EndsWhole (after_taken v got m k).received
taken-whole v tooks.Kept m k row whole =
    chunk-whole v tooks.Kept m m.body k
    (λ payload is kept.
    let n = row_new v m m.body k row in
    subst (λ (xs : List ℕ). IsNew (packet_of m xs) k.received) (same_payload n.0 payload (sym n.1 ∙ is)) n.2) whole
taken-whole v tooks.Repeat m k row whole = chunk-whole v tooks.Repeat m m.body k (λ payload is kept. absurd (cc (kept)))
    whole
taken-whole v tooks.Beyond m k row whole = chunk-whole v tooks.Beyond m m.body k (λ payload is kept. absurd (cc (kept)))
    whole
taken-whole v tooks.Clash m k row whole = chunk-whole v tooks.Clash m m.body k (λ payload is kept. absurd (cc (kept)))
    whole
taken-whole v tooks.NoSlot m k row whole = chunk-whole v tooks.NoSlot m m.body k (λ payload is kept. absurd (cc (kept)))
    whole
taken-whole v tooks.Heard m k row whole = body-whole v.now m m.body k whole
taken-whole v _ m k row whole = whole

sending-whole : (now : ℕ) (x : Sending) (k : CallLooks) → EndsWhole k.received
    → EndsWhole (after_sending now x k).received
sending-whole now (Piece seq again) k whole = whole
sending-whole now (Ack reason serial) k whole = whole

-- ---- a read

read-whole : (end : Bool) (bytes : List ℕ) (r : Received)
    → (r.ended ≡ true) ⊎ ((unread_of r ≡ []) × (is_complete r ≡ true)) → (end || r.ended) ≡ true → EndsWhole r
    → Whole (after_read end bytes r)
read-whole end bytes r (inl before) ended whole = whole_reads end bytes r (whole before)
read-whole true bytes r (inr now) ended whole = end_reads bytes r now.0 now.1
read-whole false bytes r (inr now) ended whole = whole_reads false bytes r (whole ended)

-- ---- any step

whole-to : (b c : CallLooks) → c ≡ b → EndsWhole b.received → EndsWhole c.received
whole-to b c is whole = subst (λ (k : CallLooks). EndsWhole k.received) (sym is) whole

-- by each step of an end it stays so
pub step_whole : (s : Setup) (l : Looks) (e : Event) (c : CallName) (a b : CallLooks) → EndStep s l e c a b
    → MayEnd a.received b.received → EndsWhole a.received → EndsWhole b.received
step_whole s l e c a b (stays is) may whole = whole-to a b is whole
step_whole s l e c a b (takes t) may whole =
    whole-to (after_taken t.view t.got t.message a) b t.is (taken-whole t.view t.got t.message a t.row whole)
step_whole s l e c a b (gives g) may whole =
    whole-to (after_sending l.now g.sending a) b g.is (sending-whole l.now g.sending a whole)
step_whole s l e c a b (writes offered got bytes event is) may whole = whole-to _ b is whole
step_whole s l e c a b (reads most got bytes event is) may whole =
    whole-to _ b is
    (λ ended.
    read-whole (is_end got) bytes a.received (may (ap (λ (k : CallLooks). k.received.ended) is ∙ ended)) ended whole)
step_whole s l e c a b (shuts event is) may whole = whole-to _ b is whole
step_whole s l e c a b (finishes code event zero' is) may whole = whole-to _ b is whole

-- ---- how many pieces that are

at-some : (bytes : List ℕ) (shut : Bool) (seq : ℕ) (p : packets.Piece) → IsAt bytes shut seq p → p.last ≡ true
    → (1 ≤ seq) × (shut ≡ true) × (length bytes ≤ 1412 * seq)
at-some bytes shut zero p at last = absurd at
at-some bytes shut (suc j) p at last = (let d = at.done last in (omega arith, d.0, (let long = d.1 in omega arith)))

last-some : (bytes : List ℕ) (shut : Bool) (ps : List Packet) (front : ℕ) → ArePieces bytes shut ps
    → is_within (last_seq ps) front ≡ true → (1 ≤ front) × (shut ≡ true) × (length bytes ≤ 1412 * front)
last-some bytes shut [] front are within = absurd cc
last-some bytes shut (p ∷ ps) front are within =
    (elim p.piece.last as (λ b. p.piece.last ≡ b → is_within (cond b (Some p.seq) (last_seq ps)) front ≡ true
    → (1 ≤ front) × (shut ≡ true) × (length bytes ≤ 1412 * front)) [
      | true ↦ λ last low. (
          let under : p.seq ≤ front = grind (arith, nat_tests) in
          let d = at-some bytes shut p.seq p.piece are.0 last in
          let some = d.0 in
          let long = d.2 in
          (omega arith, d.1, omega arith))
      | false ↦ λ goes low. last-some bytes shut ps front are.1 low
    ]) refl within

few-pieces : (n front : ℕ) → 1 ≤ front → n ≤ 1412 * front → pieces_by n true ≤ front
few-pieces n front some long = omega arith

-- a receiver that read a stream to its end is done with all its pieces
pub whole_used : (bytes : List ℕ) (shut : Bool) (x : Ends) (r : Received) → Carries bytes shut x → x.kept ≡ r.kept
    → Whole r → pieces_by (length bytes) shut ≤ used_of r
whole_used bytes shut x r carries same w =
    let are : ArePieces bytes shut r.kept = subst (λ (ps : List Packet). ArePieces bytes shut ps) same carries.pieces in
    let d = last-some bytes shut r.kept (front_of r.kept) are w.complete in
    let few : pieces_by (length bytes) true ≤ front_of r.kept =
    few-pieces (length bytes) (front_of r.kept) d.0 d.2 in
    let all = w.used in
    let is : pieces_by (length bytes) shut ≡ pieces_by (length bytes) true =
    ap (λ (b : Bool). pieces_by (length bytes) b) d.1 in
    omega arith
