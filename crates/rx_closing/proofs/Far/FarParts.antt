-- Each part of how far an end of a call is only grows, with each step of the end.
use Rattle.std.proofs.Common.{◌≡◌, ◌≤◌, ◌+◌, ◌-◌, ◌==◌, ◌++◌, not, if◌then◌else◌, nat_lt, is_some, ℕ, zero, suc, Bool}
use Rattle.std.proofs.Common.{true, false, List, length, refl, ap, sym, subst, arith, length-append}
use Rattle.std.proofs.lemmas.Bool.{and_parts, or_parts, eqb-true}
use Rattle.rx_model.specs.declared.answers.Took.{Took}
use Rattle.rx_model.specs.declared.answers.Took.TheVariants as tooks
use Rattle.rx_model.specs.declared.event.Event.{Event}
use Rattle.rx_model.specs.declared.names.CallName.{CallName}
use Rattle.rx_model.specs.Body.{AckBody, Body}
use Rattle.rx_model.specs.Body as bodies
use Rattle.rx_model.specs.Message.{Message}
use Rattle.rx_rules.specs.After.{is_end}
use Rattle.rx_rules.specs.CallItems.{Sending, Piece, Ack, after_sending}
use Rattle.rx_rules.specs.CallLooks.{CallLooks, NodeView, after_body, after_chunk, after_read, after_shut, after_taken}
use Rattle.rx_rules.specs.CallLooks.{after_write, arrival, call_row, found, freed, packet_of}
use Rattle.rx_rules.specs.Looks.{Looks}
use Rattle.rx_rules.specs.Received.{Arrival, Packet, Received, after_packet, arrival_row, front_of, greatest, is_no_seq}
use Rattle.rx_rules.specs.Received.{packet_at, used_of}
use Rattle.rx_rules.specs.Sent.{Sent, after_ack, given_of, is_all_given, is_marked, is_strange_ack, pieces_by}
use Rattle.rx_rules.specs.Sent.{pieces_of, with_window}
use Rattle.rx_rules.specs.Setup.{Setup}
use Rattle.rx_rules.proofs.PacketLaws.{kept_within}
use Rattle.rx_history.proofs.Calls.{body-ends, found-ends}
use Rattle.rx_history.proofs.Ends.{Ends, ends_in}
use Rattle.rx_between.proofs.Counting.{reach_least, reach_passes}
use Rattle.rx_between.proofs.Each.EachStep.{EndStep, finishes, gives, reads, shuts, stays, takes, writes}
use Rattle.rx_between.proofs.GivenSeqs.{step_given}
use Rattle.rx_between.proofs.Grows.{row_new, step_grows}
use Rattle.rx_between.proofs.Marks.{packet-more}
use Rattle.rx_closing.proofs.Ends.TurnLaws.{flag_rises, pieces_rise, pieces_shut}
use Rattle.rx_closing.proofs.Frame.{flag}
use Rattle.rx_closing.proofs.Room.HeldLow.{below_by}
use Rattle.rx_history.proofs.Rows.RowsAborting.{not_false}
use Rattle.rx_closing.proofs.Ends.EndFacts.{NotStrange}

-- ---- what is to be shown

-- each part of what passed at an end is no less
pub record Advances (a b : CallLooks) : Type 0 where
  pub pieces : pieces_of a.sent ≤ pieces_of b.sent
  pub given : given_of a.sent ≤ given_of b.sent
  pub acked : a.sent.acked ≤ b.sent.acked
  pub front : front_of a.received.kept ≤ front_of b.received.kept
  pub used : used_of a.received ≤ used_of b.received
  pub shut : flag a.sent.shut ≤ flag b.sent.shut
  pub ended : flag a.received.ended ≤ flag b.received.ended

-- each packet that was kept is kept as it was
abbrev pub StayKept : Received → Received → Type 0
StayKept a b = (k : ℕ) → is_some (packet_at a.kept k) ≡ true → packet_at b.kept k ≡ packet_at a.kept k

-- ---- what is acknowledged

-- more is acknowledged, and of that no more than was given
pub record Acks (a b : Sent) : Type 0 where
  pub rises : a.acked ≤ b.acked
  pub within : b.acked ≤ given_of b

acks_same : (a b : Sent) → b.acked ≡ a.acked → given_of a ≤ given_of b → a.acked ≤ given_of a → Acks a b
acks_same a b same more low = record { rises = omega (arith, same); within = omega (arith, same, more, low) }

-- all is acknowledged, where all was given
acks_all : (s : Sent) → is_all_given s ≡ true → s.acked ≤ given_of s → Acks s (record s { acked = pieces_of s })
acks_all s all low =
    let parts = and_parts s.shut (given_of s == pieces_of s) all in
    let same : given_of s ≡ pieces_of s = eqb-true (given_of s) (pieces_of s) parts.1 in
    record { rises = omega (arith, same, low); within = omega (arith, same) }

acks_found : (client : Bool) (k : CallLooks) → (client ≡ true → is_all_given k.sent ≡ true)
    → k.sent.acked ≤ given_of k.sent → Acks k.sent (found client k).sent
acks_found true k all low = acks_all k.sent (all refl) low
acks_found false k all low = acks_same k.sent k.sent refl (omega arith) low

acks_ack : (a : AckBody) (s : Sent) → is_strange_ack a.first a.marks s ≡ false → s.acked ≤ given_of s
    → Acks s (after_ack a.first a.marks a.window s)
acks_ack a s sense low = of (nat_lt (a.first - 1) s.acked) refl
  where
    given : a.first - 1 ≤ given_of s
    given =
        (let parts = or_parts (a.first == 0) _ sense in
        let rest = or_parts (nat_lt (given_of s) (a.first - 1)) _ parts.1 in
        below_by (given_of s) (a.first - 1) rest.0)

    of : (b : Bool) → nat_lt (a.first - 1) s.acked ≡ b → Acks s (if b then s else record s {
      acked = a.first - 1;
      soft = is_marked a.first a.marks;
      peer_window = with_window a.window s.peer_window;
    })
    of true below = acks_same s s refl (omega arith) low
    of false above = record { rises = below_by (a.first - 1) s.acked above; within = given }

-- ---- a message

strange_rows : (b : Bool) → (if b then tooks.Strange else tooks.Heard) ≡ tooks.Heard → b ≡ false
strange_rows true is = absurd cc
strange_rows false is = refl

other_rows : (b : Bool) → (if b then tooks.Heard else tooks.Strange) ≡ tooks.Heard → b ≡ true
other_rows true is = refl
other_rows false is = absurd cc

not_strange : (a : Arrival) (got : Took) → arrival_row a ≡ got → NotStrange got → a.is_strange ≡ false
not_strange a got row judged = of a.is_strange refl row
  where
    of : (b : Bool) → a.is_strange ≡ b
        → (if b then tooks.Strange else if a.is_repeat then tooks.Repeat else if a.is_beyond then tooks.Beyond
        else if a.is_clash then tooks.Clash else if a.has_slot then tooks.Kept else tooks.NoSlot) ≡ got
        → a.is_strange ≡ false
    of true is row = absurd (subst NotStrange (sym row) judged)
    of false is row = is

-- data comes to a client only where its request was all given
data_all : (client : Bool) (window left : ℕ) (p : Packet) (k : CallLooks) (got : Took)
    → arrival_row (arrival client window left p (found client k)) ≡ got → NotStrange got → client ≡ true
    → is_all_given k.sent ≡ true
data_all true window left p k got row judged client =
    let strange = not_strange (arrival true window left p (found true k)) got row judged in
    let parts = or_parts (is_no_seq p.seq) (not (is_all_given k.sent)) strange in
    not_false (is_all_given k.sent) parts.1
data_all false window left p k got row judged client = absurd cc

chunk_acks : (v : NodeView) (got : Took) (m : Message) (body : Body) (k : CallLooks) → call_row v m body k ≡ got
    → NotStrange got → k.sent.acked ≤ given_of k.sent → Acks k.sent (after_chunk v got m body k).sent
chunk_acks v got m (bodies.Chunk payload) k row judged low =
    acks_found v.client k
    (data_all v.client v.window (v.left + freed v.client k) (packet_of m payload) k got row judged) low
chunk_acks v got m _ k row judged low = acks_same k.sent k.sent refl (omega arith) low

body_acks : (v : NodeView) (m : Message) (body : Body) (k : CallLooks) → call_row v m body k ≡ tooks.Heard
    → k.sent.acked ≤ given_of k.sent → Acks k.sent (after_body v.now m body k).sent
body_acks v m (bodies.Ack a) k row low =
    acks_ack a k.sent (strange_rows (is_strange_ack a.first a.marks k.sent) row) low
body_acks v m bodies.AckAll k row low = acks_all k.sent (other_rows (is_all_given k.sent) row) low
body_acks v m _ k row low = acks_same k.sent k.sent refl (omega arith) low

taken_acks : (v : NodeView) (got : Took) (m : Message) (k : CallLooks) → call_row v m m.body k ≡ got
    → k.sent.acked ≤ given_of k.sent → Acks k.sent (after_taken v got m k).sent
taken_acks v tooks.Kept m k row low = chunk_acks v tooks.Kept m m.body k row tt low
taken_acks v tooks.Repeat m k row low = chunk_acks v tooks.Repeat m m.body k row tt low
taken_acks v tooks.Beyond m k row low = chunk_acks v tooks.Beyond m m.body k row tt low
taken_acks v tooks.Clash m k row low = chunk_acks v tooks.Clash m m.body k row tt low
taken_acks v tooks.NoSlot m k row low = chunk_acks v tooks.NoSlot m m.body k row tt low
taken_acks v tooks.Heard m k row low = body_acks v m m.body k row low
taken_acks v _ m k row low = acks_same k.sent k.sent refl (omega arith) low

-- ---- a step, of what is acknowledged

sending_acks : (now : ℕ) (x : Sending) (k : CallLooks) → k.sent.acked ≤ given_of k.sent
    → Acks k.sent (after_sending now x k).sent
sending_acks now (Piece seq again) k low =
    acks_same k.sent (after_sending now (Piece seq again) k).sent refl (omega arith) low
sending_acks now (Ack reason serial) k low = acks_same k.sent k.sent refl (omega arith) low

acks_to : (a b c : CallLooks) → c ≡ b → Acks a.sent b.sent → Acks a.sent c.sent
acks_to a b c is acks = subst (λ (k : CallLooks). Acks a.sent k.sent) (sym is) acks

-- by each step of an end
pub step_acks : (s : Setup) (l : Looks) (e : Event) (c : CallName) (a b : CallLooks) → EndStep s l e c a b
    → a.sent.acked ≤ given_of a.sent → Acks a.sent b.sent
step_acks s l e c a b (stays is) low = acks_to a a b is (acks_same a.sent a.sent refl (omega arith) low)
step_acks s l e c a b (takes t) low =
    acks_to a (after_taken t.view t.got t.message a) b t.is (taken_acks t.view t.got t.message a t.row low)
step_acks s l e c a b (gives g) low =
    acks_to a (after_sending l.now g.sending a) b g.is (sending_acks l.now g.sending a low)
step_acks s l e c a b (writes offered got bytes event is) low =
    acks_to a (after_write bytes a) b is (acks_same a.sent (after_write bytes a).sent refl (omega arith) low)
step_acks s l e c a b (reads most got bytes event is) low =
    acks_to a (after_read l.now (is_end got) bytes a) b is (acks_same a.sent a.sent refl (omega arith) low)
step_acks s l e c a b (shuts event is) low =
    acks_to a (after_shut a) b is (acks_same a.sent (after_shut a).sent refl (omega arith) low)
step_acks s l e c a b (finishes code event none is) low =
    acks_to a (after_shut a) b is (acks_same a.sent (after_shut a).sent refl (omega arith) low)

-- ---- what was said

-- no less was said, and a stream that was shut stays so
record Says (a b : Sent) : Type 0 where
  pieces : pieces_of a ≤ pieces_of b
  shut : flag a.shut ≤ flag b.shut

flag_low : (b : Bool) → flag b ≤ flag true
flag_low true = omega arith
flag_low false = omega arith

says_same : (a b : Sent) → b.said ≡ a.said → b.shut ≡ a.shut → Says a b
says_same a b said shut =
    (let pieces : pieces_of b ≡ pieces_of a = λ i. pieces_by (length (said i)) (shut i) in
    let same : flag b.shut ≡ flag a.shut = ap flag shut in
    record { pieces = omega (arith, pieces); shut = omega (arith, same) })

says_ends : (a b : CallLooks) → ends_in b ≡ ends_in a → Says a.sent b.sent
says_ends a b same =
    says_same a.sent b.sent (ap (λ (x : Ends). x.said) same) (ap (λ (x : Ends). x.shut) same)

chunk_says : (v : NodeView) (got : Took) (m : Message) (body : Body) (k : CallLooks)
    → Says k.sent (after_chunk v got m body k).sent
chunk_says v got m (bodies.Chunk payload) k = says_ends k (found v.client k) (found-ends v.client k)
chunk_says v got m _ k = says_same k.sent k.sent refl refl

taken_says : (v : NodeView) (got : Took) (m : Message) (k : CallLooks) → Says k.sent (after_taken v got m k).sent
taken_says v tooks.Kept m k = chunk_says v tooks.Kept m m.body k
taken_says v tooks.Repeat m k = chunk_says v tooks.Repeat m m.body k
taken_says v tooks.Beyond m k = chunk_says v tooks.Beyond m m.body k
taken_says v tooks.Clash m k = chunk_says v tooks.Clash m m.body k
taken_says v tooks.NoSlot m k = chunk_says v tooks.NoSlot m m.body k
taken_says v tooks.Heard m k = says_ends k (after_body v.now m m.body k) (body-ends v.now m m.body k)
taken_says v _ m k = says_same k.sent k.sent refl refl

sending_says : (now : ℕ) (x : Sending) (k : CallLooks) → Says k.sent (after_sending now x k).sent
sending_says now (Piece seq again) k = says_same k.sent (after_sending now (Piece seq again) k).sent refl refl
sending_says now (Ack reason serial) k = says_same k.sent k.sent refl refl

says_to : (a b c : CallLooks) → c ≡ b → Says a.sent b.sent → Says a.sent c.sent
says_to a b c is says = subst (λ (k : CallLooks). Says a.sent k.sent) (sym is) says

write_says : (bytes : List ℕ) (k : CallLooks) → Says k.sent (after_write bytes k).sent
write_says bytes k =
    record {
      pieces = pieces_rise (length k.sent.said) (length (k.sent.said ++ bytes)) k.sent.shut
          (let more = length-append k.sent.said bytes in omega arith);
      shut = omega arith;
    }

shut_says : (k : CallLooks) → Says k.sent (after_shut k).sent
shut_says k = record { pieces = pieces_shut (length k.sent.said) k.sent.shut; shut = flag_low k.sent.shut }

step_says : (s : Setup) (l : Looks) (e : Event) (c : CallName) (a b : CallLooks) → EndStep s l e c a b
    → Says a.sent b.sent
step_says s l e c a b (stays is) = says_to a a b is (says_same a.sent a.sent refl refl)
step_says s l e c a b (takes t) =
    says_to a (after_taken t.view t.got t.message a) b t.is (taken_says t.view t.got t.message a)
step_says s l e c a b (gives g) =
    says_to a (after_sending l.now g.sending a) b g.is (sending_says l.now g.sending a)
step_says s l e c a b (writes offered got bytes event is) =
    says_to a (after_write bytes a) b is (write_says bytes a)
step_says s l e c a b (reads most got bytes event is) =
    says_to a (after_read l.now (is_end got) bytes a) b is (says_same a.sent a.sent refl refl)
step_says s l e c a b (shuts event is) = says_to a (after_shut a) b is (shut_says a)
step_says s l e c a b (finishes code event none is) = says_to a (after_shut a) b is (shut_says a)

-- ---- what was received

-- where each packet that was kept is kept, the front is no lower
front_low : (a b : Received) → ((k : ℕ) → is_some (packet_at a.kept k) ≡ true → is_some (packet_at b.kept k) ≡ true)
    → front_of a.kept ≤ front_of b.kept
front_low a b kept =
    let front : ℕ = front_of a.kept in
    let there : (j : ℕ) → 1 ≤ j → j ≤ front → is_some (packet_at b.kept j) ≡ true =
    λ j low high. kept j (reach_passes (λ k. is_some (packet_at a.kept k)) (greatest a.kept) j low high) in
    reach_least (λ k. is_some (packet_at b.kept k)) (greatest b.kept) front (top front there) there
  where
    top : (n : ℕ) → ((j : ℕ) → 1 ≤ j → j ≤ n → is_some (packet_at b.kept j) ≡ true) → n ≤ greatest b.kept
    top zero there = omega arith
    top (suc n) there = kept_within b.kept (suc n) (there (suc n) (omega arith) (omega arith))

chunk_stays : (v : NodeView) (m : Message) (body : Body) (k : CallLooks)
    → ((payload : List ℕ) → is_some (packet_at k.received.kept m.seq) ≡ false)
    → StayKept k.received (after_chunk v tooks.Kept m body k).received
chunk_stays v m (bodies.Chunk payload) k new =
    λ j there. packet-more (packet_of m payload) k.received.kept j (new payload) there
chunk_stays v m _ k new = λ j there. refl

same_kept : (a b : Received) → b.kept ≡ a.kept → StayKept a b
same_kept a b same k there = ap (λ (ps : List Packet). packet_at ps k) same

other_kept : (v : NodeView) (got : Took) (m : Message) (body : Body) (k : CallLooks)
    → ((payload : List ℕ) → (after_packet got (packet_of m payload) k.received).kept ≡ k.received.kept)
    → StayKept k.received (after_chunk v got m body k).received
other_kept v got m (bodies.Chunk payload) k same =
    same_kept k.received (after_packet got (packet_of m payload) k.received) (same payload)
other_kept v got m _ k same = λ j there. refl

taken_stays : (v : NodeView) (got : Took) (m : Message) (k : CallLooks) → call_row v m m.body k ≡ got
    → StayKept k.received (after_taken v got m k).received
taken_stays v tooks.Kept m k row =
    (let n = row_new v m m.body k row in chunk_stays v m m.body k (λ payload. n.2.away))
taken_stays v tooks.Repeat m k row = other_kept v tooks.Repeat m m.body k (λ payload. refl)
taken_stays v tooks.Beyond m k row = other_kept v tooks.Beyond m m.body k (λ payload. refl)
taken_stays v tooks.Clash m k row = other_kept v tooks.Clash m m.body k (λ payload. refl)
taken_stays v tooks.NoSlot m k row = other_kept v tooks.NoSlot m m.body k (λ payload. refl)
taken_stays v tooks.Heard m k row =
    same_kept k.received (after_body v.now m m.body k).received
    (ap (λ (x : Ends). x.kept) (body-ends v.now m m.body k))
taken_stays v _ m k row = λ j there. refl

sending_stays : (now : ℕ) (x : Sending) (k : CallLooks) → StayKept k.received (after_sending now x k).received
sending_stays now (Piece seq again) k = λ j there. refl
sending_stays now (Ack reason serial) k = λ j there. refl

stays_to : (a b c : CallLooks) → c ≡ b → StayKept a.received b.received → StayKept a.received c.received
stays_to a b c is kept = subst (λ (k : CallLooks). StayKept a.received k.received) (sym is) kept

-- by each step of an end
pub step_stays : (s : Setup) (l : Looks) (e : Event) (c : CallName) (a b : CallLooks) → EndStep s l e c a b
    → StayKept a.received b.received
step_stays s l e c a b (stays is) = stays_to a a b is (λ j there. refl)
step_stays s l e c a b (takes t) =
    stays_to a (after_taken t.view t.got t.message a) b t.is (taken_stays t.view t.got t.message a t.row)
step_stays s l e c a b (gives g) =
    stays_to a (after_sending l.now g.sending a) b g.is (sending_stays l.now g.sending a)
step_stays s l e c a b (writes offered got bytes event is) = stays_to a (after_write bytes a) b is (λ j there. refl)
step_stays s l e c a b (reads most got bytes event is) =
    stays_to a (after_read l.now (is_end got) bytes a) b is (λ j there. refl)
step_stays s l e c a b (shuts event is) = stays_to a (after_shut a) b is (λ j there. refl)
step_stays s l e c a b (finishes code event none is) = stays_to a (after_shut a) b is (λ j there. refl)

-- ---- all parts

-- by each step of an end
pub step_advances : (s : Setup) (l : Looks) (e : Event) (c : CallName) (a b : CallLooks) → EndStep s l e c a b
    → a.sent.acked ≤ given_of a.sent → Advances a b
step_advances s l e c a b step low =
    let says = step_says s l e c a b step in
    let grows = step_grows s l e c a b step in
    record {
      pieces = says.pieces;
      given = step_given s l e c a b step;
      acked = (step_acks s l e c a b step low).rises;
      front = front_low a.received b.received grows.kept;
      used = grows.used;
      shut = says.shut;
      ended = flag_rises a.received.ended b.received.ended grows.ended;
    }
