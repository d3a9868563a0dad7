-- What was received at one end of a call only grows: with each step of the end.
use Rattle.std.proofs.Common.{◌≡◌, ◌<◌, ◌≤◌, ℕ, if◌then◌else◌, Bool, true, false, List, Option, refl, ap, sym, subst}
use Rattle.std.proofs.Common.{◌∙◌, ◌+◌, ◌||◌, arith, is_some, nat_le}
use Rattle.rx_model.specs.declared.answers.Took.{Took}
use Rattle.rx_model.specs.declared.answers.Took.TheVariants as tooks
use Rattle.rx_model.specs.declared.event.Event.{Event}
use Rattle.rx_model.specs.declared.names.CallName.{CallName}
use Rattle.rx_model.specs.Body.{Body}
use Rattle.rx_model.specs.Body as bodies
use Rattle.rx_model.specs.Message.{Message}
use Rattle.rx_model.proofs.NameLaws.{neither}
use Rattle.rx_rules.specs.CallItems.{Sending, Piece, Ack, after_sending}
use Rattle.rx_rules.specs.CallLooks.{CallLooks, NodeView, after_body, after_chunk, after_taken, arrival, call_row}
use Rattle.rx_rules.specs.CallLooks.{found}
use Rattle.rx_rules.specs.CallLooks.{freed, packet_of}
use Rattle.rx_rules.specs.Looks.{Looks}
use Rattle.rx_rules.specs.Received.{Arrival, Packet, Received, after_packet, after_read, arrival_row, is_above}
use Rattle.rx_rules.specs.Received.{last_seq}
use Rattle.rx_rules.specs.Received.{packet_at, used_of}
use Rattle.rx_rules.specs.Received as packets
use Rattle.rx_rules.specs.Sent.{is_all_given, is_strange_ack}
use Rattle.rx_rules.specs.Setup.{Setup}
use Rattle.rx_history.proofs.Laws.UsedLaws.{used_reads}
use Rattle.rx_between.proofs.Each.EachStep.{EndStep, finishes, gives, reads, shuts, stays, takes, writes}
use Rattle.rx_between.proofs.Marks.{packet-more, used-more}
use Rattle.rx_between.specs.Told.{Grows}
use Rattle.rx_history.proofs.Rows.RowsKept.{above-by}

-- nothing came
pub grows_same : (r : Received) → Grows r r
grows_same r = record { used = omega arith; kept = λ k there. there; ended = λ is. is }

-- one behind the other
pub grows_on : (a b c : Received) → Grows a b → Grows b c → Grows a c
grows_on a b c first second =
    record {
      used = omega (arith, first.used, second.used);
      kept = λ k there. second.kept k (first.kept k there);
      ended = λ is. second.ended (first.ended is);
    }

-- ---- a packet

-- by a packet that is kept, which is new
pub grows_kept : (p : Packet) (r : Received) → is_some (packet_at r.kept p.seq) ≡ false
    → Grows r (after_packet tooks.Kept p r)
grows_kept p r new =
    record {
      used = used-more p r p.seq new;
      kept = λ k there. ap (λ (o : Option packets.Piece). is_some o) (packet-more p r.kept k new there) ∙ there;
      ended = λ is. is;
    }

same-used : (r : Received) (seq : ℕ) → used_of r ≤ used_of (record r { previous = seq })
same-used r seq = (let same : used_of r ≤ used_of r = omega arith in same)

-- by a packet that was judged
grows_packet : (got : Took) (p : Packet) (r : Received)
    → (got ≡ tooks.Kept → is_some (packet_at r.kept p.seq) ≡ false) → Grows r (after_packet got p r)
grows_packet tooks.Kept p r new = grows_kept p r (new refl)
grows_packet tooks.Repeat p r new =
    record { used = same-used r p.seq; kept = λ k there. there; ended = λ is. is }
grows_packet tooks.Beyond p r new =
    record { used = same-used r p.seq; kept = λ k there. there; ended = λ is. is }
grows_packet tooks.NoSlot p r new =
    record { used = same-used r p.seq; kept = λ k there. there; ended = λ is. is }
grows_packet _ p r new = grows_same r

-- by a read
pub grows_read : (end : Bool) (bytes : List ℕ) (r : Received) → Grows r (after_read end bytes r)
grows_read end bytes r = record { used = used_reads end bytes r; kept = λ k there. there; ended = either end }
  where
    either : (b : Bool) → r.ended ≡ true → (b || r.ended) ≡ true
    either true is = refl
    either false is = is

-- ---- a packet that is kept is new

-- it is above what is done with, it isn't kept, and it lies above no last packet
pub record IsNew (p : Packet) (r : Received) : Type 0 where
  pub above : used_of r < p.seq
  pub away : is_some (packet_at r.kept p.seq) ≡ false
  pub below : is_above (last_seq r.kept) p.seq ≡ false

pub record Fresh (a : Arrival) : Type 0 where
  pub new : a.is_repeat ≡ false
  pub below : a.is_clash ≡ false

pub fresh-arrival : (a : Arrival) → arrival_row a ≡ tooks.Kept → Fresh a
fresh-arrival a is = of a.is_strange a.is_repeat a.is_beyond a.is_clash refl refl is
  where
    of : (b c d e : Bool) → a.is_repeat ≡ c → a.is_clash ≡ e
        → (if b then tooks.Strange else if c then tooks.Repeat else if d then tooks.Beyond
        else if e then tooks.Clash else if a.has_slot then tooks.Kept else tooks.NoSlot) ≡ tooks.Kept → Fresh a
    of true c d e repeats clashes is = absurd cc
    of false true d e repeats clashes is = absurd cc
    of false false true e repeats clashes is = absurd cc
    of false false false true repeats clashes is = absurd cc
    of false false false false repeats clashes is = record { new = repeats; below = clashes }

two-rows : (b : Bool) → (if b then tooks.Strange else tooks.Heard) ≡ tooks.Kept → ⊥
two-rows true is = absurd cc
two-rows false is = absurd cc

other-rows : (b : Bool) → (if b then tooks.Heard else tooks.Strange) ≡ tooks.Kept → ⊥
other-rows true is = absurd cc
other-rows false is = absurd cc

-- by its row: it is DATA
pub row_new : (v : NodeView) (m : Message) (body : Body) (k : CallLooks) → call_row v m body k ≡ tooks.Kept
    → (payload : List ℕ) × (body ≡ bodies.Chunk payload) × IsNew (packet_of m payload) k.received
row_new v m (bodies.Chunk payload) k is =
    let p : Packet = packet_of m payload in
    let f = fresh-arrival (arrival v.client v.window (v.left + freed v.client k) p (found v.client k)) is in
    let new = neither (nat_le p.seq (used_of k.received)) (is_some (packet_at k.received.kept p.seq)) f.new in
    let below = neither (is_above (last_seq k.received.kept) p.seq) _ f.below in (
      payload,
      refl,
      record { above = above-by p.seq (used_of k.received) new.0; away = new.1; below = below.0 },
    )
row_new v m (bodies.Ack a) k is = absurd (two-rows (is_strange_ack a.first a.marks k.sent) is)
row_new v m bodies.AckAll k is = absurd (other-rows (is_all_given k.sent) is)
row_new v m _ k is = absurd cc

-- ---- a message

chunk-grows : (v : NodeView) (got : Took) (m : Message) (body : Body) (k : CallLooks)
    → ((payload : List ℕ) → got ≡ tooks.Kept → is_some (packet_at k.received.kept m.seq) ≡ false)
    → Grows k.received (after_chunk v got m body k).received
chunk-grows v got m (bodies.Chunk payload) k new =
    grows_packet got (packet_of m payload) k.received (λ is. new payload is)
chunk-grows v got m _ k new = grows_same k.received

body-grows : (now : ℕ) (m : Message) (body : Body) (k : CallLooks) → Grows k.received (after_body now m body k).received
body-grows now m (bodies.Ack a) k = grows_same k.received
body-grows now m bodies.AckAll k = grows_same k.received
body-grows now m _ k = grows_same k.received

-- by a message that was judged
pub taken_grows : (v : NodeView) (got : Took) (m : Message) (k : CallLooks) → call_row v m m.body k ≡ got
    → Grows k.received (after_taken v got m k).received
taken_grows v tooks.Kept m k row =
    (let n = row_new v m m.body k row in chunk-grows v tooks.Kept m m.body k (λ payload is. n.2.away))
taken_grows v tooks.Repeat m k row = chunk-grows v tooks.Repeat m m.body k (λ payload is. absurd (cc (is)))
taken_grows v tooks.Beyond m k row = chunk-grows v tooks.Beyond m m.body k (λ payload is. absurd (cc (is)))
taken_grows v tooks.Clash m k row = chunk-grows v tooks.Clash m m.body k (λ payload is. absurd (cc (is)))
taken_grows v tooks.NoSlot m k row = chunk-grows v tooks.NoSlot m m.body k (λ payload is. absurd (cc (is)))
taken_grows v tooks.Heard m k row = body-grows v.now m m.body k
taken_grows v _ m k row = grows_same k.received

sending-grows : (now : ℕ) (x : Sending) (k : CallLooks) → Grows k.received (after_sending now x k).received
sending-grows now (Piece seq again) k = grows_same k.received
sending-grows now (Ack reason serial) k = grows_same k.received

-- ---- any step

grows-to : (a b c : CallLooks) → c ≡ b → Grows a.received b.received → Grows a.received c.received
grows-to a b c is grows = subst (λ (k : CallLooks). Grows a.received k.received) (sym is) grows

-- by each step of an end
pub step_grows : (s : Setup) (l : Looks) (e : Event) (c : CallName) (a b : CallLooks) → EndStep s l e c a b
    → Grows a.received b.received
step_grows s l e c a b (stays is) = grows-to a a b is (grows_same a.received)
step_grows s l e c a b (takes t) =
    grows-to a (after_taken t.view t.got t.message a) b t.is (taken_grows t.view t.got t.message a t.row)
step_grows s l e c a b (gives g) =
    grows-to a (after_sending l.now g.sending a) b g.is (sending-grows l.now g.sending a)
step_grows s l e c a b (writes offered got bytes event is) = grows-to a _ b is (grows_same a.received)
step_grows s l e c a b (reads most got bytes event is) = grows-to a _ b is (grows_read _ bytes a.received)
step_grows s l e c a b (shuts event is) = grows-to a _ b is (grows_same a.received)
step_grows s l e c a b (finishes code event zero is) = grows-to a _ b is (grows_same a.received)
