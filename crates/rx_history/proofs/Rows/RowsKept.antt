-- What the row of a call says where a packet is kept.
use Rattle.std.proofs.Common.{◌≡◌, ◌<◌, ◌&&◌, ◌||◌, ◌+◌, ℕ, if◌then◌else◌, not, nat_le, nat_lt, is_some, Bool, true}
use Rattle.std.proofs.Common.{false}
use Rattle.std.proofs.Common.{List, Option, Some, None, refl, ap, subst, arith}
use Rattle.std.proofs.lemmas.Bool.Decides.{nat_tests}
use Rattle.rx_model.specs.declared.answers.Took.{Took}
use Rattle.rx_model.specs.declared.answers.Took.TheVariants as tooks
use Rattle.rx_model.specs.Body.{Body}
use Rattle.rx_model.specs.Body as bodies
use Rattle.rx_model.specs.Message.{Message}
use Rattle.rx_rules.specs.CallLooks.{CallLooks, NodeView, arrival, call_row, found, freed, packet_of}
use Rattle.rx_rules.specs.Judging.{is_right, live_row, row_at}
use Rattle.rx_rules.specs.Looks.{CallRecord, Looks, is_proved}
use Rattle.rx_model.specs.Names.{connection_of}
use Rattle.rx_rules.specs.Received.{Arrival, Packet, arrival_row, is_above, is_no_seq, last_seq, packet_at, used_of}
use Rattle.rx_rules.specs.Sent.{after_all, is_all_given, is_strange_ack}
use Rattle.rx_rules.specs.Setup.{Setup}
use Rattle.rx_rules.specs.Slots.{node_view}
use Rattle.rx_model.proofs.NameLaws.{both, neither}
use Rattle.rx_history.proofs.Given.HeldLaws.{Slotted}
use Rattle.rx_history.proofs.Rows.RowsInFront.{may_start, past}

-- the packet has a seq, within the window, and a slot, lies below no last packet, and comes to a client whose own
-- stream is shut
pub record Keepable (v : NodeView) (p : Packet) (k : CallLooks) : Type 0 where
  pub numbered : is_no_seq p.seq ≡ false
  pub within : nat_lt (used_of k.received + v.window) p.seq ≡ false
  pub slotted : Slotted v p k
  pub below : is_above (last_seq k.received.kept) p.seq ≡ false
  pub shut : v.client ≡ true → k.sent.shut ≡ true

-- it is DATA
pub record KeptBy (v : NodeView) (m : Message) (body : Body) (k : CallLooks) : Type 0 where
  pub payload : List ℕ
  pub is : body ≡ bodies.Chunk payload
  pub keepable : Keepable v (packet_of m payload) k

record Fits (a : Arrival) : Type 0 where
  fine : a.is_strange ≡ false
  new : a.is_repeat ≡ false
  within : a.is_beyond ≡ false
  below : a.is_clash ≡ false
  slot : a.has_slot ≡ true

arrival-kept : (a : Arrival) → arrival_row a ≡ tooks.Kept → Fits a
arrival-kept a is =
    let b = past a.is_strange tooks.Strange _ tooks.Kept refl refl is in
    let d = past a.is_repeat tooks.Repeat _ tooks.Kept refl refl b.1 in
    let e = past a.is_beyond tooks.Beyond _ tooks.Kept refl refl d.1 in
    let g = past a.is_clash tooks.Clash _ tooks.Kept refl refl e.1 in
    record { fine = b.0; new = d.0; within = e.0; below = g.0; slot = of a.has_slot g.1 }
  where
    of : (b : Bool) → (if b then tooks.Kept else tooks.NoSlot) ≡ tooks.Kept → b ≡ true
    of true is = refl
    of false is = absurd cc

pub above-by : (seq used : ℕ) → nat_le seq used ≡ false → used < seq
above-by seq used high = grind (arith, nat_tests)

given-shut : (client : Bool) (p : Packet) (k : CallLooks) → client ≡ true
    → (is_no_seq p.seq || (client && not (is_all_given (found client k).sent))) ≡ false → k.sent.shut ≡ true
given-shut true p k client fine =
    (let t = neither (is_no_seq p.seq) (not (is_all_given (after_all k.sent))) fine in
    (both k.sent.shut _ (not_false (is_all_given (after_all k.sent)) t.1)).0)
  where
    not_false : (b : Bool) → not b ≡ false → b ≡ true
    not_false true is = refl
    not_false false is = absurd cc
given-shut false p k client fine = absurd cc

chunk-kept : (v : NodeView) (p : Packet) (k : CallLooks)
    → arrival_row (arrival v.client v.window (v.left + freed v.client k) p (found v.client k)) ≡ tooks.Kept
    → Keepable v p k
chunk-kept v p k is =
    let f = arrival-kept (arrival v.client v.window (v.left + freed v.client k) p (found v.client k)) is in
    let new = neither (nat_le p.seq (used_of k.received)) (is_some (packet_at k.received.kept p.seq)) f.new in
    let below = neither (is_above (last_seq k.received.kept) p.seq) _ f.below in
    record {
      numbered = (neither (is_no_seq p.seq) _ f.fine).0;
      within = f.within;
      slotted = record { above = above-by p.seq (used_of k.received) new.0; away = new.1; slot = f.slot };
      below = below.0;
      shut = λ client. given-shut v.client p k client f.fine;
    }

if-kept : (b : Bool) (x y : Took) → may_start x ≡ false → may_start y ≡ false → (if b then x else y) ≡ tooks.Kept → ⊥
if-kept true x y p q is = (let same : may_start x ≡ true = ap may_start is in cc (same, p))
if-kept false x y p q is = (let same : may_start y ≡ true = ap may_start is in cc (same, q))

call-kept : (v : NodeView) (m : Message) (body : Body) (k : CallLooks) → call_row v m body k ≡ tooks.Kept
    → KeptBy v m body k
call-kept v m (bodies.Chunk payload) k is = record {
  payload = payload;
  is = refl;
  keepable = chunk-kept v
      (packet_of m payload) k is;
}
call-kept v m (bodies.Ack a) k is = absurd
    (if-kept (is_strange_ack a.first a.marks k.sent) tooks.Strange tooks.Heard refl refl is)
call-kept v m bodies.AckAll k is = absurd (if-kept (is_all_given k.sent) tooks.Heard tooks.Strange refl refl is)
call-kept v m bodies.Busy k is = absurd cc
call-kept v m (bodies.Abort code) k is = absurd cc
call-kept v m (bodies.Challenge bytes) k is = absurd cc
call-kept v m (bodies.Response bytes) k is = absurd cc

live-kept : (s : Setup) (l : Looks) (k : CallRecord) (m : Message) (body : Body) → m.body ≡ body
    → live_row s l k m body ≡ tooks.Kept
    → KeptBy (node_view s l) m m.body k.looks
live-kept s l k m (bodies.Response bytes) at is = absurd
    (of (is_right s l k.name bytes) (is_proved l (connection_of k.name)) is)
  where
    of : (a b : Bool) → (if a then tooks.Heard else if b then tooks.Strange else tooks.Stopped) ≡ tooks.Kept → ⊥
    of true b is = absurd cc
    of false b is = if-kept b tooks.Strange tooks.Stopped refl refl is
live-kept s l k m (bodies.Challenge bytes) at is =
    absurd (if-kept (is_some (s.class.respond k.name bytes)) tooks.Heard tooks.Strange refl refl is)
live-kept s l k m (bodies.Chunk payload) at is = call-kept (node_view s l) m m.body k.looks is
live-kept s l k m bodies.Busy at is = call-kept (node_view s l) m m.body k.looks is
live-kept s l k m (bodies.Ack a) at is = call-kept (node_view s l) m m.body k.looks is
live-kept s l k m (bodies.Abort code) at is = call-kept (node_view s l) m m.body k.looks is
live-kept s l k m bodies.AckAll at is = call-kept (node_view s l) m m.body k.looks is

-- where it is kept, its call is there
pub row_kept : (s : Setup) (l : Looks) (o : Option CallRecord) (m : Message) (k : CallRecord) → o ≡ Some k
    → row_at s l o m ≡ tooks.Kept
    → KeptBy (node_view s l) m m.body k.looks
row_kept s l None m k there is = absurd cc
row_kept s l (Some j) m k there is =
    (let same : j ≡ k = cc (there) in
    subst (λ (i : CallRecord). KeptBy (node_view s l) m m.body i.looks) same (live-kept s l j m m.body refl is))
