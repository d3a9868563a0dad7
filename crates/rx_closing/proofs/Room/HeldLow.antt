-- What an end of a call holds is within its node's window: no more pieces that aren't acknowledged, and no more packets
-- that aren't done with.
use Rattle.std.proofs.Common.{◌≡◌, ◌⊎◌, ◌≤◌, ◌<◌, ◌+◌, ◌-◌, ◌*◌, ◌++◌, ℕ, min, cond, is_some, nat_le, nat_lt, Bool}
use Rattle.std.proofs.Common.{true, false, List, [], ◌∷◌, length, Option, Some, None, refl, ap, sym, subst, ◌∙◌, inl}
use Rattle.std.proofs.Common.{inr, arith, length-append}
use Rattle.std.proofs.lemmas.Bool.Decides.{nat_tests}
use Rattle.std.proofs.lemmas.Bool.{cases_lt}
use Rattle.rx_model.specs.declared.pace.Pace.{Pace}
use Rattle.rx_model.specs.declared.answers.Took.{Took}
use Rattle.rx_model.specs.declared.answers.Took.TheVariants as tooks
use Rattle.rx_model.specs.declared.event.Event.{Event}
use Rattle.rx_model.specs.declared.names.CallName.{CallName}
use Rattle.rx_model.specs.Body.{Body}
use Rattle.rx_model.specs.Body as bodies
use Rattle.rx_model.specs.Message.{Message}
use Rattle.rx_model.proofs.NameLaws.{neither}
use Rattle.rx_rules.specs.After.{looks}
use Rattle.rx_rules.specs.CallItems.{Sending, Piece, Ack, after_sending}
use Rattle.rx_rules.specs.CallLooks.{CallLooks, NodeView, after_body, after_chunk, after_read, after_shut, after_taken}
use Rattle.rx_rules.specs.CallLooks.{after_write, arrival, call_row, found, freed, fresh_call, held, lead, packet_of}
use Rattle.rx_rules.specs.Life.{is_active}
use Rattle.rx_rules.specs.Looks.{CallRecord, Looks, call_at}
use Rattle.rx_rules.specs.Received.{Arrival, Packet, arrival_row, count_above, greatest, packet_at, used_of}
use Rattle.rx_rules.specs.Rules.{AllowedAt, Legal}
use Rattle.rx_rules.specs.Sent.{Sent, held_pieces, opened, pieces_by, pieces_of, room_by}
use Rattle.rx_rules.specs.Setup.{FitsSetup, Setup, pace_of, sending_window}
use Rattle.rx_rules.specs.Slots.{beside, left_slots}
use Rattle.rx_history.proofs.Given.HeldNumbers.{shut-pieces}
use Rattle.rx_history.proofs.Room.RoomEvents.{Wrote}
use Rattle.rx_history.proofs.Suffice.{roomy_history}
use Rattle.rx_history.proofs.Laws.UsedLaws.{used_keeps, used_reads}
use Rattle.rx_between.proofs.Each.EachEvent.{each_step}
use Rattle.rx_between.proofs.Each.EachStep.{CallStep, EndStep, Starts, finishes, gives, reads, shuts, stays, takes}
use Rattle.rx_between.proofs.Each.EachStep.{writes}
use Rattle.rx_closing.proofs.Ends.RoomLaws.{piece_leads, within_opened}
use Rattle.rx_closing.proofs.Room.OnceKept.{OnceEach, count_within}
use Rattle.rx_closing.proofs.Room.WroteRoom.{wrote_by}
use Rattle.rx_history.proofs.Given.HeldLaws.{ack-pieces}
use Rattle.rx_history.proofs.Rows.RowsKept.{above-by}

-- ---- an end

-- what it holds is within a window
pub record IsLow (window : ℕ) (k : CallLooks) : Type 0 where
  pub pieces : held_pieces k.sent ≤ window
  pub near : greatest k.received.kept ≤ used_of k.received + window
  pub once : OnceEach k.received.kept

-- a step that opens no piece and keeps no packet
abbrev IsCalm : CallLooks → CallLooks → Type 0
IsCalm a b =
    (held_pieces b.sent ≤ held_pieces a.sent) × (b.received.kept ≡ a.received.kept)
    × (used_of a.received ≤ used_of b.received)

calm_low : (window : ℕ) (a b : CallLooks) → IsCalm a b → IsLow window a → IsLow window b
calm_low window a b calm low =
    record {
      pieces = omega (arith, low.pieces, calm.0);
      near =
          (let top : greatest b.received.kept ≡ greatest a.received.kept = ap greatest calm.1 in
          omega (arith, low.near, calm.2, top));
      once = subst OnceEach (sym calm.1) low.once;
    }

low_to : (window : ℕ) (a b : CallLooks) → b ≡ a → IsLow window a → IsLow window b
low_to window a b is low = subst (IsLow window) (sym is) low

-- of a call that starts
fresh_low : (window : ℕ) (pace : Pace) (now : ℕ) → IsLow window (fresh_call pace now)
fresh_low window pace now = record { pieces = omega arith; near = omega arith; once = tt }

-- ---- a message comes

found_less : (client : Bool) (k : CallLooks) → held_pieces (found client k).sent ≤ held_pieces k.sent
found_less true k = zero_less (pieces_of k.sent) (held_pieces k.sent)
  where
    zero_less : (n m : ℕ) → n - n ≤ m
    zero_less n m = omega arith
found_less false k = omega arith

chunk_calm : (v : NodeView) (m : Message) (body : Body) (k : CallLooks)
    → IsCalm k (after_chunk v tooks.Repeat m body k) × IsCalm k (after_chunk v tooks.Beyond m body k)
    × IsCalm k (after_chunk v tooks.Clash m body k) × IsCalm k (after_chunk v tooks.NoSlot m body k)
chunk_calm v m (bodies.Chunk payload) k =
    (let less = found_less v.client k in (
      (less, refl, omega arith),
      (less, refl, omega arith),
      (less, refl, omega arith),
      (less, refl, omega arith),
    ))
chunk_calm v m _ k = (
  (omega arith, refl, omega arith),
  (omega arith, refl, omega arith),
  (omega arith, refl, omega arith),
  (omega arith, refl, omega arith),
)

body_calm : (now : ℕ) (m : Message) (body : Body) (k : CallLooks) → IsCalm k (after_body now m body k)
body_calm now m (bodies.Ack a) k = (ack-pieces a.first a.marks a.window k.sent, refl, omega arith)
body_calm now m bodies.AckAll k = (zero_less (pieces_of k.sent) (held_pieces k.sent), refl, omega arith)
  where
    zero_less : (n m : ℕ) → n - n ≤ m
    zero_less n m = omega arith
body_calm now m _ k = (omega arith, refl, omega arith)

-- what the row of a packet that is kept says
record IsFresh (a : Arrival) : Type 0 where
  new : a.is_repeat ≡ false
  within : a.is_beyond ≡ false

fresh_arrival : (a : Arrival) → arrival_row a ≡ tooks.Kept → IsFresh a
fresh_arrival a is = of a.is_strange a.is_repeat a.is_beyond refl refl is
  where
    of : (b c d : Bool) → a.is_repeat ≡ c → a.is_beyond ≡ d
        → (cond b tooks.Strange (cond c tooks.Repeat (cond d tooks.Beyond
        (cond a.is_clash tooks.Clash (cond a.has_slot tooks.Kept tooks.NoSlot))))) ≡ tooks.Kept → IsFresh a
    of true c d repeats beyond is = absurd cc
    of false true d repeats beyond is = absurd cc
    of false false true repeats beyond is = absurd cc
    of false false false repeats beyond is = record { new = repeats; within = beyond }

pub below_by : (top seq : ℕ) → nat_lt top seq ≡ false → seq ≤ top
below_by top seq low = grind (arith, nat_tests)

kept_low : (window : ℕ) (v : NodeView) (m : Message) (body : Body) (k : CallLooks) → v.window ≡ window
    → call_row v m body k ≡ tooks.Kept → IsLow window k → IsLow window (after_chunk v tooks.Kept m body k)
kept_low window v m (bodies.Chunk payload) k wide row low =
    let p : Packet = packet_of m payload in
    let f = fresh_arrival (arrival v.client v.window (v.left + freed v.client k) p (found v.client k)) row in
    let new = neither (nat_le p.seq (used_of k.received)) (is_some (packet_at k.received.kept p.seq)) f.new in
    let above : used_of k.received < p.seq = above-by p.seq (used_of k.received) new.0 in
    let under : p.seq ≤ used_of k.received + v.window = below_by (used_of k.received + v.window) p.seq f.within in
    let more = used_keeps p p.seq k.received above new.1 in
    let less = found_less v.client k in
    record {
      pieces = omega (arith, less, low.pieces);
      near = omega (arith, under, wide, more, low.near);
      once = (new.1, low.once);
    }
kept_low window v m _ k wide row low = low

taken_low : (window : ℕ) (v : NodeView) (got : Took) (m : Message) (k : CallLooks) → v.window ≡ window
    → call_row v m m.body k ≡ got → IsLow window k → IsLow window (after_taken v got m k)
taken_low window v tooks.Kept m k wide row low = kept_low window v m m.body k wide row low
taken_low window v tooks.Repeat m k wide row low = calm_low window k _ (chunk_calm v m m.body k).0 low
taken_low window v tooks.Beyond m k wide row low = calm_low window k _ (chunk_calm v m m.body k).1 low
taken_low window v tooks.Clash m k wide row low = calm_low window k _ (chunk_calm v m m.body k).2 low
taken_low window v tooks.NoSlot m k wide row low = calm_low window k _ (chunk_calm v m m.body k).3 low
taken_low window v tooks.Heard m k wide row low =
    calm_low window k (after_taken v tooks.Heard m k) (body_calm v.now m m.body k) low
taken_low window v _ m k wide row low = low

-- ---- it gives, reads, writes and shuts

sending_calm : (now : ℕ) (x : Sending) (k : CallLooks) → IsCalm k (after_sending now x k)
sending_calm now (Piece seq again) k = (omega arith, refl, omega arith)
sending_calm now (Ack reason serial) k = (omega arith, refl, omega arith)

shut_low : (window : ℕ) (k : CallLooks) → 1 ≤ window → IsLow window k → IsLow window (after_shut k)
shut_low window k some low =
    record {
      pieces = of (shut-pieces k.sent.shut (length k.sent.said) k.sent.acked);
      near = low.near;
      once = low.once;
    }
  where
    of : (held_pieces (after_shut k).sent ≤ held_pieces k.sent)
        ⊎ (held_pieces k.sent ≡ 0) × (held_pieces (after_shut k).sent ≤ 1) → held_pieces (after_shut k).sent ≤ window
    of (inl less) = omega (arith, less, low.pieces)
    of (inr first) = omega (arith, first.1, some)

-- a write that is within the room opens no more than the window lets
opens_most : (n m o q : ℕ) → n ≤ 1412 * o → m ≤ 1412 * (o + q) - n → opened (n + m) ≤ o + q
opens_most n m o q within low = omega arith

opens_within : (o q a window more last : ℕ) → o - a ≤ window → q ≤ window - (o - a) → o + q - a ≤ window
opens_within o q a window more last few low = omega arith

open_low : (n m a window more : ℕ) → opened n - a ≤ window → m ≤ room_by window more n a → opened (n + m) - a ≤ window
open_low n m a window more few low =
    let q : ℕ = min (min (window - (opened n - a)) more) (4294967294 - opened n) in
    let most : opened (n + m) ≤ opened n + q = opens_most n m (opened n) q (within_opened n) low in
    let less : q ≤ window - (opened n - a) = omega arith in
    let all = opens_within (opened n) q a window more 0 few less in
    omega (arith, most, all)

write_low : (s : Setup) (l : Looks) (r : CallRecord) (bytes : List ℕ) → Wrote s l r bytes
    → IsLow s.limits.window r.looks → IsLow s.limits.window (after_write bytes r.looks)
write_low s l r bytes wrote low = record { pieces = of wrote; near = low.near; once = low.once }
  where
    sent : Sent
    sent = r.looks.sent

    long : length (sent.said ++ bytes) ≡ length sent.said + length bytes
    long = length-append sent.said bytes

    of : Wrote s l r bytes → pieces_by (length (sent.said ++ bytes)) sent.shut - sent.acked ≤ s.limits.window
    of (inl none) =
        let same : length (sent.said ++ bytes) ≡ length sent.said =
        long ∙ ap (λ (xs : List ℕ). length sent.said + length xs) none ∙ plus_zero (length sent.said) in
        subst (λ (n : ℕ). pieces_by n sent.shut - sent.acked ≤ s.limits.window) (sym same) low.pieces
      where
        plus_zero : (n : ℕ) → n + 0 ≡ n
        plus_zero n = omega arith
    of (inr can) =
        let before : opened (length sent.said) - sent.acked ≤ s.limits.window =
        subst (λ (b : Bool). pieces_by (length sent.said) b - sent.acked ≤ s.limits.window) can.0 low.pieces in
        let after : opened (length sent.said + length bytes) - sent.acked ≤ s.limits.window =
        open_low (length sent.said) (length bytes) sent.acked (sending_window s) (left_slots s l + 1 - lead r.looks)
        before can.1 in
        subst (λ (b : Bool). pieces_by (length (sent.said ++ bytes)) b - sent.acked ≤ s.limits.window) (sym can.0)
        (subst (λ (n : ℕ). opened n - sent.acked ≤ s.limits.window) (sym long) after)

-- ---- each step

module _ (s : Setup) (fits : FitsSetup s) where
  abbrev Low : CallLooks → Type 0
  Low k = IsLow s.limits.window k

  some_window : 1 ≤ s.limits.window
  some_window = (let wide = fits.limits.wide in omega (arith, wide))

  step_low : (h : List Event) (e : Event) (c : CallName) (a b : CallRecord) → Legal s (e ∷ h)
      → call_at (looks s h) c ≡ Some a → EndStep s (looks s h) e c a.looks b.looks → Low a.looks → Low b.looks
  step_low h e c a b legal there (stays is) low = low_to s.limits.window a.looks b.looks is low
  step_low h e c a b legal there (takes t) low =
      low_to s.limits.window (after_taken t.view t.got t.message a.looks) b.looks t.is
      (taken_low s.limits.window t.view t.got t.message a.looks t.view_is.window t.row low)
  step_low h e c a b legal there (gives g) low =
      low_to s.limits.window (after_sending (looks s h).now g.sending a.looks) b.looks g.is
      (calm_low s.limits.window a.looks (after_sending (looks s h).now g.sending a.looks)
      (sending_calm (looks s h).now g.sending a.looks) low)
  step_low h e c a b legal there (writes offered got bytes event is) low =
      low_to s.limits.window (after_write bytes a.looks) b.looks is
      (write_low s (looks s h) a bytes
      (wrote_by s.kind s (looks s h) c a offered got bytes refl (roomy_history s h legal.1) there
      (subst (AllowedAt s.kind s (looks s h)) event legal.0)) low)
  step_low h e c a b legal there (reads most got bytes event is) low =
      low_to s.limits.window (after_read (looks s h).now _ bytes a.looks) b.looks is
      (calm_low s.limits.window a.looks (after_read (looks s h).now _ bytes a.looks)
      (omega arith, refl, used_reads _ bytes a.looks.received) low)
  step_low h e c a b legal there (shuts event is) low =
      low_to s.limits.window (after_shut a.looks) b.looks is (shut_low s.limits.window a.looks some_window low)
  step_low h e c a b legal there (finishes code event fine is) low =
      low_to s.limits.window (after_shut a.looks) b.looks is (shut_low s.limits.window a.looks some_window low)

  starts_low : (l : Looks) (e : Event) (c : CallName) (b : CallRecord) → Starts s l e c b → Low b.looks
  starts_low l e c b (named, inl opens) =
      (let t = opens.takes in
      low_to s.limits.window _ b.looks t.is
      (taken_low s.limits.window t.view t.got t.message _ t.view_is.window t.row
      (fresh_low s.limits.window (pace_of s) l.now)))
  starts_low l e c b (named, inr made) =
      low_to s.limits.window _ b.looks made.looks (fresh_low s.limits.window (pace_of s) l.now)

  -- of a call that is looked for
  abbrev LowOf : Option CallRecord → Type 0
  LowOf None = Unit {0}
  LowOf (Some r) = Low r.looks

  low_of : (h : List Event) (c : CallName) → Legal s h → LowOf (call_at (looks s h) c)
  low_of [] c legal = tt
  low_of (e ∷ h) c legal =
      of (call_at (looks s h) c) (call_at (looks s (e ∷ h)) c) refl (each_step s h e c fits legal)
      (low_of h c legal.1)
    where
      of : (a b : Option CallRecord) → call_at (looks s h) c ≡ a → CallStep s (looks s h) e c a b → LowOf a → LowOf b
      of None None there step low = tt
      of None (Some b) there starts low = starts_low (looks s h) e c b starts
      of (Some a) None there step low = absurd step
      of (Some a) (Some b) there (inl goes) low = step_low h e c a b legal there goes.end low
      of (Some a) (Some b) there (inr starts) low = starts_low (looks s h) e c b starts

-- at every moment of a node
pub low_at : (s : Setup) (h : List Event) (c : CallName) (r : CallRecord) → FitsSetup s → Legal s h
    → call_at (looks s h) c ≡ Some r → IsLow s.limits.window r.looks
low_at s h c r fits legal there = subst (LowOf s fits) there (low_of s fits h c legal)

-- pieces and packets in numbers
pub held_low : (s : Setup) (h : List Event) (c : CallName) (r : CallRecord) → FitsSetup s → Legal s h
    → call_at (looks s h) c ≡ Some r
    → (held_pieces r.looks.sent ≤ s.limits.window)
    × (count_above (used_of r.looks.received) r.looks.received.kept ≤ s.limits.window)
held_low s h c r fits legal there =
    let low = low_at s h c r fits legal there in (
      low.pieces,
      count_within s.limits.window r.looks.received.kept (used_of r.looks.received) low.once low.near,
    )

-- beside a slot of its own it holds less than two windows
pub beside_low : (s : Setup) (h : List Event) (c : CallName) (r : CallRecord) → FitsSetup s → Legal s h
    → call_at (looks s h) c ≡ Some r → beside r + 1 ≤ 2 * s.limits.window
beside_low s h c r fits legal there = of (is_active r.life)
  where
    low : (held_pieces r.looks.sent ≤ s.limits.window)
        × (count_above (used_of r.looks.received) r.looks.received.kept ≤ s.limits.window)
    low = held_low s h c r fits legal there

    some : 1 ≤ s.limits.window
    some = (let wide = fits.limits.wide in omega (arith, wide))

    active : held r.looks - lead r.looks + 1 ≤ 2 * s.limits.window
    active =
        elim (cases_lt 0 (held_pieces r.looks.sent)) as (λ x. held r.looks - lead r.looks + 1 ≤ 2 * s.limits.window) [
          | inl more ↦ (let leads = piece_leads r.looks more in omega (arith, low.0, low.1, some, leads))
          | inr none ↦ omega (arith, low.1, some, none)
        ]

    of : (b : Bool) → cond b (held r.looks - lead r.looks) 0 + 1 ≤ 2 * s.limits.window
    of true = active
    of false = omega (arith, some)
