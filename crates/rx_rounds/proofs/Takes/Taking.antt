-- One end of a call by itself takes what the other end gave: pieces in order.
use Rattle.std.proofs.Common.{◌≡◌, ◌<◌, ◌≤◌, ◌+◌, ◌-◌, ◌^◌, ◌==◌, ◌&&◌, ◌++◌, not, ℕ, suc, Bool}
use Rattle.std.proofs.Common.{true, false, List, [], ◌∷◌, refl, ap, sym, subst, ◌∙◌, arith, Option, Some, None}
use Rattle.std.proofs.Common.{if◌then◌else◌, nat_le, nat_lt, is_some}
use Rattle.std.proofs.lemmas.Bool.{eq-eqb, ne_eqb, lt-ltb, le-ltb, lt-leb, and_right, or_from, or_right}
use Rattle.std.specs.Prelude.{IfSome, IsSomeAnd}
use Rattle.rx_model.specs.declared.answers.Took.TheVariants as tooks
use Rattle.rx_model.specs.declared.wire.TheConstants.{ACK_PING, CLIENT_INITIATED, LAST_PACKET, REQUEST_ACK}
use Rattle.rx_model.specs.Message.{Message, has_flag}
use Rattle.rx_rules.specs.CallItems.{flags_of}
use Rattle.rx_rules.specs.CallLooks.{CallLooks, after_taken, arrival, found, freed, has_lead, held, lead, packet_of}
use Rattle.rx_rules.specs.Owing.{Owed, at_once, delayed}
use Rattle.rx_rules.specs.Received.{Arrival, Packet, Piece, Received, arrival_row, count_above, front_of, greatest}
use Rattle.rx_rules.specs.Received.{is_above}
use Rattle.rx_rules.specs.Received.{is_no_seq, last_seq, packet_at, used_of}
use Rattle.rx_rules.specs.Sent.{held_pieces, is_all_given}
use Rattle.rx_rounds.proofs.Exchange.{Burst, a_piece, ack_with, no_piece, piece_with}
use Rattle.rx_rounds.proofs.Flow.{total}
use Rattle.rx_rounds.proofs.Keeper.{count_kept, front_kept, greatest_kept, last_kept, packet_past, part_read, piece}
use Rattle.rx_rounds.proofs.Keeper.{used_few}
use Rattle.rx_history.proofs.Laws.UsedLaws.{used_keeps}
use Rattle.rx_rounds.proofs.One.OneWay.{IsOwedBy, IsPlainOwed}
use Rattle.rx_rounds.proofs.Pair.{Place, row_of, view_of}

-- ---- flags

pub flag_last : (c a b : Bool) → has_flag LAST_PACKET ((if c then CLIENT_INITIATED else 0) + flags_of a b) ≡ b
flag_last true true true = refl
flag_last true true false = refl
flag_last true false true = refl
flag_last true false false = refl
flag_last false true true = refl
flag_last false true false = refl
flag_last false false true = refl
flag_last false false false = refl

pub flag_asks : (c a b : Bool) → has_flag REQUEST_ACK ((if c then CLIENT_INITIATED else 0) + flags_of a b) ≡ a
flag_asks true true true = refl
flag_asks true true false = refl
flag_asks true false true = refl
flag_asks true false false = refl
flag_asks false true true = refl
flag_asks false true false = refl
flag_asks false false true = refl
flag_asks false false false = refl

-- ---- where an end stands

-- at a node with the default limits
abbrev pub place_at : Bool → ℕ → Message → Place
place_at client now header = record { client = client; window = 32; shared = 1984; now = now; header = header }

-- it takes these messages of the other end, pieces and ACKs
pub data Takes (p : Place) : CallLooks → List Message → CallLooks → Type 0 where
  takes_none : (k : CallLooks) → Takes p k [] k
  keeps : (whole : List ℕ) (k l : CallLooks) (seq serial : ℕ) (asking : Bool) (ms : List Message)
      → seq < 2 ^ 32 → serial < 2 ^ 32
      → row_of p (piece_with p.header (not p.client) whole seq serial asking) k ≡ tooks.Kept
      → Takes p (after_taken (view_of p k) tooks.Kept (piece_with p.header (not p.client) whole seq serial asking) k) ms
      l
      → Takes p k (piece_with p.header (not p.client) whole seq serial asking ∷ ms) l
  hears : (k l : CallLooks) (n serial previous caused reason : ℕ) (ms : List Message)
      → n < 2 ^ 32 - 1 → serial < 2 ^ 32 → previous < 2 ^ 32 → caused < 2 ^ 32 → 1 ≤ reason → reason ≤ 8
      → (p.client ≡ true → (reason == ACK_PING) ≡ false)
      → row_of p (ack_with p.header (not p.client) n serial previous caused reason) k ≡ tooks.Heard
      → Takes p (after_taken (view_of p k) tooks.Heard
      (ack_with p.header (not p.client) n serial previous caused reason) k) ms l
      → Takes p k (ack_with p.header (not p.client) n serial previous caused reason ∷ ms) l

-- ---- a piece comes

-- what is owed behind a piece that came in order
abbrev pub owed_behind : ℕ → ℕ → Bool → Option Owed → Option Owed
owed_behind now serial asking o = if asking then at_once 1 serial else delayed now serial o

-- an end that kept n packets in order, behind one more
abbrev pub kept_one : Bool → ℕ → List ℕ → List ℕ → ℕ → ℕ → Bool → CallLooks → CallLooks
kept_one client now whole read n serial asking k =
    record (found client k) {
      received = part_read whole read (suc n) (suc n);
      owed_ack = owed_behind now serial asking k.owed_ack;
      heard = now;
    }

row_by : (a : Arrival) → a.is_strange ≡ false → a.is_repeat ≡ false → a.is_beyond ≡ false → a.is_clash ≡ false
    → a.has_slot ≡ true → arrival_row a ≡ tooks.Kept
row_by a strange repeat beyond clash slot = rw (strange, repeat, beyond, clash, slot) refl

module _ (whole read : List ℕ) (previous n used : ℕ) where
  abbrev came : Received
  came = part_read whole read previous n

  row_kept : (client : Bool) (left : ℕ) (m : Message) (payload : List ℕ) (f : CallLooks)
      → f.received ≡ came → used ≤ used_of came → m.seq ≡ suc n → n < total whole → suc n < 2 ^ 32 - 1
      → suc n ≤ used + 32 → 0 < left → (client && not (is_all_given f.sent)) ≡ false
      → arrival_row (arrival client 32 left (packet_of m payload) f) ≡ tooks.Kept
  row_kept client left m payload f is done seq short small near some given =
      let used_is : used_of f.received ≡ used_of came = ap used_of is in
      let within : used_of came ≤ n = used_few whole read previous n in
      let kept_is : f.received.kept ≡ came.kept = ap (λ (r : Received). r.kept) is in
      row_by (arrival client 32 left (packet_of m payload) f)
      (or_from (is_no_seq m.seq) (client && not (is_all_given f.sent))
      (ap is_no_seq seq ∙ rw (
        ne_eqb (suc n) 0 (λ (e : suc n ≡ 0). omega arith),
        le-ltb (2 ^ 32 - 2) (suc n)
            (omega arith),
      ) refl) given)
      (or_from (nat_le m.seq (used_of f.received)) (is_some (packet_at f.received.kept m.seq))
      (lt-leb m.seq (used_of f.received) (omega arith))
      (ap (λ (ps : List Packet). is_some (packet_at ps m.seq)) kept_is
      ∙ ap (λ (j : ℕ). is_some (packet_at came.kept j)) seq
      ∙ ap (λ (o : Option Piece). is_some o) (packet_past whole n (suc n) (omega arith))))
      (le-ltb (used_of f.received + 32) m.seq (omega arith))
      (or_from (is_above (last_seq f.received.kept) m.seq) (has_flag LAST_PACKET m.flags && nat_lt m.seq
      (greatest f.received.kept))
      (ap (λ (ps : List Packet). is_above (last_seq ps) m.seq) kept_is
      ∙ ap (λ (o : Option ℕ). is_above o m.seq) (last_kept whole n short))
      (and_right (has_flag LAST_PACKET m.flags) (nat_lt m.seq (greatest f.received.kept))
      (ap (λ (ps : List Packet). nat_lt m.seq (greatest ps)) kept_is
      ∙ ap (nat_lt m.seq) (greatest_kept whole n) ∙ le-ltb m.seq n (omega arith))))
      (or_right (not (has_lead f) && (m.seq == front_of f.received.kept + 1)) (nat_lt 0 left) (lt-ltb 0 left some))

-- what it holds leaves slots
few_held : (whole read : List ℕ) (previous n used : ℕ) (k : CallLooks) → k.received ≡ part_read whole read previous n
    → used ≤ used_of (part_read whole read previous n) → n ≤ used + 32 → held_pieces k.sent ≤ 32 → held k ≤ 64
few_held whole read previous n used k is done near few =
    let r : Received = part_read whole read previous n in
    let above : count_above (used_of k.received) k.received.kept ≤ n - used_of r =
    subst (λ (q : Received). count_above (used_of q) q.kept ≤ n - used_of r) (sym is)
    (count_kept whole (used_of r) n) in
    omega arith

module _ (client : Bool) (now : ℕ) (header : Message) (whole read : List ℕ) (previous n used serial : ℕ) (asking : Bool)
    (k : CallLooks) where
  -- the next piece is kept
  pub keeps_one : k.received ≡ part_read whole read previous n → used ≤ used_of (part_read whole read previous n)
      → suc n ≤ used + 32 → n < total whole → suc n < 2 ^ 32 - 1 → held_pieces k.sent ≤ 32 → k.cwnd.prompt ≡ false
      → (client ≡ true → is_all_given k.sent ≡ true)
      → (row_of (place_at client now header) (piece_with header (not client) whole (suc n) serial asking) k ≡
      tooks.Kept) × (after_taken (view_of (place_at client now header) k) tooks.Kept (piece_with header (not client)
      whole (suc n) serial asking) k ≡ kept_one client now whole read n serial asking k)
  keeps_one is done near short small few steady given =
      (row client given, kept)
    where
      holds : held k ≤ 64
      holds = few_held whole read previous n used k is done (omega arith) few

      row : (c : Bool) → (c ≡ true → is_all_given k.sent ≡ true)
          → row_of (place_at c now header) (piece_with header (not client) whole (suc n) serial asking) k ≡ tooks.Kept
      row true all =
          row_kept whole read previous n used true (1984 - (held k - lead k) + freed true k)
          (piece_with header (not client) whole (suc n) serial asking) (piece whole (suc n)).payload (found true k) is
          done
          refl short small near (omega (arith, holds)) (ap not (all refl))
      row false all =
          row_kept whole read previous n used false (1984 - (held k - lead k) + freed false k)
          (piece_with header (not client) whole (suc n) serial asking) (piece whole (suc n)).payload (found false k) is
          done refl short small near (omega (arith, holds)) refl

      kept : after_taken (view_of (place_at client now header) k) tooks.Kept
          (piece_with header (not client) whole (suc n) serial asking) k
          ≡ kept_one client now whole read n serial asking k
      kept =
          let front : front_of k.received.kept ≡ n = ap (λ (r : Received). front_of r.kept) is ∙ front_kept whole n in
          let last : has_flag LAST_PACKET (piece_with header (not client) whole (suc n) serial asking).flags
          ≡ (suc n == total whole) = flag_last (not client) asking (suc n == total whole) in
          let asks : has_flag REQUEST_ACK (piece_with header (not client) whole (suc n) serial asking).flags ≡ asking =
          flag_asks (not client) asking (suc n == total whole) in
          rw (front, steady, asks, last, is) (rw (eq-eqb (suc n) (suc n) refl) refl)

-- ---- pieces come

-- an end that kept packets up to this one in order, and owes so
abbrev pub came_behind : Bool → ℕ → List ℕ → List ℕ → ℕ → Owed → CallLooks → CallLooks
came_behind client now whole read last owed k =
    record (found client k) { received = part_read whole read last last; owed_ack = Some owed; heard = now }

-- what pieces made of an end: nothing where there were none
pub data TookPieces (client : Bool) (now : ℕ) (header : Message) (whole read : List ℕ) (n last : ℕ) (k : CallLooks)
    (ms : List Message) : Type 0 where
  none_came : n ≡ last → ms ≡ [] → TookPieces client now header whole read n last k ms
  some_came : n < last → (owed : Owed) → IsPlainOwed owed → owed.rank ≤ now + 100
      → ((r : ℕ) → IsOwedBy r k → owed.rank ≤ r) → (last ≡ total whole → owed.rank ≡ 0)
      → ((more : List Message) (l : CallLooks)
      → Takes (place_at client now header) (came_behind client now whole read last owed k) more l
      → Takes (place_at client now header) k (ms ++ more) l)
      → TookPieces client now header whole read n last k ms

-- what is owed behind one piece
pub record OwesBehind (now : ℕ) (asking : Bool) (serial : ℕ) (o : Option Owed) : Type 0 where
  pub owed : Owed
  pub is : owed_behind now serial asking o ≡ Some owed
  pub plain : IsPlainOwed owed
  pub soon : owed.rank ≤ now + 100
  pub sooner : (r : ℕ) → IsSomeAnd o (λ q. q.rank ≤ r) → owed.rank ≤ r
  pub asked : asking ≡ true → owed.rank ≡ 0

pub owes_behind : (now : ℕ) (asking : Bool) (serial : ℕ) (o : Option Owed) → serial < 2 ^ 32 → IfSome o IsPlainOwed
    → IfSome o (λ q. q.rank ≤ now + 100)
    → OwesBehind now asking serial o
owes_behind now true serial o small plain late =
    record {
      owed = record { reason = 1; serial = serial; rank = 0 };
      is = refl;
      plain = record { reason_low = omega arith; reason_high = omega arith; serial = small; no_ping = refl };
      soon = omega arith;
      sooner = λ r some. omega arith;
      asked = λ yes. refl;
    }
owes_behind now false serial None small plain late =
    record {
      owed = record { reason = 8; serial = serial; rank = now + 100 };
      is = refl;
      plain = record { reason_low = omega arith; reason_high = omega arith; serial = small; no_ping = refl };
      soon = omega arith;
      sooner = λ r some. absurd some;
      asked = λ yes. absurd cc;
    }
owes_behind now false serial (Some o) small plain late =
    record {
      owed = o;
      is = refl;
      plain = plain;
      soon = late;
      sooner = λ r some. some;
      asked = λ yes. absurd cc;
    }

pub burst_more : (frame : Message) (client : Bool) (whole : List ℕ) (n m : ℕ) (ms : List Message)
    → Burst frame client whole n m ms → n ≤ m
burst_more frame client whole n m ms (no_piece i) = omega arith
burst_more frame client whole n m ms (a_piece i j serial asking others fits asks rest) =
    let more : suc n ≤ m = burst_more frame client whole (suc n) m others rest in omega arith

came_again : (client : Bool) (now : ℕ) (whole read : List ℕ) (n serial : ℕ) (asking : Bool) (last : ℕ) (owed : Owed)
    (k : CallLooks)
    → came_behind client now whole read last owed (kept_one client now whole read n serial asking k)
    ≡ came_behind client now whole read last owed k
came_again true now whole read n serial asking last owed k = refl
came_again false now whole read n serial asking last owed k = refl

pub takes_burst : (client : Bool) (now : ℕ) (header : Message) (whole read : List ℕ) (previous n last used : ℕ)
    (k : CallLooks) (ms : List Message)
    → Burst header (not client) whole n last ms
    → k.received ≡ part_read whole read previous n → used ≤ used_of (part_read whole read previous n)
    → last ≤ used + 32 → last ≤ total whole → total whole < 2 ^ 32 - 1 → held_pieces k.sent ≤ 32
    → k.cwnd.prompt ≡ false → (client ≡ true → is_all_given k.sent ≡ true) → IfSome k.owed_ack IsPlainOwed
    → IfSome k.owed_ack (λ q. q.rank ≤ now + 100)
    → TookPieces client now header whole read n last k ms
takes_burst client now header whole read previous n last used k ms (no_piece m) is done near short small few steady
    given plain late = none_came refl refl
takes_burst client now header whole read previous n last used k ms
    (a_piece m top serial asking others fits asks rest) is done near short small few steady given plain late =
    let more : suc n ≤ last = burst_more header (not client) whole (suc n) last others rest in
    let o = owes_behind now asking serial k.owed_ack fits plain late in
    let one = keeps_one client now header whole read previous n used serial asking k is done (omega arith) (omega arith)
    (omega arith) few steady given in
    let k1 : CallLooks = kept_one client now whole read n serial asking k in
    let above : used ≤ used_of (part_read whole read (suc n) (suc n)) =
    (let within : used_of (part_read whole read previous n) ≤ n = used_few whole read previous n in
    let keeps_ : used_of (part_read whole read previous n) ≤ used_of (part_read whole read (suc n) (suc n)) =
    used_keeps (record { seq = suc n; piece = piece whole (suc n) }) (suc n) (part_read whole read previous n)
    (omega arith) (ap (λ (q : Option Piece). is_some q) (packet_past whole n (suc n) (omega arith))) in
    omega arith) in
    by more o one.0 one.1
    (takes_burst client now header whole read (suc n) (suc n) last used k1 others rest refl above near short small
    (held_one client few) (steady_one client steady) (λ yes. given_one client (given yes))
    (subst (λ (q : Option Owed). IfSome q IsPlainOwed) (sym o.is) o.plain)
    (subst (λ (q : Option Owed). IfSome q (λ w. w.rank ≤ now + 100)) (sym o.is) o.soon))
  where
    held_one : (c : Bool) → held_pieces k.sent ≤ 32
        → held_pieces (kept_one c now whole read n serial asking k).sent ≤ 32
    held_one true less = omega arith
    held_one false less = less

    steady_one : (c : Bool) → k.cwnd.prompt ≡ false → (kept_one c now whole read n serial asking k).cwnd.prompt ≡ false
    steady_one true same = same
    steady_one false same = same

    given_one : (c : Bool) → is_all_given k.sent ≡ true
        → is_all_given (kept_one c now whole read n serial asking k).sent ≡ true
    given_one true all = all
    given_one false all = all

    by : suc n ≤ last → (o : OwesBehind now asking serial k.owed_ack)
        → row_of (place_at client now header) (piece_with header (not client) whole (suc n) serial asking) k ≡
        tooks.Kept
        → after_taken (view_of (place_at client now header) k) tooks.Kept
        (piece_with header (not client) whole (suc n) serial asking) k ≡ kept_one client now whole read n serial asking
        k
        → TookPieces client now header whole read (suc n) last (kept_one client now whole read n serial asking k) others
        → TookPieces client now header whole read n last k
        (piece_with header (not client) whole (suc n) serial asking ∷ others)
    by more o row kept (none_came all none) =
        some_came (omega arith) o.owed o.plain o.soon o.sooner (λ end. o.asked (asks (omega arith)))
        (λ ms2 l behind. keeps whole k l (suc n) serial asking (others ++ ms2) (omega arith) fits row
        (subst (λ (j : CallLooks). Takes (place_at client now header) j (others ++ ms2) l) (sym kept)
        (subst (λ (xs : List Message). Takes (place_at client now header)
        (kept_one client now whole read n serial asking k) (xs ++ ms2) l) (sym none)
        (subst (λ (j : CallLooks). Takes (place_at client now header) j ms2 l) (same o all) behind))))
      where
        same : (o : OwesBehind now asking serial k.owed_ack) → suc n ≡ last
            → came_behind client now whole read last o.owed k ≡ kept_one client now whole read n serial asking k
        same o all = ap (λ (i : ℕ). came_behind client now whole read i o.owed k) (sym all)
            ∙ ap (λ (q : Option Owed). record (found client k) {
              received = part_read whole read (suc n) (suc n);
              owed_ack = q;
              heard = now;
            }) (sym o.is)
    by more o row kept (some_came less owed plain2 soon sooner zero_ behind) =
        some_came (omega arith) owed plain2 soon
        (λ r some. sooner r (subst (λ (q : Option Owed). IsSomeAnd q (λ w. w.rank ≤ r)) (sym o.is) (o.sooner r some)))
        zero_
        (λ ms2 l next. keeps whole k l (suc n) serial asking (others ++ ms2) (omega arith) fits row
        (subst (λ (j : CallLooks). Takes (place_at client now header) j (others ++ ms2) l) (sym kept)
        (behind ms2 l (subst (λ (j : CallLooks). Takes (place_at client now header) j ms2 l)
        (sym (came_again client now whole read n serial asking last owed k)) next))))
