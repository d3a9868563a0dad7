-- A server that keeps the pieces of a stream in order, and whose reader has read any part of them.
use Rattle.std.proofs.Common.{◌≡◌, ◌<◌, ◌≤◌, ◌+◌, ◌-◌, ◌^◌, ◌==◌, ◌&&◌, not, ℕ, zero, suc, Bool, true, false}
use Rattle.std.proofs.Common.{if◌then◌else◌}
use Rattle.std.proofs.Common.{List, [], ◌∷◌, refl, ap, ◌∙◌, inl, inr, arith, Option, Some, None, length, nat_lt}
use Rattle.std.proofs.Common.{is_some}
use Rattle.std.proofs.lemmas.List.{length-append}
use Rattle.std.specs.Prelude.{drop}
use Rattle.std.proofs.lemmas.Bool.{eq-eqb, ne_eqb, cases_eq, cases_lt, lt-ltb, le-ltb, le-leb, lt-leb, and_right}
use Rattle.std.proofs.lemmas.Bool.{or_right}
use Rattle.rx_model.specs.declared.answers.Took.TheVariants as tooks
use Rattle.rx_model.specs.declared.wire.TheConstants.{LAST_PACKET, REQUEST_ACK, ACK_REQUESTED}
use Rattle.rx_model.specs.Body as bodies
use Rattle.rx_model.specs.Message.{Message, has_flag}
use Rattle.rx_history.proofs.Laws.UsedLaws.{used_within}
use Rattle.rx_rules.proofs.PacketLaws.{bytes_split, end_is}
use Rattle.rx_rules.specs.CallLooks.{CallLooks, NodeView, after_taken, fresh_call, freed, has_lead, held, lead}
use Rattle.rx_rules.specs.Owing.{Owed, at_once, delayed}
use Rattle.rx_rules.specs.Received.{Packet, Piece, Received, bytes_to, count_above, end_of, front_of, greatest}
use Rattle.rx_rules.specs.Received.{has_slot, heard_of, is_done, last_seq, marks_of, packet_at, unread_of, used_of}
use Rattle.rx_rules.specs.Sent.{piece_at}
use Rattle.rx_rounds.proofs.Pair.{Place, row_of}
use Rattle.rx_between.proofs.Counting.{reach_all}
use Rattle.rx_rounds.proofs.Flow.{flow, total}
use Rattle.rx_rules.specs.CallItems.{flags_of}

-- ---- the flags of a piece

pub flag_last : (a b : Bool) → has_flag LAST_PACKET (1 + flags_of a b) ≡ b
flag_last true true = refl
flag_last true false = refl
flag_last false true = refl
flag_last false false = refl

pub flag_asks : (a b : Bool) → has_flag REQUEST_ACK (1 + flags_of a b) ≡ a
flag_asks true true = refl
flag_asks true false = refl
flag_asks false true = refl
flag_asks false false = refl

-- ---- what is kept

-- piece k of these bytes
abbrev pub piece : List ℕ → ℕ → Piece
piece bytes k = piece_at (flow bytes 0 (λ j. false) 0) k

abbrev pub kept_to : List ℕ → ℕ → List Packet
kept_to bytes zero = []
kept_to bytes (suc n) = record { seq = suc n; piece = piece bytes (suc n) } ∷ kept_to bytes n

module _ (bytes : List ℕ) where
  pub packet_kept : (n k : ℕ) → 1 ≤ k → k ≤ n → packet_at (kept_to bytes n) k ≡ Some (piece bytes k)
  packet_kept zero k low high = absurd (omega arith)
  packet_kept (suc n) k low high =
      elim (cases_eq (suc n) k) as (λ c. packet_at (kept_to bytes (suc n)) k ≡ Some (piece bytes k)) [
        | inl same ↦ rw (eq-eqb (suc n) k same) (ap (λ j. Some (piece bytes j)) same)
        | inr apart ↦ rw (ne_eqb (suc n) k apart) (packet_kept n k low (omega arith))
      ]

  pub packet_past : (n k : ℕ) → n < k → packet_at (kept_to bytes n) k ≡ None
  packet_past zero k past = refl
  packet_past (suc n) k past = rw (ne_eqb (suc n) k (λ (same : suc n ≡ k). omega arith)) (packet_past n k (omega arith))

  pub greatest_kept : (n : ℕ) → greatest (kept_to bytes n) ≡ n
  greatest_kept zero = refl
  greatest_kept (suc n) = rw (greatest_kept n) (omega arith)

  pub front_kept : (n : ℕ) → front_of (kept_to bytes n) ≡ n
  front_kept n =
      rw (greatest_kept n)
      (reach_all (λ k. is_some (packet_at (kept_to bytes n) k)) n
      (λ k low high. ap (λ (o : Option Piece). is_some o) (packet_kept n k low high)))

  -- before the last piece there is no last packet
  pub last_kept : (n : ℕ) → n < total bytes → last_seq (kept_to bytes n) ≡ None
  last_kept zero below = refl
  last_kept (suc n) below = rw (ne_eqb (suc n) (total bytes) (λ (same : suc n ≡ total bytes). omega arith))
      (last_kept n (omega arith))

  pub count_kept : (used n : ℕ) → count_above used (kept_to bytes n) ≤ n - used
  count_kept used zero = omega arith
  count_kept used (suc n) =
      (elim (cases_lt used (suc n)) as (λ c. count_above used (kept_to bytes (suc n)) ≤ suc n - used) [
        | inl above ↦ rw (lt-ltb used (suc n) above) (omega (arith, count_kept used n))
        | inr below ↦ rw (le-ltb used (suc n) below) (omega (arith, count_kept used n))
      ])

  -- what came, of which this was read
  abbrev pub part_read : List ℕ → ℕ → ℕ → Received
  part_read read previous n = record { kept = kept_to bytes n; read = read; ended = false; previous = previous }

  abbrev pub keeper_at : List ℕ → Option Owed → ℕ → ℕ → CallLooks
  keeper_at read o previous n = record (fresh_call (record { window = 32; prompt = false }) 0)
      { received = part_read read previous n; owed_ack = o }

  pub used_few : (read : List ℕ) (previous n : ℕ) → used_of (part_read read previous n) ≤ n
  used_few read previous n = omega (arith, used_within (part_read read previous n), front_kept n)

  -- a piece as it comes
  abbrev pub piece_message : Message → ℕ → ℕ → ℕ → Message
  piece_message frame n serial flags = record frame {
    seq = n;
    serial = serial;
    flags = flags;
    body = bodies.Chunk
        (piece bytes n).payload;
  }

  module _ (header : Message) where
    abbrev pub keeping : Place
    keeping = record { client = false; window = 32; shared = 1984; now = 0; header = header }

    slot_next : (read : List ℕ) (o : Option Owed) (previous n : ℕ) → n ≤ used_of (part_read read previous n) + 1984
        → has_slot (not (has_lead (keeper_at read o previous n)))
        (1984 - (held (keeper_at read o previous n) - lead (keeper_at read o previous n)) + freed false
        (keeper_at read o previous n)) (suc n) (part_read read previous n)
        ≡ true
    slot_next read o previous n few =
        let k : CallLooks = keeper_at read o previous n in
        elim (cases_lt (used_of (part_read read previous n)) n)
        as (λ c. has_slot (not (has_lead k)) (1984 - (held k - lead k) + freed false k) (suc n)
        (part_read read previous n) ≡ true) [
          | inl some ↦ (
              let less : nat_lt (used_of (part_read read previous n)) (front_of (kept_to bytes n)) ≡ true =
              lt-ltb (used_of (part_read read previous n)) (front_of (kept_to bytes n)) (omega (arith, front_kept n)) in
              let leads : has_lead k ≡ true = rw less refl in
              let one : lead k ≡ 1 = rw leads refl in
              let holds : held k ≤ n - used_of (part_read read previous n) = omega
              (arith, count_kept (used_of (part_read read previous n)) n) in
              let left : 0 < 1984 - (held k - lead k) + freed false k = omega arith in
              or_right (not (has_lead k) && (suc n == front_of (kept_to bytes n) + 1)) _ (lt-ltb 0 _ left))
          | inr none ↦ (
              let holds : held k ≤ n - used_of (part_read read previous n) = omega
              (arith, count_kept (used_of (part_read read previous n)) n) in
              let left : 0 < 1984 - (held k - lead k) + freed false k = omega arith in
              or_right (not (has_lead k) && (suc n == front_of (kept_to bytes n) + 1)) _ (lt-ltb 0 _ left))
        ]

    -- the next one is kept
    pub row_next : (frame : Message) (read : List ℕ) (o : Option Owed) (previous n serial flags : ℕ)
        → n < total bytes → suc n < 2 ^ 32 - 1 → n < used_of (part_read read previous n) + 32
        → row_of keeping (piece_message frame (suc n) serial flags) (keeper_at read o previous n) ≡ tooks.Kept
    row_next frame read o previous n serial flags below small near =
        let within : used_of (part_read read previous n) ≤ n = used_few read previous n in
        rw (ne_eqb (suc n) 0 (λ (e : suc n ≡ 0). omega arith), le-ltb (2 ^ 32 - 2) (suc n) (omega arith))
        (rw (packet_past n (suc n) (omega arith))
        (rw (last_kept n below)
        (rw (slot_next read o previous n (omega arith))
        (rw (
          lt-leb (suc n) (used_of (part_read read previous n)) (omega arith),
          le-ltb
              (used_of (part_read read previous n) + 32) (suc n) (omega arith),
        )
        (rw (greatest_kept n)
        (rw (le-ltb (suc n) n (omega arith))
        (rw (and_right (has_flag LAST_PACKET flags) false refl) refl)))))))

    -- what is owed behind it
    abbrev pub owed_behind : ℕ → ℕ → Option Owed → Option Owed
    owed_behind serial flags o = if has_flag REQUEST_ACK flags then at_once ACK_REQUESTED serial else delayed 0 serial o

    pub keeps_next : (view : NodeView) (frame : Message) (read : List ℕ) (o : Option Owed)
        (previous n serial flags : ℕ) → view.client ≡ false → view.now ≡ 0
        → has_flag LAST_PACKET flags ≡ (suc n == total bytes)
        → after_taken view tooks.Kept (piece_message frame (suc n) serial flags) (keeper_at read o previous n)
        ≡ keeper_at read (owed_behind serial flags o) (suc n) (suc n)
    keeps_next view frame read o previous n serial flags server start marks =
        rw (server, start) (rw (front_kept n, eq-eqb (suc n) (suc n) refl, marks) refl)

  -- ---- a reader that read all that stands without a gap

  -- where nothing is left to read of the first n pieces, before the last, all are done with
  pub drained : (read : List ℕ) (previous n : ℕ) → n < total bytes → unread_of (part_read read previous n) ≡ []
      → used_of (part_read read previous n) ≡ n
  drained read previous n below none =
      let r : Received = part_read read previous n in
      let long : length (heard_of (kept_to bytes n)) ≤ length read = nothing_left (length read)
      (heard_of (kept_to bytes n)) none in
      let done : (k : ℕ) → 1 ≤ k → k ≤ n → is_done r k ≡ true =
      λ k low high. (
      let split = bytes_split (kept_to bytes n) k n high in
      let whole : length (bytes_to (kept_to bytes n) n) ≡ length (bytes_to (kept_to bytes n) k) + length split.0 = ap
      (λ (xs : List ℕ). length xs) split.1 ∙ length-append (bytes_to (kept_to bytes n) k) split.0 in
      let front : length (heard_of (kept_to bytes n)) ≡ length (bytes_to (kept_to bytes n) n) = ap
      (λ (j : ℕ). length (bytes_to (kept_to bytes n) j)) (front_kept n) in
      let ends : end_of (kept_to bytes n) k ≡ length (bytes_to (kept_to bytes n) k) = end_is (kept_to bytes n) k in
      let not_last : (k == total bytes) ≡ false = ne_eqb k (total bytes) (λ (e : k ≡ total bytes). omega arith) in
      rw (packet_kept n k low high) (rw (not_last, le-leb (end_of (kept_to bytes n) k) (length read) (omega arith))
      refl)) in
      rw (front_kept n) (reach_all (is_done r) n done)
    where
      nothing_left : (m : ℕ) (xs : List ℕ) → drop m xs ≡ [] → length xs ≤ m
      nothing_left m [] h = omega arith
      nothing_left zero (x ∷ xs) h = absurd cc
      nothing_left (suc m) (x ∷ xs) h = omega (arith, nothing_left m xs h)

  -- then an ACK tells them all, and marks none
  pub marks_none : (read : List ℕ) (previous n : ℕ) → used_of (part_read read previous n) ≡ n
      → marks_of (part_read read previous n) ≡ []
  marks_none read previous n all =
      let none : greatest (kept_to bytes n) - n ≡ 0 = omega (arith, greatest_kept n) in
      rw all (rw none refl)
