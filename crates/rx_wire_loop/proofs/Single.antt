-- What a node gives is a single datagram.
use Rattle.std.proofs.Common.{◌≡◌, ◌≤◌, ◌+◌, ◌==◌, ◌&&◌, ◌||◌, ℕ, Bool, true, false, List, ◌∷◌, ◌++◌}
use Rattle.std.proofs.Common.{Option, Some, None, Result, Ok, Err, refl, sym, arith, length, drop, map}
use Rattle.std.specs.Prelude.{if◌then◌else◌, bit_and, nat_lt, slice_index}
use Rattle.std.proofs.lemmas.List.{length-append, length-map}
use Rattle.rx_jumbo.specs.Parts.{is_jumbo}
use Rattle.rx_history.specs.Givings.{GivesPlain}
use Rattle.rx_history.proofs.Data.{long-enough}
use Rattle.rx_history.proofs.Given.Givings.{poll_gives}
use Rattle.rx_model.specs.declared.answers.BadMsg.{BadMsg}
use Rattle.rx_model.specs.declared.answers.BadMsg.TheVariants.{AbortShort, AckShort, Jumbo, Kind, Short, TooLong}
use Rattle.rx_model.specs.declared.event.Event.{Event}
use Rattle.rx_model.specs.declared.event.Event.TheVariants as events
use Rattle.rx_model.specs.declared.names.Host.{Host}
use Rattle.rx_model.specs.declared.wire.TheConstants.{DATAGRAM_BYTES}
use Rattle.rx_model.specs.Body.{AckBody, Body}
use Rattle.rx_model.specs.Body as bodies
use Rattle.rx_model.specs.Message.{Message, has_flag}
use Rattle.rx_model.specs.Reading.{body_in, body_reading, carries_payload, is_short_ack, reading_of, with_body}
use Rattle.rx_model.specs.Spelling.{IsPlainBody, ack_bytes, body_bytes, header_bytes, made, mark_byte, window_bytes}
use Rattle.rx_model.proofs.NameLaws.{both, refuted}
use Rattle.rx_rules.specs.After.{looks}
use Rattle.rx_rules.specs.Items.{poll_answer}
use Rattle.rx_rules.specs.Rules.{Allowed, AllowedAt, Legal}
use Rattle.rx_rules.specs.Setup.{Client, FitsSetup, Server, Setup}
use Rattle.rx_rules.specs.Setup.{Kind as NodeKind}

-- ---- what is read is no jumbo datagram

-- DATA with the flag has no reading
no_reading : (a b c d e : Bool) (f g h i j : BadMsg) (x y : Body) → b ≡ true
    → (if a then Err f else if b then Err g else if c then Err h else if d then Err i else if e then Err j else Ok x)
    ≡ Ok y → ⊥
no_reading true b c d e f g h i j x y is bad = absurd cc
no_reading false true c d e f g h i j x y is bad = absurd cc
no_reading false false c d e f g h i j x y is bad = absurd cc

with_body_is : (bytes : List ℕ) (r : Result Body BadMsg) (m : Message) → with_body bytes r ≡ Ok m
    → (body : Body) × (r ≡ Ok body)
with_body_is bytes (Err bad) m is = absurd cc
with_body_is bytes (Ok body) m is = (body, refl)

pub not_jumbo : (b : List ℕ) (m : Message) → reading_of b ≡ Ok m → is_jumbo b ≡ false
not_jumbo b m reads =
    refuted (is_jumbo b) (λ marked. (
    let tests = both _ _ marked in
    let k : ℕ = slice_index b 20 in
    let flags : ℕ = slice_index b 21 in
    let rest : List ℕ = drop 28 b in
    let kind : (k == 1) ≡ true = (both _ _ tests.0).1 in
    let flag : has_flag 32 flags ≡ true = tests.1 in
    let data_flag : ((k == 1) && has_flag 32 flags) ≡ true = rw (kind, flag) refl in
    let body = with_body_is b (body_reading k flags rest) m
    (long-enough (nat_lt (length b) 28) (Short (length b)) (with_body b (body_reading k flags rest)) m reads) in
    no_reading ((k == 0) || nat_lt 7 k) ((k == 1) && has_flag 32 flags)
    (carries_payload k && nat_lt 1444 (length rest)) ((k == 2) && is_short_ack rest)
    ((k == 4) && nat_lt (length rest) 4) (Kind k) Jumbo (TooLong (length rest)) AckShort AbortShort (body_in k rest)
    body.0 data_flag body.1))

-- ---- it is short

window_length : (w : Option ℕ) → length (window_bytes w) ≤ 16
window_length None = omega arith
window_length (Some w) = omega arith

ack_length : (a : AckBody) → length a.marks ≤ 255 → length (ack_bytes a) ≤ 1444
ack_length a few =
    (let marks : length (map mark_byte a.marks) ≡ length a.marks = length-map a.marks mark_byte in
    let window = window_length a.window in
    let behind : length (map mark_byte a.marks ++ 0 ∷ 0 ∷ 0 ∷ window_bytes a.window)
    ≡ length (map mark_byte a.marks) + length (0 ∷ 0 ∷ 0 ∷ window_bytes a.window) =
    length-append (map mark_byte a.marks) (0 ∷ 0 ∷ 0 ∷ window_bytes a.window) in
    omega (arith, marks, window, behind))

body_length : (body : Body) → IsPlainBody body → length (body_bytes body) ≤ 1444
body_length (bodies.Chunk payload) plain = plain
body_length bodies.Busy plain = omega arith
body_length (bodies.Ack a) plain = ack_length a plain.marks
body_length (bodies.Abort code) plain = omega arith
body_length bodies.AckAll plain = omega arith
body_length (bodies.Challenge bytes) plain = plain
body_length (bodies.Response bytes) plain = plain

header_length : (m : Message) (flags status spare : ℕ) (rest : List ℕ)
    → length (header_bytes m flags status spare rest) ≡ length rest + 28
header_length m flags status spare rest = omega arith

-- ---- a poll

answer_of : (kind : NodeKind) (s : Setup) (h : List Event) (got : Option (Host × List ℕ))
    → AllowedAt kind s (looks s h) (events.Polled got) → got ≡ poll_answer s (looks s h)
answer_of (Server service nonces) s h got is = is
answer_of (Client host epoch) s h got is = is

pub single_polled : (s : Setup) (h : List Event) (to : Host) (bytes : List ℕ) → FitsSetup s → Legal s h
    → Allowed s (looks s h) (events.Polled (Some (to, bytes)))
    → (is_jumbo bytes ≡ false) × (length bytes ≤ DATAGRAM_BYTES)
single_polled s h to bytes fits legal allowed =
    (let g : GivesPlain s (looks s h) to bytes =
    poll_gives s h fits legal to bytes (sym (answer_of s.kind s h (Some (to, bytes)) allowed)) in
    let long : length (made g.message) ≡ length (body_bytes g.message.body) + 28 =
    header_length g.message (bit_and g.message.flags 7) 0 0 (body_bytes g.message.body) in
    let short : length (body_bytes g.message.body) ≤ 1444 = body_length g.message.body g.plain.body in
    (not_jumbo bytes g.message g.read, rw g.written (omega (arith, long, short))))
