-- A body that a channel owes is plain, and so is each ACK that a call owes.
use Rattle.std.proofs.Common.{◌≡◌, ◌<◌, ◌≤◌, ◌+◌, ◌-◌, ◌^◌, ℕ, ℤ, zero, suc, if◌then◌else◌}
use Rattle.std.proofs.Common.{Bool, true, false, List, [], ◌∷◌, ◌++◌, length, length-append}
use Rattle.std.proofs.Common.{Option, Some, None, is_some, option_map, refl, arith}
use Rattle.std.specs.Prelude.{IfSome}
use Rattle.rx_model.specs.Body.{Body}
use Rattle.rx_model.specs.Body as bodies
use Rattle.rx_model.specs.Spelling.{IsCode, IsPlainAck, IsPlainBody}
use Rattle.rx_rules.specs.CallItems.{CallItem, Sending, ack_body, ack_items, again_items, asks, call_items, can_give}
use Rattle.rx_rules.specs.CallItems.{fresh_items, item_at, lost_items}
use Rattle.rx_rules.specs.CallItems.{piece_items, ping_items, resend_after}
use Rattle.rx_rules.specs.CallItems as sendings
use Rattle.rx_rules.specs.Classes.{FitsAnswer}
use Rattle.rx_rules.specs.Items.{where_owed}
use Rattle.rx_rules.specs.Looks.{CallRecord}
use Rattle.rx_rules.specs.Lost.{lost_of}
use Rattle.rx_rules.specs.Owing.{Owed}
use Rattle.rx_rules.specs.Received.{Packet, Received, greatest, marks_from, marks_of, packet_at, used_of}
use Rattle.rx_rules.specs.Sent.{LastGiving, last_giving, lowest_of}
use Rattle.rx_rules.proofs.EveryLaws.{Every, every-append}
use Rattle.rx_history.proofs.Fit.FitCall.{FitsCall}
use Rattle.rx_history.proofs.Fit.FitValues.{FitsReceived, OwedFits}
use Rattle.rx_rules.proofs.ReachLaws.{reach_within}
use Rattle.rx_history.proofs.Laws.UsedLaws.{used_within}

-- ---- a body

-- it is DATA or an ACK
abbrev pub IsSent : Body → Type 0
IsSent (bodies.Chunk payload) = Unit {0}
IsSent (bodies.Ack a) = Unit {0}
IsSent _ = ⊥

-- it is neither, and fits
abbrev pub OwedBody : Body → Type 0
OwedBody (bodies.Chunk payload) = ⊥
OwedBody (bodies.Ack a) = ⊥
OwedBody body = IsPlainBody body

-- so it is plain
pub owed_plain : (body : Body) → OwedBody body → IsPlainBody body
owed_plain (bodies.Chunk payload) is = absurd is
owed_plain (bodies.Ack a) is = absurd is
owed_plain (bodies.Abort code) is = is
owed_plain bodies.Busy is = is
owed_plain bodies.AckAll is = is
owed_plain (bodies.Challenge bytes) is = is
owed_plain (bodies.Response bytes) is = is

-- it is not both
pub owed_apart : (body : Body) → OwedBody body → IsSent body → ⊥
owed_apart (bodies.Chunk payload) is sent = is
owed_apart (bodies.Ack a) is sent = is
owed_apart (bodies.Abort code) is sent = sent
owed_apart bodies.Busy is sent = sent
owed_apart bodies.AckAll is sent = sent
owed_apart (bodies.Challenge bytes) is sent = sent
owed_apart (bodies.Response bytes) is sent = sent

-- it is an ABORT
abbrev pub is_abort : Body → Bool
is_abort (bodies.Abort code) = true
is_abort _ = false

-- ---- where it is owed

-- by a channel whose latest call has this number: an ABORT only where there was one
abbrev pub OwedAt : ℕ → Body → Type 0
OwedAt n body = OwedBody body × (is_abort body ≡ true → 1 ≤ n)

-- an ABORT
pub abort_one : (o : Option ℤ) (n : ℕ) → IfSome o IsCode → IfSome o (λ code. 1 ≤ n)
    → IfSome (option_map bodies.Abort o) (OwedAt n)
abort_one None n is some = tt
abort_one (Some code) n is some = (is, λ aborts. some)

-- a RESPONSE
pub response_one : (o : Option (List ℕ)) (n : ℕ) → IfSome o FitsAnswer
    → IfSome (option_map bodies.Response o) (OwedAt n)
response_one None n is = tt
response_one (Some bytes) n is = ((let short = is.1 in omega arith), λ aborts. absurd cc)

-- any other
pub where_one : (b : Bool) (body : Body) (n : ℕ) → is_abort body ≡ false → OwedBody body
    → IfSome (where_owed b body) (OwedAt n)
where_one true body n other is = (is, λ aborts. absurd (cc (aborts, other)))
where_one false body n other is = tt

-- ---- an acknowledgement

pub marks-count : (kept : List Packet) (used n : ℕ) → length (marks_from kept used n) ≡ n
marks-count kept used zero = refl
marks-count kept used (suc n) =
    (let before : length (marks_from kept used n) ≡ n = marks-count kept used n in
    let joined = length-append (marks_from kept used n) (is_some (packet_at kept (used + suc n)) ∷ []) in
    omega arith)

-- the first packet that it speaks of
pub used_low : (r : Received) → FitsReceived r → used_of r + 1 < 2 ^ 32
used_low r f =
    let seqs = f.seqs in
    let used = used_within r in
    let front = reach_within (λ k. is_some (packet_at r.kept k)) (greatest r.kept) in
    omega arith

-- its marks
pub marks_low : (r : Received) → FitsReceived r → length (marks_of r) ≤ 255
marks_low r f =
    let near = f.near in
    let marks : length (marks_from r.kept (used_of r) (greatest r.kept - used_of r)) ≡ greatest r.kept - used_of r =
    marks-count r.kept (used_of r) (greatest r.kept - used_of r) in
    omega arith

-- with these it is plain
pub ack_plain : (window reason serial : ℕ) (r : Received) → window ≤ 255 → 1 ≤ reason → reason ≤ 8 → serial < 2 ^ 32
    → FitsReceived r
    → IsPlainAck (ack_body window reason serial r)
ack_plain window reason serial r narrow low high fits f =
    record {
      first = used_low r f;
      previous = f.previous;
      serial = fits;
      reason_low = low;
      reason_high = high;
      marks = marks_low r f;
      window = omega arith;
    }

-- an ACK's reason and serial fit
abbrev pub AckFits : Sending → Type 0
AckFits (sendings.Piece seq again) = Unit {0}
AckFits (sendings.Ack reason serial) = (1 ≤ reason) × (reason ≤ 8) × (serial < 2 ^ 32)

-- of each
abbrev pub AcksFit : List CallItem → Type 0
AcksFit is = Every (λ i. AckFits i.sending) is

lost-fit : (o : Option ℕ) → AcksFit (lost_items o)
lost-fit None = tt
lost-fit (Some k) = (tt, tt)

again-fit : (wait k : ℕ) (o : Option LastGiving) → AcksFit (again_items wait k o)
again-fit wait k None = tt
again-fit wait k (Some g) = (tt, tt)

fresh-fit : (b : Bool) (seq : ℕ) → AcksFit (if b then item_at 0 (sendings.Piece seq false) else [])
fresh-fit true seq = (tt, tt)
fresh-fit false seq = tt

ack-fit : (o : Option Owed) → OwedFits o → AcksFit (ack_items o)
ack-fit None f = tt
ack-fit (Some owed) f = ((f.low, f.high, f.serial), tt)

ping-fit : (client : Bool) (spoke : ℕ) → AcksFit (ping_items client spoke)
ping-fit true spoke = ((omega arith, omega arith, omega arith), tt)
ping-fit false spoke = tt

-- so they do of each item of a call
pub acks_fit : (client : Bool) (k : CallRecord) → FitsCall k → AcksFit (call_items client k.looks)
acks_fit client k f =
    let P : CallItem → Type 0 = λ i. AckFits i.sending in
    let rto : ℕ = k.looks.rtt.rto in
    let low : ℕ = lowest_of k.looks.sent in
    let given : Option LastGiving = last_giving k.looks.sent.givings low in
    let wait : ℕ = resend_after rto k.looks.cwnd.prompt given in
    every-append P (piece_items rto k.looks.cwnd k.looks.sent)
    (ack_items k.looks.owed_ack ++ ping_items client k.looks.spoke)
    (every-append P (lost_items (lost_of k.looks.cwnd k.looks.sent))
    (fresh_items k.looks.cwnd k.looks.sent ++ again_items wait low given)
    (lost-fit (lost_of k.looks.cwnd k.looks.sent))
    (every-append P (fresh_items k.looks.cwnd k.looks.sent) (again_items wait low given)
    (fresh-fit (can_give k.looks.cwnd k.looks.sent) _) (again-fit wait low given)))
    (every-append P (ack_items k.looks.owed_ack) (ping_items client k.looks.spoke) (ack-fit k.looks.owed_ack f.owed)
    (ping-fit client k.looks.spoke))
