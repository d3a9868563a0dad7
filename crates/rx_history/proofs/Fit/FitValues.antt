-- Each number that one end of a call keeps fits its field: what the steps of its parts leave.
use Rattle.std.proofs.Common.{◌≡◌, ◌≤◌, ◌<◌, ◌==◌, ◌+◌, ◌^◌, ℕ, ℤ, suc, if◌then◌else◌, not, nat_lt, is_some, Bool}
use Rattle.std.proofs.Common.{true, false, List}
use Rattle.std.proofs.Common.{◌&&◌, Option, Some, None, option_map, refl, arith}
use Rattle.std.proofs.lemmas.Bool.Decides.{nat_tests}
use Rattle.rx_model.specs.declared.answers.End.TheVariants as ends
use Rattle.rx_model.specs.declared.answers.Took.{Took}
use Rattle.rx_model.specs.declared.answers.Took.TheVariants as tooks
use Rattle.rx_model.specs.declared.wire.TheConstants.{ACK_DELAY_MS, ACK_PING, REQUEST_ACK, RX_CALL_DEAD}
use Rattle.rx_model.specs.Message.{Message, has_flag}
use Rattle.rx_model.specs.Spelling.{IsCode}
use Rattle.rx_rules.specs.Life.{Life, after_accept, after_acks, after_cancel, after_code, after_end, after_finish}
use Rattle.rx_rules.specs.Life.{after_gone, after_later}
use Rattle.rx_rules.specs.Life.{after_silence}
use Rattle.rx_rules.specs.Life as lives
use Rattle.rx_rules.specs.Owing.{Owed, ack_delay_of, at_once, behind_read, delayed, delayed_by, hastened, owed_for}
use Rattle.rx_rules.specs.Owing.{owed_for_ack, owed_for_done, owed_for_given, owed_for_read}
use Rattle.rx_rules.specs.Received.{Packet, Received, after_packet, after_read, greatest, is_no_seq, nothing_received}
use Rattle.rx_rules.specs.Received.{packet_at, used_of}
use Rattle.rx_model.proofs.NameLaws.{neither}
use Rattle.rx_history.proofs.Laws.UsedLaws.{used_keeps, used_reads, with_kept}

-- ---- what came

-- each seq that is kept is below the last that there is, and at most a window above those that are done with
pub record FitsReceived (r : Received) : Type 0 where
  pub seqs : greatest r.kept ≤ 4294967294
  pub near : greatest r.kept ≤ used_of r + 255
  pub previous : r.previous < 2 ^ 32

-- nothing came yet
pub received_none : FitsReceived nothing_received
received_none = record { seqs = omega arith; near = omega arith; previous = omega arith }

-- a packet that may be kept has a seq, isn't kept or done with, and lies within the window
pub record Lies (seq window : ℕ) (r : Received) : Type 0 where
  pub numbered : is_no_seq seq ≡ false
  pub above : used_of r < seq
  pub away : is_some (packet_at r.kept seq) ≡ false
  pub within : nat_lt (used_of r + window) seq ≡ false

seq-low : (seq : ℕ) → nat_lt 4294967294 seq ≡ false → seq ≤ 4294967294
seq-low seq high = grind (arith, nat_tests)

near-by : (used window seq : ℕ) → nat_lt (used + window) seq ≡ false → window ≤ 255 → seq ≤ used + 255
near-by used window seq high narrow = (let low : seq ≤ used + window = grind (arith, nat_tests) in omega arith)

kept-fits : (p : Packet) (window : ℕ) (r : Received) → window ≤ 255 → Lies p.seq window r → FitsReceived r
    → FitsReceived (with_kept p p.seq r)
kept-fits p window r narrow lies f =
    let used = used_keeps p p.seq r lies.above lies.away in
    let top = seq-low p.seq (neither (p.seq == 0) (nat_lt 4294967294 p.seq) lies.numbered).1 in
    let near = near-by (used_of r) window p.seq lies.within narrow in
    record {
      seqs = (let before = f.seqs in omega arith);
      near = (let before = f.near in omega arith);
      previous = omega arith;
    }

-- a packet was judged
pub judged_fits : (got : Took) (p : Packet) (window : ℕ) (r : Received) → window ≤ 255 → p.seq < 2 ^ 32
    → (got ≡ tooks.Kept → Lies p.seq window r) → FitsReceived r → FitsReceived (after_packet got p r)
judged_fits tooks.Kept p window r narrow low lies f = kept-fits p window r narrow (lies refl) f
judged_fits tooks.Repeat p window r narrow low lies f = record { seqs = f.seqs; near = f.near; previous = low }
judged_fits tooks.Beyond p window r narrow low lies f = record { seqs = f.seqs; near = f.near; previous = low }
judged_fits tooks.NoSlot p window r narrow low lies f = record { seqs = f.seqs; near = f.near; previous = low }
judged_fits _ p window r narrow low lies f = f

-- bytes were read, or the end
pub reads_fit : (end : Bool) (bytes : List ℕ) (r : Received) → FitsReceived r → FitsReceived (after_read end bytes r)
reads_fit end bytes r f =
    let used = used_reads end bytes r in
    record { seqs = f.seqs; near = (let before = f.near in omega arith); previous = f.previous }

-- ---- the acknowledgement that is owed

-- its reason is one of the eight
pub record FitsOwed (owed : Owed) : Type 0 where
  pub low : 1 ≤ owed.reason
  pub high : owed.reason ≤ 8
  pub serial : owed.serial < 2 ^ 32

-- of one, where it is owed
abbrev pub OwedFits : Option Owed → Type 0
OwedFits None = Unit {0}
OwedFits (Some owed) = FitsOwed owed

once-fits : (reason serial : ℕ) → 1 ≤ reason → reason ≤ 8 → serial < 2 ^ 32 → OwedFits (at_once reason serial)
once-fits reason serial low high fits = record { low = low; high = high; serial = fits }

delayed-fits : (wait now serial : ℕ) (o : Option Owed) → serial < 2 ^ 32 → OwedFits o
    → OwedFits (delayed_by wait now serial o)
delayed-fits wait now serial (Some owed) fits f = f
delayed-fits wait now serial None fits f = record { low = omega arith; high = omega arith; serial = fits }

if-owed : (b : Bool) (x y : Option Owed) → OwedFits x → OwedFits y → OwedFits (if b then x else y)
if-owed true x y here there = here
if-owed false x y here there = there

behind-fits : (now : ℕ) (prompt : Bool) (reason serial : ℕ) → 1 ≤ reason → reason ≤ 8 → serial < 2 ^ 32
    → OwedFits (behind_read now prompt reason serial)
behind-fits now prompt reason serial low high fits = record { low = low; high = high; serial = fits }

-- a data packet was judged
pub owed_fits : (got : Took) (now : ℕ) (prompt hole : Bool) (m : Message) (front : ℕ) (o : Option Owed)
    → m.serial < 2 ^ 32 → OwedFits o → OwedFits (owed_for got now prompt hole m front o)
owed_fits tooks.Kept now prompt hole m front o low f =
    let wait : ℕ = ack_delay_of prompt m.flags in
    let own : Option Owed = delayed_by wait now m.serial o in
    let filling : Option Owed = behind_read now prompt 8 m.serial in
    let filled : Option Owed = if prompt && hole then filling else own in
    let asked : Option Owed = behind_read now prompt 1 m.serial in
    if-owed (not (m.seq == suc front)) (at_once 3 m.serial) (if has_flag REQUEST_ACK m.flags then asked else filled)
    (once-fits 3 m.serial (omega arith) (omega arith) low)
    (if-owed (has_flag REQUEST_ACK m.flags) asked filled
    (behind-fits now prompt 1 m.serial (omega arith) (omega arith) low)
    (if-owed (prompt && hole) filling own (behind-fits now prompt 8 m.serial (omega arith) (omega arith) low)
    (delayed-fits wait now m.serial o low f)))
owed_fits tooks.Repeat now prompt hole m front o low f = once-fits 2 m.serial (omega arith) (omega arith) low
owed_fits tooks.Beyond now prompt hole m front o low f = once-fits 4 m.serial (omega arith) (omega arith) low
owed_fits tooks.NoSlot now prompt hole m front o low f = once-fits 5 m.serial (omega arith) (omega arith) low
owed_fits _ now prompt hole m front o low f = f

-- an ACK was heard
pub pinged_fits : (reason serial : ℕ) (o : Option Owed) → serial < 2 ^ 32 → OwedFits o
    → OwedFits (owed_for_ack reason serial o)
pinged_fits reason serial o low f =
    if-owed (reason == ACK_PING) (at_once 7 serial) o (once-fits 7 serial (omega arith) (omega arith) low) f

hastened-fits : (now : ℕ) (o : Option Owed) → OwedFits o → OwedFits (option_map (hastened now) o)
hastened-fits now None f = f
hastened-fits now (Some owed) f = record { low = f.low; high = f.high; serial = f.serial }

-- an ACK was given
pub given_owed_fits : (now : ℕ) (tells : Bool) (silent : ℕ) → OwedFits (owed_for_given now tells silent)
given_owed_fits now true silent = record { low = omega arith; high = omega arith; serial = omega arith }
given_owed_fits now false silent = tt

-- more was read
pub read_owed_fits : (now : ℕ) (prompt : Bool) (before after : ℕ) (o : Option Owed) → OwedFits o
    → OwedFits (owed_for_read now prompt before after o)
read_owed_fits now prompt before after o f =
    let later : OwedFits (delayed now 0 o) = delayed-fits ACK_DELAY_MS now 0 o (omega arith) f in
    if-owed (nat_lt before after) (owed_for_done now prompt o) o
    (if-owed prompt (option_map (hastened now) (delayed now 0 o)) (delayed now 0 o)
    (hastened-fits now (delayed now 0 o) later) later) f

-- ---- the code that a life has

-- one that may be told
abbrev pub FitsLife : Life → Type 0
FitsLife (lives.Ended (ends.Cancelled code)) = IsCode code
FitsLife (lives.Broken code) = IsCode code
FitsLife (lives.Over (Some code)) = IsCode code
FitsLife _ = Unit {0}

-- a code reached it
pub code_life : (code : ℤ) (x : Life) → IsCode code → FitsLife x → FitsLife (after_code code x)
code_life code lives.Calling is f = tt
code_life code lives.Waiting is f = is
code_life code lives.Accepted is f = is
code_life code lives.Finished is f = is
code_life code x is f = f

dead-code : IsCode RX_CALL_DEAD
dead-code = omega arith

-- nothing was heard of it
pub silence_life : (n : ℕ) (x : Life) → FitsLife x → FitsLife (after_silence n x)
silence_life n lives.Calling f = tt
silence_life n lives.Waiting f = dead-code
silence_life n lives.Accepted f = dead-code
silence_life n lives.Finished f = dead-code
silence_life n x f = f

-- a later call took its channel
pub later_life : (x : Life) → FitsLife x → FitsLife (after_later x)
later_life lives.Waiting f = dead-code
later_life lives.Finished f = tt
later_life x f = f

-- its pieces were acknowledged
pub acks_life : (all : Bool) (x : Life) → FitsLife x → FitsLife (after_acks all x)
acks_life true lives.Finished f = tt
acks_life false lives.Finished f = tt
acks_life all x f = f

-- a handler took it
pub accept_life : (x : Life) → FitsLife x → FitsLife (after_accept x)
accept_life lives.Waiting f = tt
accept_life x f = f

-- its handler ended
pub finish_life : (fine : Bool) (code : ℤ) (x : Life) → IsCode code → FitsLife x → FitsLife (after_finish fine code x)
finish_life true code lives.Accepted is f = tt
finish_life false code lives.Accepted is f = is
finish_life true code x is f = f
finish_life false code x is f = f

-- its handler was told that it is broken
pub gone_life : (x : Life) → FitsLife x → FitsLife (after_gone x)
gone_life (lives.Broken code) f = f
gone_life x f = f

-- it was read to its end
pub end_life : (end : Bool) (x : Life) → FitsLife x → FitsLife (after_end end x)
end_life true lives.Calling f = tt
end_life true x f = f
end_life false x f = f

-- it was given up
pub cancel_life : (code : ℤ) (x : Life) → IsCode code → FitsLife x → FitsLife (after_cancel code x)
cancel_life code lives.Calling is f = is
cancel_life code x is f = f
