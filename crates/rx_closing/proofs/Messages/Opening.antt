-- A first piece of a call that makes sense is kept, or has no slot.
use Rattle.std.proofs.Common.{◌≡◌, ◌≤◌, ◌&&◌, ◌||◌, ◌+◌, ◌==◌, if◌then◌else◌, nat_le, nat_lt, ℕ, suc, zero, Bool, true}
use Rattle.std.proofs.Common.{false, List, refl, sym, subst, arith}
use Rattle.std.proofs.lemmas.Bool.Decides.{nat_tests}
use Rattle.rx_model.specs.declared.pace.Pace.{Pace}
use Rattle.rx_model.specs.declared.answers.Took.{Took}
use Rattle.rx_model.specs.declared.answers.Took.TheVariants as tooks
use Rattle.rx_model.specs.declared.names.CallName.{CallName}
use Rattle.rx_model.specs.declared.wire.TheConstants.{LAST_PACKET}
use Rattle.rx_model.specs.Body as bodies
use Rattle.rx_model.specs.Message.{Message, has_flag}
use Rattle.rx_rules.specs.CallLooks.{NodeView, call_row, fresh_call}
use Rattle.rx_rules.specs.Life as lives
use Rattle.rx_rules.specs.Looks.{CallRecord}
use Rattle.rx_rules.specs.Setup.{Setup, pace_of}
use Rattle.rx_between.specs.Agreed.{MakesSense}
use Rattle.rx_between.proofs.Each.EachStep.{is_start}
use Rattle.rx_progress.proofs.Lowest.{not_acked}

-- the call as it starts at a server
abbrev pub begun_record : Setup → CallName → ℕ → CallRecord
begun_record s c now =
    record { name = c; life = lives.Waiting; looks = fresh_call (pace_of s) now }

-- ---- a first piece that makes sense is kept, or has no slot

pub record CanBegin (v : NodeView) (m : Message) (got : Took) : Type 0 where
  pub low : 1 ≤ m.seq
  pub high : m.seq ≤ v.window
  pub starts : is_start got ≡ true

sense_start : (strange again beyond clash slot : Bool)
    → MakesSense (if strange then tooks.Strange else if again then tooks.Repeat else if beyond then tooks.Beyond
    else if clash then tooks.Clash else if slot then tooks.Kept else tooks.NoSlot)
    → (strange ≡ false → again ≡ false) → (strange ≡ false) × (beyond ≡ false)
    × (is_start (if strange then tooks.Strange else if again then tooks.Repeat else if beyond then tooks.Beyond
    else if clash then tooks.Clash else if slot then tooks.Kept else tooks.NoSlot) ≡ true)
sense_start true again beyond clash slot sense new = absurd sense
sense_start false true beyond clash slot sense new = absurd (let no' = new refl in cc (no'))
sense_start false false true clash slot sense new = absurd sense
sense_start false false false true slot sense new = absurd sense
sense_start false false false false true sense new = (refl, refl, refl)
sense_start false false false false false sense new = (refl, refl, refl)

seq_some : (n : ℕ) → ((n == 0) || nat_lt 4294967294 n) ≡ false → 1 ≤ n
seq_some zero other = absurd cc
seq_some (suc n) other = omega arith

pub can_begin : (v : NodeView) (m : Message) (payload : List ℕ) (pace : Pace) (now : ℕ) → v.client ≡ false
    → MakesSense (call_row v m (bodies.Chunk payload) (fresh_call pace now))
    → CanBegin v m (call_row v m (bodies.Chunk payload) (fresh_call pace now))
can_begin v m payload pace now client sense =
    subst (λ (b : Bool). CanBegin v m (call_row (record v { client = b }) m (bodies.Chunk payload)
    (fresh_call pace now))) (sym client)
    (of (subst (λ (b : Bool). MakesSense (call_row (record v { client = b }) m (bodies.Chunk payload)
    (fresh_call pace now))) client sense))
  where
    of : MakesSense (call_row (record v { client = false }) m (bodies.Chunk payload) (fresh_call pace now))
        → CanBegin v m (call_row (record v { client = false }) m (bodies.Chunk payload) (fresh_call pace now))
    of sense =
        let a = sense_start (((m.seq == 0) || nat_lt 4294967294 m.seq) || false) (nat_le m.seq 0 || false)
        (nat_lt (0 + v.window) m.seq) (false || (has_flag LAST_PACKET m.flags && nat_lt m.seq 0)) _ sense
        (λ other. (let some : 1 ≤ m.seq = seq_some m.seq (not_acked _ false other) in
        let above : nat_le m.seq 0 ≡ false = grind (arith, nat_tests) in rw above refl)) in
        record {
          low = seq_some m.seq (not_acked _ false a.0);
          high = (let no' = a.1 in grind (arith, nat_tests));
          starts = a.2;
        }
