-- An end owes no ping, and owes nothing for long: the reason of what it owes stays another one, and it is due soon.
use Rattle.std.proofs.Common.{◌≡◌, ◌≤◌, ◌+◌, ◌==◌, ◌&&◌, not, if◌then◌else◌, nat_le, nat_lt, ℕ, suc, Bool, true, false}
use Rattle.std.proofs.Common.{Option, Some, None, refl, ap, sym, subst, ◌∙◌, option_map, arith}
use Rattle.rx_model.specs.declared.answers.Took.{Took}
use Rattle.rx_model.specs.declared.answers.Took.TheVariants as tooks
use Rattle.rx_model.specs.declared.wire.TheConstants.{ACK_DELAY, ACK_DUPLICATE, ACK_EXCEEDS_WINDOW, ACK_NOSPACE}
use Rattle.rx_model.specs.declared.wire.TheConstants.{ACK_OUT_OF_SEQUENCE, ACK_DELAY_MS, ACK_PING, ACK_PING_RESPONSE}
use Rattle.rx_model.specs.declared.wire.TheConstants.{ACK_REQUESTED, LAST_PACKET, PROMPT_ACK_DELAY_MS, REQUEST_ACK}
use Rattle.rx_model.specs.Message.{Message, has_flag}
use Rattle.rx_rules.specs.Owing.{Owed, ack_delay_of, at_once, behind_read, delayed, delayed_by, hastened, owed_for}
use Rattle.rx_rules.specs.Owing.{owed_for_ack, owed_for_done, owed_for_kept, owed_for_read}

some-owed : (a b : Owed) → ◌≡◌ {A = Option Owed} (Some a) (Some b) → a ≡ b
some-owed a b same = cc

-- what is owed is no ping, and is due within 100 ms
abbrev pub PlainOwed : ℕ → Option Owed → Type 0
PlainOwed now q = (o : Owed) → q ≡ Some o → ((o.reason == ACK_PING) ≡ false) × (o.rank ≤ now + ACK_DELAY_MS)

plain-one : (now : ℕ) (p : Owed) → (p.reason == ACK_PING) ≡ false → p.rank ≤ now + ACK_DELAY_MS → PlainOwed now (Some p)
plain-one now p no_ping soon o is = (
  ap (λ (x : Owed). x.reason == ACK_PING) (sym (some-owed p o is)) ∙ no_ping,
  subst (λ (x : Owed). x.rank ≤ now + ACK_DELAY_MS) (some-owed p o is) soon,
)

plain-delayed : (now wait at serial : ℕ) (owed : Option Owed) → wait ≤ ACK_DELAY_MS → at ≤ now → PlainOwed now owed
    → PlainOwed now (delayed_by wait at serial owed)
plain-delayed now wait at serial (Some owed) short before plain = plain
plain-delayed now wait at serial None short before plain =
    plain-one now (record { reason = ACK_DELAY; serial = serial; rank = at + wait }) refl
    (omega (arith, short, before))

-- a prompt end waits no longer than any other
short-delay : (prompt : Bool) (flags : ℕ) → ack_delay_of prompt flags ≤ ACK_DELAY_MS
short-delay prompt flags = of (prompt && not (has_flag LAST_PACKET flags))
  where
    of : (b : Bool) → (if b then PROMPT_ACK_DELAY_MS else ACK_DELAY_MS) ≤ ACK_DELAY_MS
    of true = omega arith
    of false = omega arith

plain-behind : (now at : ℕ) (prompt : Bool) (reason serial : ℕ) → at ≤ now → (reason == ACK_PING) ≡ false
    → PlainOwed now (behind_read at prompt reason serial)
plain-behind now at true reason serial before no_ping =
    plain-one now (record { reason = reason; serial = serial; rank = at + 1 }) no_ping (omega (arith, before))
plain-behind now at false reason serial before no_ping =
    plain-one now (record { reason = reason; serial = serial; rank = 0 }) no_ping (omega arith)

plain-at-once : (now reason serial : ℕ) → (reason == ACK_PING) ≡ false → PlainOwed now (at_once reason serial)
plain-at-once now reason serial no_ping =
    plain-one now (record { reason = reason; serial = serial; rank = 0 }) no_ping (omega arith)

plain-kept : (now at : ℕ) (prompt hole : Bool) (m : Message) (front : ℕ) (owed : Option Owed) → at ≤ now
    → PlainOwed now owed → PlainOwed now (owed_for_kept at prompt hole m front owed)
plain-kept now at prompt hole m front owed before plain =
    of (m.seq == suc front) (has_flag REQUEST_ACK m.flags) (prompt && hole)
  where
    of : (next asks fills : Bool)
        → PlainOwed now (if not next then at_once ACK_OUT_OF_SEQUENCE m.serial
        else if asks then behind_read at prompt ACK_REQUESTED m.serial
        else if fills then behind_read at prompt ACK_DELAY m.serial
        else delayed_by (ack_delay_of prompt m.flags) at m.serial owed)
    of false asks fills = plain-at-once now ACK_OUT_OF_SEQUENCE m.serial refl
    of true true fills = plain-behind now at prompt ACK_REQUESTED m.serial before refl
    of true false true = plain-behind now at prompt ACK_DELAY m.serial before refl
    of true false false =
        plain-delayed now (ack_delay_of prompt m.flags) at m.serial owed (short-delay prompt m.flags) before plain

-- of data, whatever its answer
pub plain_for : (got : Took) (now at : ℕ) (prompt hole : Bool) (m : Message) (front : ℕ) (owed : Option Owed)
    → at ≤ now → PlainOwed now owed → PlainOwed now (owed_for got at prompt hole m front owed)
plain_for tooks.Kept now at prompt hole m front owed before plain =
    plain-kept now at prompt hole m front owed before plain
plain_for tooks.Repeat now at prompt hole m front owed before plain = plain-at-once now ACK_DUPLICATE m.serial refl
plain_for tooks.Beyond now at prompt hole m front owed before plain =
    plain-at-once now ACK_EXCEEDS_WINDOW m.serial refl
plain_for tooks.NoSlot now at prompt hole m front owed before plain = plain-at-once now ACK_NOSPACE m.serial refl
plain_for _ now at prompt hole m front owed before plain = plain

-- of an acknowledgement that came
pub plain_ack : (now reason serial : ℕ) (owed : Option Owed) → PlainOwed now owed
    → PlainOwed now (owed_for_ack reason serial owed)
plain_ack now reason serial owed plain = of (reason == ACK_PING)
  where
    of : (b : Bool) → PlainOwed now (if b then at_once ACK_PING_RESPONSE serial else owed)
    of true = plain-at-once now ACK_PING_RESPONSE serial refl
    of false = plain

plain-hastened : (now at : ℕ) (q : Option Owed) → PlainOwed now q → PlainOwed now (option_map (hastened at) q)
plain-hastened now at None plain = λ o is. absurd cc
plain-hastened now at (Some p) plain =
    plain-one now (hastened at p) (plain p refl).0 (of (nat_le p.rank (at + 1)))
  where
    of : (b : Bool) → (if b then 0 else p.rank) ≤ now + ACK_DELAY_MS
    of true = omega arith
    of false = (plain p refl).1

-- of a read
pub plain_read : (now at : ℕ) (prompt : Bool) (before after : ℕ) (owed : Option Owed) → at ≤ now → PlainOwed now owed
    → PlainOwed now (owed_for_read at prompt before after owed)
plain_read now at prompt before after owed early plain = of (nat_lt before after) prompt
  where
    late : PlainOwed now (delayed at 0 owed)
    late = plain-delayed now ACK_DELAY_MS at 0 owed (omega arith) early plain

    of : (more b : Bool) → PlainOwed now (if more then owed_for_done at b owed else owed)
    of true true = plain-hastened now at (delayed at 0 owed) late
    of true false = late
    of false b = plain
