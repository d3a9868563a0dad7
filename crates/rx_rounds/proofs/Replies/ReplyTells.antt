-- The ACK of a client whose reply comes is no ping, and comes only where it is owed.
use Rattle.std.proofs.Common.{◌≡◌, ◌<◌, ◌+◌, ◌==◌, ℕ, Bool, true, false, cond, List, [], ◌∷◌, refl}
use Rattle.std.proofs.Common.{ap, sym, ◌∙◌, Option, Some, None, nat_le, option_map}
use Rattle.std.proofs.lemmas.Bool.{lt-leb}
use Rattle.std.specs.Prelude.{IfSome}
use Rattle.rx_model.specs.declared.wire.TheConstants.{ACK_PING}
use Rattle.rx_model.specs.Body.{Body}
use Rattle.rx_model.specs.Body as bodies
use Rattle.rx_model.specs.Message.{Message}
use Rattle.rx_rules.specs.CallItems.{Ack, CallItem, Sending}
use Rattle.rx_rules.specs.Least.{least_by}
use Rattle.rx_rules.specs.Owing.{Owed}
use Rattle.rx_rounds.proofs.Exchange.{PollsOut, gives, none_due}
use Rattle.rx_rounds.proofs.Serving.SendsLaws.{tells}
use Rattle.rx_rounds.proofs.One.OneWay.{IsPlainOwed}
use Rattle.rx_rounds.proofs.Pair.{CallEnd, Place, message_of, next_of}

-- where no ping is due, it tells what is owed
abbrev pub tells_by : ℕ → Option Owed → Option Sending
tells_by now None = None
tells_by now (Some o) = cond (nat_le o.rank now) (Some (Ack o.reason o.serial)) None

pub tells_owed : (now spoke : ℕ) (owed : Option Owed) → now < spoke + 2000
    → tells true now spoke owed ≡ tells_by now owed
tells_owed now spoke None early = rw (lt-leb (spoke + 2000) now early) refl
tells_owed now spoke (Some o) early =
    rw (lt-leb (spoke + 2000) now early)
    (elim (nat_le o.rank now) as (λ b. option_map (λ (i : CallItem). i.sending)
    (least_by (λ (i : CallItem). i.rank) (cond b (record { rank = o.rank; sending = Ack o.reason o.serial } ∷ []) []))
    ≡ cond b (Some (Ack o.reason o.serial)) None) [
      | true ↦ refl
      | false ↦ refl
    ])

-- the reason that an ACK tells
abbrev pub reason_in : Body → ℕ
reason_in (bodies.Ack a) = a.reason
reason_in _ = 0

-- the first message that an end without pieces gives is the ACK that is owed
pub told_reason : (p : Place) (e f : CallEnd) (ms : List Message) (m : Message) (rest : List Message)
    → p.client ≡ true → PollsOut p e ms f → ms ≡ m ∷ rest
    → next_of p e.looks ≡ tells p.client p.now e.looks.spoke e.looks.owed_ack → p.now < e.looks.spoke + 2000
    → IfSome e.looks.owed_ack IsPlainOwed → (reason_in m.body == ACK_PING) ≡ false
told_reason p e f ms m rest client (none_due k none) is next early plain =
    absurd (let never : ◌≡◌ {A = List Message} [] (m ∷ rest) = is in cc)
told_reason p e f ms m rest client (gives k l i others given more) is next early plain =
    by e.looks.owed_ack (sym given ∙ next
    ∙ ap (λ (b : Bool). tells b p.now e.looks.spoke e.looks.owed_ack) client
    ∙ tells_owed p.now e.looks.spoke e.looks.owed_ack early) plain
  where
    reason_first : List Message → ℕ
    reason_first [] = 0
    reason_first (x ∷ xs) = reason_in x.body

    first : reason_first (message_of p e i ∷ others) ≡ reason_in m.body
    first = ap (λ (xs : List Message). reason_first xs) is

    by_test : (b : Bool) (o : Owed) → Some i ≡ cond b (Some (Ack o.reason o.serial)) None → IsPlainOwed o
        → (reason_in m.body == ACK_PING) ≡ false
    by_test true o same plain2 =
        let is_ack : i ≡ Ack o.reason o.serial = cc in
        let told : reason_in m.body ≡ o.reason =
        sym first ∙ ap (λ (j : Sending). reason_first (message_of p e j ∷ others)) is_ack in
        ap (λ (r : ℕ). r == ACK_PING) told ∙ plain2.no_ping
    by_test false o same plain2 = absurd (let never : ◌≡◌ {A = Option Sending} (Some i) None = same in cc)

    by : (o : Option Owed) → Some i ≡ tells_by p.now o → IfSome o IsPlainOwed → (reason_in m.body == ACK_PING) ≡ false
    by None same plain2 = absurd (let never : ◌≡◌ {A = Option Sending} (Some i) None = same in cc)
    by (Some o) same plain2 = by_test (nat_le o.rank p.now) o same plain2
