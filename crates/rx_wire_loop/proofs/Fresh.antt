-- The first connection and the first call of a client, which has room for one of each.
use Rattle.std.proofs.Common.{◌≡◌, ◌∙◌, ◌≤◌, ◌-◌, ◌^◌, ◌==◌, ℕ, Bool, false, List, [], ◌∷◌, Option, Some, None, Result}
use Rattle.std.proofs.Common.{Ok}
use Rattle.std.proofs.Common.{Err, ap, arith}
use Rattle.std.specs.Prelude.{if◌then◌else◌, nat_le, filter, not, option_and_then, slice_get, unwrap_or}
use Rattle.std.proofs.lemmas.Bool.Decides.{nat_tests}
use Rattle.rx_model.specs.declared.answers.CallRefused.{CallRefused}
use Rattle.rx_model.specs.declared.answers.CallRefused.TheVariants as crowds
use Rattle.rx_model.specs.declared.answers.ConnFull.{ConnFull}
use Rattle.rx_model.specs.declared.event.Event.TheVariants as events
use Rattle.rx_model.specs.declared.names.Host.{Host}
use Rattle.rx_model.specs.Names.{Channel, Connection}
use Rattle.rx_model.proofs.NameLaws.{connection_itself}
use Rattle.rx_rules.specs.After.{looks}
use Rattle.rx_rules.specs.Looks.{ConnLooks, Looks, call_named, channel_at, conn_at, fresh_channel}
use Rattle.rx_rules.specs.Records.{fresh_conn}
use Rattle.rx_rules.specs.Rules.{Allowed, AllowedAt, call_answer, call_of_conn, call_on, is_worn}
use Rattle.rx_rules.specs.Rules.{next_number}
use Rattle.rx_rules.specs.Setup.{Client, FitsLimits, Kind, Server, Setup}

-- nothing isn't as many as may be
none_full : (most : ℕ) → 1 ≤ most → nat_le most 0 ≡ false
none_full most some = grind (arith, nat_tests)

-- a result of the one kind isn't of the other
never : {A E : Type 0} (e : E) (a : A) (r : Result A E) → r ≡ Ok a → Err e ≡ r → ⊥
never e a r is refused = absurd (cc (refused ∙ is))

module _ (s : Setup) (fits : FitsLimits s.limits) (now : ℕ) where
  -- how it is set up, if it were of another kind
  abbrev of_kind : Kind → Setup
  of_kind kind = record s { kind = kind }

  -- its connection is made
  linked_at : (kind : Kind) (to : Host) (service first : ℕ) (full : ConnFull)
      → AllowedAt kind (of_kind kind) (looks (of_kind kind) (events.Clocked now ∷ []))
      (events.Linked to service first (Err full)) → ⊥
  linked_at (Server service nonces) to its first full allowed = absurd allowed
  linked_at (Client host epoch) to its first full allowed =
      never full 4 _
      (ap (λ (b : Bool). if b then Err (record {}) else Ok 4) (none_full s.limits.conns fits.some_conns)) allowed.3

  pub linked_ok : (to : Host) (service first : ℕ) (full : ConnFull)
      → Allowed s (looks s (events.Clocked now ∷ [])) (events.Linked to service first (Err full)) → ⊥
  linked_ok to service first full allowed = linked_at s.kind to service first full allowed

  -- its call is started
  module _ (host : Host) (epoch : ℕ) (to : Host) (service cid : ℕ) where
    abbrev x : Connection
    x = record { host = host; epoch = epoch; cid = cid }

    abbrev client : Setup
    client = of_kind (Client host epoch)

    abbrev l : Looks
    l = looks client (events.Linked to service 1 (Ok cid) ∷ events.Clocked now ∷ [])

    abbrev r : ConnLooks
    r = fresh_conn x to service 1 (looks client (events.Clocked now ∷ []))

    abbrev ch : ℕ → Channel
    ch k = record { connection = x; chan = k }

    there : conn_at l x ≡ Some r
    there = ap (λ (b : Bool). if b then Some r else None) (connection_itself x)

    first_free : channel_at l (ch 0) ≡ fresh_channel 0
    first_free =
        ap (λ (o : Option ConnLooks). unwrap_or (option_and_then (λ q. slice_get q.channels 0) o) (fresh_channel 0))
        there

    unworn : is_worn l (ch 0) ≡ false
    unworn = ap (λ (q : Rattle.rx_rules.specs.Looks.ChannelLooks). q.number == 2 ^ 32 - 1) first_free

    abbrev others : List Channel
    others = filter (λ d. not (is_worn l d)) (ch 1 ∷ ch 2 ∷ ch 3 ∷ [])

    chosen : call_answer client host epoch l cid
        ≡ call_on client l r (ch 0 ∷ others)
    chosen =
        ap (call_of_conn client l) there
        ∙ ap (λ (b : Bool). call_on client l r (if not b then ch 0 ∷ others else others)) unworn

    answers_ok : call_answer client host epoch l cid
        ≡ Ok (call_named (ch 0) (next_number 1 (channel_at l (ch 0)).number))
    answers_ok =
        chosen ∙ ap (λ (b : Bool). if b then Err crowds.NoRoom
        else Ok (call_named (ch 0) (next_number 1 (channel_at l (ch 0)).number)))
        (none_full s.limits.calls fits.some_calls)

  started_at : (kind : Kind) (to : Host) (service cid : ℕ) (refused : CallRefused)
      → AllowedAt kind (of_kind kind) (looks (of_kind kind) (events.Linked to service 1 (Ok cid)
      ∷ events.Clocked now ∷ [])) (events.Called cid (Err refused)) → ⊥
  started_at (Server its nonces) to service cid refused allowed = absurd allowed
  started_at (Client host epoch) to service cid refused allowed =
      never refused _ _ (answers_ok host epoch to service cid) allowed

  pub started_ok : (to : Host) (service cid : ℕ) (refused : CallRefused)
      → Allowed s (looks s (events.Linked to service 1 (Ok cid) ∷ events.Clocked now ∷ []))
      (events.Called cid (Err refused)) → ⊥
  started_ok to service cid refused allowed = started_at s.kind to service cid refused allowed
