-- The call of a name where it is its channel's latest, as a node's table has it.
use Rattle.std.proofs.Common.{◌≡◌, ◌<◌, ◌≤◌, ◌==◌, ◌⊎◌, ℕ, zero, suc, if◌then◌else◌, Bool, true, false, List, [], ◌∷◌}
use Rattle.std.proofs.Common.{length}
use Rattle.std.proofs.Common.{Option, Some, None, refl, ◌∙◌, ap, sym, arith, inl, inr}
use Rattle.rx_model.specs.declared.names.CallName.{CallName}
use Rattle.rx_model.specs.Names.{channel_of, connection_of}
use Rattle.rx_rules.specs.Classes.{Class}
use Rattle.rx_rules.specs.Looks.{ChannelLooks, ConnLooks, Looks, call_at, channel_at, conn_at, latest, latest_name}
use Rattle.rx_rules.specs.Rules.{own_call}
use Rattle.rx_model.proofs.NameLaws.{number_itself, refuted, same_number}
use Rattle.rx_rules.proofs.ConnsLaws.{channel_number, number_in, number_of}
use Rattle.rx_rules.proofs.KeepsLaws.{Fours}
use Rattle.rx_history.proofs.Order.Orderly.{four_there}
use Rattle.rx_table.specs.declared.seat.Seat.{Seat}
use Rattle.rx_table.specs.Records.{seat_at}
use Rattle.rx_node.specs.Mirrors.{IsChannel, Mirrors}
use Rattle.rx_node.specs.Node.{NodeState, setup_of}

-- ---- in look-ups

-- a channel's latest call is its own
pub own_latest : (l : Looks) (c : CallName) → latest_name l (channel_of c) ≡ c → own_call l c ≡ latest l (channel_of c)
own_latest l c is =
    ap (λ (n : ℕ). if (channel_at l (channel_of c)).number == n then call_at l c else None)
    (sym (ap (λ (d : CallName). d.number) is))
    ∙ ap (λ (b : Bool). if b then call_at l c else None) (number_itself (channel_at l (channel_of c)).number)
    ∙ ap (λ (d : CallName). call_at l d) (sym is)

-- one of another number isn't
pub own_other : (l : Looks) (c : CallName) → ((channel_at l (channel_of c)).number ≡ c.number → ⊥) → own_call l c ≡ None
own_other l c other =
    ap (λ (b : Bool). if b then call_at l c else None)
    (refuted ((channel_at l (channel_of c)).number == c.number) (λ same. other (same_number _ _ same)))

past-four : (qs : List ChannelLooks) (n : ℕ) → length qs ≤ n → number_in qs n ≡ 0
past-four [] n high = refl
past-four (q ∷ qs) zero high = absurd (omega arith)
past-four (q ∷ qs) (suc n) high = past-four qs n (omega arith)

low-or-not : (n : ℕ) → (n < 4) ⊎ (4 ≤ n)
low-or-not zero = inl (omega arith)
low-or-not (suc zero) = inl (omega arith)
low-or-not (suc (suc zero)) = inl (omega arith)
low-or-not (suc (suc (suc zero))) = inl (omega arith)
low-or-not (suc (suc (suc (suc n)))) = inr (omega arith)

module _ (class : List ℕ → Class) (n : NodeState) (l : Looks) (m : Mirrors class n l) (c : CallName) where
  number-none : conn_at l (connection_of c) ≡ None → number_of (conn_at l (connection_of c)) c.chan ≡ 0
  number-none none = ap (λ (o : Option ConnLooks). number_of o c.chan) none

  number-past : (o : Option ConnLooks) → Fours o → 4 ≤ c.chan → number_of o c.chan ≡ 0
  number-past None four high = refl
  number-past (Some r) four high = past-four r.channels c.chan (omega arith)

  number-missing : (c.chan < 4 → conn_at l (connection_of c) ≡ None) → (c.chan < 4) ⊎ (4 ≤ c.chan)
      → number_of (conn_at l (connection_of c)) c.chan ≡ 0
  number-missing none (inl low) = number-none (none low)
  number-missing none (inr high) =
      number-past (conn_at l (connection_of c)) (four_there (setup_of class n) l (connection_of c) m.orderly) high

  -- there is none of a channel that isn't there
  pub own_missing : (c.chan < 4 → conn_at l (connection_of c) ≡ None) → own_call l c ≡ None
  own_missing none =
      let zero_is : (channel_at l (channel_of c)).number ≡ 0 =
      channel_number l (channel_of c) ∙ number-missing none (low-or-not c.chan) in
      ap (λ (k : ℕ). if k == c.number then call_at l c else None) zero_is ∙ of (0 == c.number) refl
    where
      of : (b : Bool) → (0 == c.number) ≡ b → (if b then call_at l c else None) ≡ None
      of true is = m.numbered c (sym (same_number _ _ is))
      of false is = refl

  -- there is none where the seat has another number
  pub own_unseated : (key : ℕ) (seat : Seat) → IsChannel l key (channel_of c) → seat_at n.table key ≡ Some seat
      → (seat.number ≡ c.number → ⊥) → own_call l c ≡ None
  own_unseated key seat at there other =
      own_other l c (λ same. other ((m.channels key (channel_of c) seat at there).owes.number ∙ same))
