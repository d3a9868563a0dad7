-- The channels of calls and their keys, as a node's table has them.
use Rattle.std.proofs.Common.{◌≡◌, ◌<◌, ◌+◌, ◌*◌, ◌/◌, ◌%◌, ℕ, false, List}
use Rattle.std.proofs.Common.{Some, ◌∙◌, ap, sym, arith}
use Rattle.std.specs.Prelude.{slice_get}
use Rattle.rx_model.specs.declared.names.CallName.{CallName}
use Rattle.rx_model.specs.Names.{channel_of, connection_of}
use Rattle.rx_rules.specs.Classes.{Class}
use Rattle.rx_rules.specs.Life.{is_live}
use Rattle.rx_rules.specs.Looks.{Looks, call_at, call_named, is_call, latest_name}
use Rattle.rx_model.proofs.NameLaws.{refuted}
use Rattle.rx_rules.proofs.ConnsLaws.{channel_number}
use Rattle.rx_table.specs.declared.seat.Seat.{Seat}
use Rattle.rx_table.specs.Records.{place_of, seat_at}
use Rattle.rx_node.specs.Mirrors.{IsChannel, Mirrors}
use Rattle.rx_node.specs.Node.{NodeState}
use Rattle.rx_node.proofs.Steps.IdleSteps.{known_at}

module _ (class : List ℕ → Class) (n : NodeState) (l : Looks) (m : Mirrors class n l) where
  module _ (c : CallName) (place : ℕ) (low : c.chan < 4) (found : place_of n.table (connection_of c) ≡ Some place) where
    -- the channel of a call whose connection has a place
    pub key_channel : IsChannel l (4 * place + c.chan) (channel_of c)
    key_channel =
        let k = known_at class n l m (connection_of c) place found in
        let at_place : (4 * place + c.chan) / 4 ≡ place = omega arith in
        let at_chan : (4 * place + c.chan) % 4 ≡ c.chan = omega arith in
        record {
          conn = k.at.conn;
          there = ap (λ (q : ℕ). slice_get l.conns q) at_place ∙ k.at.conn_there;
          is = λ i. record { connection = sym k.named i; chan = sym at_chan i };
        }

  -- a channel whose seat has another number than a call: that call doesn't live
  pub dead_number : (c : CallName) (key : ℕ) (seat : Seat) → IsChannel l key (channel_of c)
      → seat_at n.table key ≡ Some seat
      → (seat.number ≡ c.number → ⊥) → is_call (λ k. is_live k.life) (call_at l c) ≡ false
  dead_number c key seat at there other =
      refuted (is_call (λ k. is_live k.life) (call_at l c))
      (λ lives. other ((m.channels key (channel_of c) seat at there).owes.number
      ∙ channel_number l (channel_of c) ∙ (m.orderly.latest c lives).number))

  -- one whose seat has its number has it as its latest
  pub latest_by_number : (c : CallName) (key : ℕ) (seat : Seat) → IsChannel l key (channel_of c)
      → seat_at n.table key ≡ Some seat → seat.number ≡ c.number → latest_name l (channel_of c) ≡ c
  latest_by_number c key seat at there same =
      ap (λ (k : ℕ). call_named (channel_of c) k)
      (sym (m.channels key (channel_of c) seat at there).owes.number ∙ same)
