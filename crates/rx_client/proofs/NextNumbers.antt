-- The number of a channel's next call, by its seat and its connection's link.
use Rattle.std.proofs.Common.{◌≡◌, ◌==◌, ◌≤◌, ◌+◌, ℕ, if◌then◌else◌, Bool, true, false, List}
use Rattle.std.proofs.Common.{Some, refl, ap, sym, arith}
use Rattle.std.specs.Prelude.{slice_get}
use Rattle.std.proofs.lemmas.Bool.Decides.{nat_tests}
use Rattle.rx_model.specs.Names.{Channel}
use Rattle.rx_rules.specs.After.{looks}
use Rattle.rx_rules.specs.Classes.{Class}
use Rattle.rx_rules.specs.Looks.{ConnLooks, Looks, channel_at}
use Rattle.rx_rules.specs.Rules.{next_number}
use Rattle.rx_table.specs.declared.seat.Seat.{Seat}
use Rattle.rx_table.specs.Records.{seat_at}
use Rattle.rx_node.specs.declared.link.Link.{Link}
use Rattle.rx_node.specs.Mirrors.{IsChannel, Mirrors}
use Rattle.rx_node.specs.Node.{NodeState, setup_of}
use Rattle.rx_node.proofs.Steps.IdleSteps.{beside_at}
use Rattle.rx_client.specs.Client.{IsCalling}
use Rattle.rx_client.proofs.StartedCalls.{some_number}

pub next_zero : (first number : ℕ) → number ≡ 0 → first ≡ next_number first number
next_zero first number none = grind (arith, nat_tests)

pub next_more : (first number : ℕ) → (number ≡ 0 → ⊥) → number + 1 ≡ next_number first number
next_more first number some = of (number == 0) refl
  where
    of : (b : Bool) → (number == 0) ≡ b → number + 1 ≡ (if b then first else number + 1)
    of true is = absurd (some (zero-is number is))
      where
        zero-is : (n : ℕ) → (n == 0) ≡ true → n ≡ 0
        zero-is n is = grind (arith, nat_tests)
    of false is = refl

module _ (class : List ℕ → Class) (n : NodeState) (l : Looks) (m : Mirrors class n l) where
  -- the link at a place has the first number of its connection
  pub first_is : (place : ℕ) (x : ConnLooks) → slice_get l.conns place ≡ Some x → (link : Link)
      → slice_get n.links place ≡ Some link → link.first ≡ x.first
  first_is place x there link linked =
      let r = beside_at l.conns n.table.conns place x (sym m.conns.conns) there in
      ap (λ (k : Link). k.first) (m.conns.each place r.one link x r.there linked there).linked

  -- a seat has the number of its channel
  pub seat_number : (key : ℕ) (ch : Channel) (seat : Seat) → IsChannel l key ch → seat_at n.table key ≡ Some seat
      → seat.number ≡ (channel_at l ch).number
  seat_number key ch seat at there = (m.channels key ch seat at there).owes.number

-- a client's links have first numbers above 0
pub first_some : (class : List ℕ → Class) (n : NodeState) → IsCalling class n → (place : ℕ) (link : Link)
    → slice_get n.links place ≡ Some link → 1 ≤ link.first
first_some class n c place link linked =
    let m = c.stands.mirrors in
    let x = beside_at n.links (looks (setup_of class n) c.history).conns place link m.conns.links linked in
    let is : link.first ≡ x.one.first =
    first_is class n (looks (setup_of class n) c.history) m place x.one x.there link linked in
    let some : 1 ≤ x.one.first = some_number class n c.history c.fits c.stands place x.one x.there in
    omega arith
