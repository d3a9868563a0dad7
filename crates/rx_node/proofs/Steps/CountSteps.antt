-- A node counts a datagram that is given on a connection.
use Rattle.std.proofs.Common.{◌≡◌, ◌%◌, ◌^◌, ℕ, zero, suc, List, [], ◌∷◌, Option, Some, option_map, refl, ◌∙◌, ap}
use Rattle.std.proofs.Common.{subst, arith}
use Rattle.std.specs.Prelude.{option_and_then, slice_get, IsSomeAnd}
use Rattle.rx_rules.specs.After.{counted}
use Rattle.rx_rules.specs.Classes.{Class}
use Rattle.rx_rules.specs.Looks.{ConnLooks, Looks}
use Rattle.rx_table.specs.declared.seat.Seat.{Seat}
use Rattle.rx_table.specs.Records.{ConnRecord, Records, changed_at, next_serial, on_place, record_at, seat_at}
use Rattle.rx_node.specs.Mirrors.{IsActiveAt, Mirrors}
use Rattle.rx_node.specs.Node.{NodeState, is_active_life, seat_life}
use Rattle.rx_node.proofs.Steps.ConnSteps.{mirrors_conn, seats-same}
use Rattle.rx_node.proofs.KeptNode.{Alike, alike_on_place}
use Rattle.rx_node.proofs.Steps.IdleSteps.{place_stands}
use Rattle.rx_node.proofs.Steps.TableSteps.{record_changed}

-- two changes of one record
changed-twice : (rs : List ConnRecord) (place : ℕ) (f g : ConnRecord → ConnRecord)
    → changed_at place f (changed_at place g rs) ≡ changed_at place (λ r. f (g r)) rs
changed-twice [] place f g = refl
changed-twice (r ∷ rs) zero f g = refl
changed-twice (r ∷ rs) (suc place) f g = ap (λ (qs : List ConnRecord). r ∷ qs) (changed-twice rs place f g)

-- a datagram more at this moment
abbrev pub more : ℕ → ConnRecord → ConnRecord
more now r = record r { serial = next_serial r.serial; last_use = now }

-- the table with it
pub counted_table : (t used drawn : Records) (place now : ℕ)
    → used ≡ on_place place (λ r. record r { last_use = now }) t
    → drawn ≡ on_place place (λ r. record r { serial = next_serial r.serial }) used
    → drawn ≡ on_place place (more now) t
counted_table t used drawn place now touched counts =
    counts ∙ ap (on_place place (λ r. record r { serial = next_serial r.serial })) touched
    ∙ ap (λ (rs : List ConnRecord). record t { conns = rs })
    (changed-twice t.conns place (λ r. record r { serial = next_serial r.serial }) (λ r. record r { last_use = now }))

-- it has the same connections and seats
pub more_alike : (t : Records) (place now : ℕ) → Alike t (on_place place (more now) t)
more_alike t place now = alike_on_place t place (more now) (λ r. refl) (λ r. refl)

-- its channels' calls are active as before
pub more_active : (n : NodeState) (place now key end : ℕ) → IsActiveAt n key end
    → IsActiveAt (record n { table = on_place place (more now) n.table }) key end
more_active n place now key end a =
    let same : seat_at (on_place place (more now) n.table) key ≡ seat_at n.table key =
    seats-same n.table place (more now) (λ r. refl) key in
    record {
      seat = a.seat;
      there = same ∙ a.there;
      live = a.live;
      active = ap (λ (o : Option Seat). is_active_life (option_and_then (seat_life n key) o)) same ∙ a.active;
    }

next-given : (serial given : ℕ) → serial ≡ given % 2 ^ 32 → next_serial serial ≡ suc given % 2 ^ 32
next-given serial given is = omega arith

module _ (class : List ℕ → Class) (n : NodeState) (l : Looks) (m : Mirrors class n l) (place : ℕ) (x : ConnLooks)
    (there : slice_get l.conns place ≡ Some x) where
  -- it mirrors it
  pub mirrors_counted : Mirrors class (record n { table = on_place place (more n.moment) n.table })
      (counted x.connection l)
  mirrors_counted =
      mirrors_conn class n l m place x there (more n.moment) (λ r. record r { given = suc r.given; last_use = l.now })
      (record {
        seats = λ r. refl;
        leaves = record { name = λ r. refl; channels = λ r. refl };
        stands = λ r link y s. record {
          connection = s.connection;
          nonce = s.nonce;
          serial = next-given r.serial y.given s.serial;
          last_use = m.now;
          proved = s.proved;
          seats = s.seats;
          linked = s.linked;
        };
      })

  -- its serial
  pub serial_drawn : (used : Records) (now serial : ℕ)
      → used ≡ on_place place (λ r. record r { last_use = now }) n.table
      → IsSomeAnd (record_at used place) (λ r. serial ≡ next_serial r.serial) → serial ≡ suc x.given % 2 ^ 32
  serial_drawn used now serial touched drawn =
      let p = place_stands class n l m place x there in
      let is : record_at used place ≡ Some (record p.rec { last_use = now }) =
      ap (λ (t : Records). record_at t place) touched
      ∙ record_changed n.table place (λ r. record r { last_use = now })
      ∙ ap (λ (o : Option ConnRecord). option_map (λ (r : ConnRecord). record r { last_use = now }) o) p.rec_there in
      let next : serial ≡ next_serial p.rec.serial =
      subst (λ (o : Option ConnRecord). IsSomeAnd o (λ r. serial ≡ next_serial r.serial)) is drawn in
      next ∙ next-given p.rec.serial x.given p.stands.serial
