-- What every node keeps stays where a connection is entered, whose seats name no ends.
use Rattle.std.proofs.Common.{◌≡◌, ◌<◌, ◌+◌, ◌/◌, ◌%◌, ◌^◌, ℕ, List, [], ◌∷◌, ◌++◌, length, set}
use Rattle.std.proofs.Common.{Option, Some, None, option_map, refl, ◌∙◌, ap, sym, subst, arith, length-append}
use Rattle.std.specs.Prelude.{option_and_then, slice_get}
use Rattle.std.proofs.lemmas.List.{length-set}
use Rattle.rx_model.specs.Names.{Connection}
use Rattle.rx_rules.specs.Classes.{Class}
use Rattle.rx_table.specs.declared.seat.Seat.{Seat}
use Rattle.rx_table.specs.Records.{ConnRecord, Records, fresh_record, fresh_seat, on_place, record_at, seat_at}
use Rattle.rx_node.specs.declared.link.Link.{Link}
use Rattle.rx_node.specs.Node.{IsSeated, IsSetUp, NodeState}
use Rattle.rx_node.proofs.Steps.PlaceSteps.{OldOrNew, New, Old, four-seats, old_or_new}
use Rattle.rx_node.proofs.Steps.TableSteps.{changed-length, decided, record_changed, record_stays}

-- another table, of which each seat that names an end was there, and each connection's cid has room
pub record FewerNamed (n : NodeState) (table : Records) : Type 0 where
  pub seats : (key : ℕ) (s : Seat) (end : ℕ) → seat_at table key ≡ Some s → s.live ≡ Some end
      → seat_at n.table key ≡ Some s
  pub cids : (place : ℕ) (r : ConnRecord) → record_at table place ≡ Some r → r.connection.cid + 3 < 2 ^ 32

pub fewer_seated : (n : NodeState) (table : Records) (links : List Link) → FewerNamed n table → IsSeated n
    → IsSeated (record n { table = table; links = links })
fewer_seated n table links by s =
    record {
      there = λ key seat end is names. s.there key seat end (by.seats key seat end is names) names;
      apart = λ a b here there end is_here is_there names_here names_there.
          s.apart a b here there end (by.seats a here end is_here names_here)
          (by.seats b there end is_there names_there)
          names_here names_there;
      idle = λ key seat end is names. s.idle key seat end (by.seats key seat end is names) names;
      kinds = λ key seat end life is names. s.kinds key seat end life (by.seats key seat end is names) names;
      count = s.count;
      cids = by.cids;
    }

-- a fresh seat names none
fresh-names : (chan : ℕ) (x : Connection) (nonce now : ℕ) (s : Seat) (end : ℕ)
    → slice_get (fresh_record x nonce now).seats chan ≡ Some s → s.live ≡ Some end → ⊥
fresh-names chan x nonce now s end is names =
    (let same : fresh_seat 0 ≡ s = four-seats chan s is in
    let both : None ≡ Some end = ap (λ (u : Seat). u.live) same ∙ names in
    cc (both))

module _ (n : NodeState) (seats : IsSeated n) (x : Connection) (nonce now : ℕ) (room : x.cid + 3 < 2 ^ 32) where
  -- behind the others
  pub entered_named : FewerNamed n (record n.table { conns = n.table.conns ++ fresh_record x nonce now ∷ [] })
  entered_named =
      record {
        seats = λ key s end is names.
            of key s end (slice_get (n.table.conns ++ fresh_record x nonce now ∷ []) (key / 4)) refl is names;
        cids = λ place r is. by-record place r (old_or_new n.table.conns (fresh_record x nonce now) r place is);
      }
    where
      by-seat : (key : ℕ) (s : Seat) (end : ℕ) (r : ConnRecord)
          → OldOrNew n.table.conns (fresh_record x nonce now) (key / 4) r
          → slice_get r.seats (key % 4) ≡ Some s → s.live ≡ Some end → seat_at n.table key ≡ Some s
      by-seat key s end r (Old there) seat names =
          ap (λ (o : Option ConnRecord). option_and_then (λ q. slice_get q.seats (key % 4)) o) there ∙ seat
      by-seat key s end r (New p same) seat names =
          absurd (fresh-names (key % 4) x nonce now s end
          (subst (λ (q : ConnRecord). slice_get q.seats (key % 4) ≡ Some s) (sym same) seat) names)

      of : (key : ℕ) (s : Seat) (end : ℕ) (o : Option ConnRecord)
          → slice_get (n.table.conns ++ fresh_record x nonce now ∷ []) (key / 4) ≡ o
          → option_and_then (λ r. slice_get r.seats (key % 4)) o ≡ Some s → s.live ≡ Some end
          → seat_at n.table key ≡ Some s
      of key s end None there is names = absurd (cc (is))
      of key s end (Some r) there is names =
          by-seat key s end r (old_or_new n.table.conns (fresh_record x nonce now) r (key / 4) there) is names

      by-record : (place : ℕ) (r : ConnRecord) → OldOrNew n.table.conns (fresh_record x nonce now) place r
          → r.connection.cid + 3 < 2 ^ 32
      by-record place r (Old there) = seats.cids place r there
      by-record place r (New p same) = subst (λ (q : ConnRecord). q.connection.cid + 3 < 2 ^ 32) same room

  -- in the place of another
  pub replaced_named : (place : ℕ) → FewerNamed n (on_place place (λ r. fresh_record x nonce now) n.table)
  replaced_named place =
      record {
        seats = λ key s end is names.
            decided (seat_at n.table key ≡ Some s) place (key / 4)
            (λ same. absurd (fresh-names (key % 4) x nonce now s end
            (fresh (record_at n.table (key / 4)) key s
            (ap (λ (o : Option ConnRecord). option_and_then (λ r. slice_get r.seats (key % 4)) o)
            (sym (subst (λ (p : ℕ). record_at (on_place place (λ r. fresh_record x nonce now) n.table) p
            ≡ option_map (λ r. fresh_record x nonce now) (record_at n.table p)) same
            (record_changed n.table place (λ r. fresh_record x nonce now)))) ∙ is)) names))
            (λ apart. ap (λ (o : Option ConnRecord). option_and_then (λ r. slice_get r.seats (key % 4)) o)
            (sym (record_stays n.table place (key / 4) (λ r. fresh_record x nonce now) apart)) ∙ is);
        cids = λ q r is.
            decided (r.connection.cid + 3 < 2 ^ 32) place q
            (λ same. new (record_at n.table q) r
            (sym (subst (λ (p : ℕ). record_at (on_place place (λ r. fresh_record x nonce now) n.table) p
            ≡ option_map (λ r. fresh_record x nonce now) (record_at n.table p)) same
            (record_changed n.table place (λ r. fresh_record x nonce now))) ∙ is))
            (λ apart. seats.cids q r (sym (record_stays n.table place q (λ r. fresh_record x nonce now) apart) ∙ is));
      }
    where
      fresh : (o : Option ConnRecord) (key : ℕ) (s : Seat)
          → option_and_then (λ r. slice_get r.seats (key % 4)) (option_map (λ r. fresh_record x nonce now) o) ≡ Some s
          → slice_get (fresh_record x nonce now).seats (key % 4) ≡ Some s
      fresh None key s is = absurd (cc (is))
      fresh (Some b) key s is = is

      new : (o : Option ConnRecord) (r : ConnRecord) → option_map (λ b. fresh_record x nonce now) o ≡ Some r
          → r.connection.cid + 3 < 2 ^ 32
      new None r is = absurd (cc (is))
      new (Some b) r is =
          (let same : fresh_record x nonce now ≡ r = cc (is) in
          subst (λ (q : ConnRecord). q.connection.cid + 3 < 2 ^ 32) same room)

module _ (class : List ℕ → Class) (n : NodeState) (s : IsSetUp class n) where
  -- it has room for the new one
  pub entered_set_up : (entry : ConnRecord) (link : Link) → length n.table.conns < n.limits.conns
      → IsSetUp class (record n {
        table = record n.table { conns = n.table.conns ++ entry ∷ [] };
        links =
            n.links ++ link ∷ [];
      })
  entered_set_up entry link low =
      record {
        fits = s.fits;
        room = s.room;
        few = (let more = length-append n.table.conns (entry ∷ []) in omega arith);
        links = (
            let more = length-append n.table.conns (entry ∷ []) in
            let also = length-append n.links (link ∷ []) in
            let same = s.links in
            omega arith);
        lives = s.lives;
        client = s.client;
        calls = s.calls;
        pace = s.pace;
        shared = s.shared;
        within = s.within;
      }

  -- or takes a place
  pub replaced_set_up : (place : ℕ) (entry : ConnRecord) (link : Link)
      → IsSetUp class (record n { table = on_place place (λ r. entry) n.table; links = set n.links place link })
  replaced_set_up place entry link =
      record {
        fits = s.fits;
        room = s.room;
        few = (let count = changed-length n.table.conns place (λ r. entry) in let low = s.few in omega arith);
        links = length-set n.links place link ∙ s.links ∙ sym (changed-length n.table.conns place (λ r. entry));
        lives = s.lives;
        client = s.client;
        calls = s.calls;
        pace = s.pace;
        shared = s.shared;
        within = s.within;
      }
