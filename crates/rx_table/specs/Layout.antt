-- How a table keeps its records: connections and seats in a list each. No public clause cites this module.
use Rattle.std.specs.Prelude.{◌≡◌, ◌≤◌, ◌<◌, ◌*◌, ◌^◌, ℕ, Bool, true, List, [], ◌∷◌, Some, map, take, drop}
use Rattle.std.specs.Prelude.{length, option_map, slice_get}
use Rattle.rx_model.specs.Names.{Connection}
use Rattle.rx_table.specs.declared.conn.Conn.{Conn}
use Rattle.rx_table.specs.declared.key.Key.{Key}
use Rattle.rx_table.specs.declared.seat.Seat.{Seat}
use Rattle.rx_table.specs.declared.seat.TheConstants.{CHANNELS}
use Rattle.rx_table.specs.Names.{key_of, place_under}
use Rattle.rx_table.specs.Records.{ConnRecord, IsDistinct}

-- the name of a connection
abbrev pub name_in : Conn → Connection
name_in c = record { host = c.host; epoch = c.epoch; cid = c.cid }

-- a connection with its seats
abbrev pub record_of : Conn → List Seat → ConnRecord
record_of c seats =
    record {
      connection = name_in c;
      nonce = c.nonce;
      serial = c.serial;
      last_use = c.last_use;
      proved = c.proved;
      seats = seats;
    }

-- each connection with the next four seats
abbrev pub joined : List Conn → List Seat → List ConnRecord
joined [] seats = []
joined (c ∷ cs) seats = record_of c (take CHANNELS seats) ∷ joined cs (drop CHANNELS seats)

-- what the index has stands in the list; where it is complete, it has all
pub record IsIndex (xs : List Connection) (index : List (Key × ℕ)) (complete : Bool) : Type 0 where
  pub named : (k : Key) (p : ℕ) → place_under index k ≡ Some p → option_map key_of (slice_get xs p) ≡ Some k
  pub whole : complete ≡ true → (p : ℕ) (x : Connection) → slice_get xs p ≡ Some x
      → place_under index (key_of x) ≡ Some p

-- what a table keeps true
pub record IsKept (cs : List Conn) (ss : List Seat) (index : List (Key × ℕ)) (complete : Bool) (room : ℕ) : Type 0 where
  pub fits : length cs ≤ room
  pub narrow : room < 2 ^ 32
  pub seated : length ss ≡ CHANNELS * length cs
  pub distinct : IsDistinct (map name_in cs)
  pub indexed : IsIndex (map name_in cs) index complete
