-- What a contract sees of a `MemWire`. Public clauses cite this module.
use Rattle.std.specs.Prelude.{ℕ, List, [], ◌∷◌, Option, Some, None, Contains, length, take, drop, max, nat_le}
use Rattle.std.specs.Prelude.{if◌then◌else◌}
use Rattle.std.specs.Option.{option_map}
use Rattle.rx_model.specs.declared.names.Host.{Host}
use Rattle.rx_base.specs.Count.{one_more}
use Rattle.rx_wire.specs.declared.mem_wire.Arrival.{Arrival}
use Rattle.rx_wire.specs.Wire.{Came, TookUntil, GaveTo, Traffic, bound_to, logged}
use Rattle.rx_wire.specs.WireLog.{HasRoom}

-- an arrival: the moment at which it comes at the earliest, and what comes
pub record Coming : Type 0 where
  pub at : ℕ
  pub came : Came

-- a wire in memory: the arrivals that haven't come yet, the next one first, how many entries its log takes at most, and
-- how many bytes in them, which calls are to fail, numbered from 1, and what it tells
pub record MemWireState : Type 0 where
  pub arrivals : List Coming
  pub room : ℕ
  pub failing : List ℕ
  pub calls : ℕ
  pub faults : ℕ
  pub moment : ℕ
  pub traffic : Traffic

-- an arrival as it is handed in
abbrev pub coming_of : Arrival → Coming
coming_of a = record { at = a.at; came = record { from = a.from; bytes = a.bytes.items } }

-- the next arrival, where it comes by this moment
abbrev pub first_by : List Coming → ℕ → Option Coming
first_by [] until = None
first_by (one ∷ arrivals) until = if nat_le one.at until then Some one else None

-- the arrivals that are left where the next one came if it comes by this moment
abbrev pub left_by : List Coming → ℕ → List Coming
left_by [] until = []
left_by (one ∷ arrivals) until = if nat_le one.at until then arrivals else one ∷ arrivals

-- an arrival in a buffer of so many bytes: the first of its bytes, as many as fit
abbrev pub cut_to : ℕ → Coming → Came
cut_to len one = record { from = one.came.from; bytes = take len one.came.bytes }

-- the moment up to which a take waits: that of the arrival that comes, or its last
abbrev pub waits_to : Option Coming → ℕ → ℕ
waits_to None until = until
waits_to (Some one) until = one.at

-- how many bytes come
abbrev pub came_bytes : Option Came → ℕ
came_bytes None = 0
came_bytes (Some came) = length came.bytes

-- the bytes of a buffer behind those that a take put there
abbrev pub behind : Option (Host × ℕ) → List ℕ → List ℕ
behind None buffer = buffer
behind (Some (from, count)) buffer = drop count buffer

-- what comes of a take into a buffer of so many bytes
abbrev pub came_by : MemWireState → ℕ → ℕ → Option Came
came_by w until len = option_map (cut_to len) (first_by w.arrivals until)

-- the moment after a take: it never falls
abbrev pub moment_by : MemWireState → ℕ → ℕ
moment_by w until = max w.moment (waits_to (first_by w.arrivals until) until)

-- the next call is one of those that are to fail
abbrev pub IsPlanned : MemWireState → Type 0
IsPlanned w = Contains w.failing (one_more w.calls)

-- a log has room for an entry with so many bytes
abbrev pub Takes : MemWireState → ℕ → Type 0
Takes w count = HasRoom w.traffic.log w.room count

-- a wire whose next call fails: it is counted twice, and all else stays
abbrev pub after_fault : MemWireState → MemWireState
after_fault w = record w { calls = one_more w.calls; faults = one_more w.faults }

-- a wire after a bind: it got what it asked for
abbrev pub after_bind : MemWireState → Host → MemWireState
after_bind w host = record w { calls = one_more w.calls; traffic = bound_to w.traffic host host }

-- a wire after a take into a buffer of so many bytes
abbrev pub after_take : MemWireState → ℕ → ℕ → MemWireState
after_take w until len = record w {
  calls = one_more w.calls;
  arrivals = left_by w.arrivals until;
  moment = moment_by w until;
  traffic = logged w.traffic (TookUntil len until (came_by w until len) (moment_by w until));
}

-- a wire after a datagram given
abbrev pub after_give : MemWireState → Host → List ℕ → MemWireState
after_give w to bytes = record w { calls = one_more w.calls; traffic = logged w.traffic (GaveTo to bytes) }
