-- What a contract sees of a node. Public clauses cite this module.
use Rattle.std.specs.Prelude.{◌≡◌, ◌≤◌, ◌<◌, ◌+◌, ◌-◌, ◌*◌, ◌^◌, length, ℕ, Bool, true, false, List, Option, Some, None}
use Rattle.std.specs.Prelude.{option_map, option_and_then, slice_get}
use Rattle.rx_model.specs.declared.answers.End.{End}
use Rattle.rx_model.specs.declared.names.Limits.{Limits}
use Rattle.rx_model.specs.declared.stray.Stray.{Stray}
use Rattle.rx_rules.specs.Classes.{Class}
use Rattle.rx_rules.specs.Life.{Life, is_active}
use Rattle.rx_rules.specs.Setup.{Setup, Kind, FitsSetup, is_client}
use Rattle.rx_call.specs.Kept.{live_count}
use Rattle.rx_call_ends.specs.Ends.{EndsState, IsIdleAt, IsThere}
use Rattle.rx_table.specs.Records.{ConnRecord, Records, names, record_at, seat_at}
use Rattle.rx_table.specs.declared.seat.Seat.{Seat}
use Rattle.rx_table.specs.declared.seat.TheConstants.{CHANNELS}
use Rattle.rx_node.specs.Lives.{life_of, ended_life, is_of}
use Rattle.rx_node.specs.declared.link.Link.{Link}
use Rattle.rx_node.specs.declared.life.Life.{Life as CodeLife}

-- a node's kind, its limits, whether it is prompt, and its class's secret; its moment; its connections with the seats
-- of their channels, and the peers and services of these; the ends of its calls; by the keys of channels the lives of
-- calls that live; how many do; the stray aborts that it owes
pub record NodeState : Type 0 where
  pub kind : Kind
  pub limits : Limits
  pub prompt : Bool
  pub secret : List ℕ
  pub moment : ℕ
  pub table : Records
  pub links : List Link
  pub ends : EndsState
  pub lives : List CodeLife
  pub live : ℕ
  pub strays : List Stray

-- how it is set up, with the class that goes with a secret
abbrev pub setup_of : (List ℕ → Class) → NodeState → Setup
setup_of class n = record { kind = n.kind; limits = n.limits; prompt = n.prompt; class = class n.secret }

-- ---- the life at a seat

-- the life of a channel's latest call: while it lives that under the channel's key, else by how it ended
abbrev pub life_by : List CodeLife → Bool → ℕ → Option ℕ → Option End → Option Life
life_by lives client key (Some end) ended = option_map life_of (slice_get lives key)
life_by lives client key None ended = option_map (ended_life client) ended

-- that of a channel's latest call, as its seat has it
abbrev pub seat_life : NodeState → ℕ → Seat → Option Life
seat_life n key seat = life_by n.lives (is_client n.kind) key seat.live seat.«end»

-- that of a channel's latest call, by the channel's key
abbrev pub life_at : NodeState → ℕ → Option Life
life_at n key = option_and_then (seat_life n key) (seat_at n.table key)

-- whether a life is active; where there is none it isn't
abbrev pub is_active_life : Option Life → Bool
is_active_life None = false
is_active_life (Some life) = is_active life

-- ---- what every node keeps

-- a node's parts are set up by its kind and its limits, with room for as many as these say
pub record IsSetUp (class : List ℕ → Class) (n : NodeState) : Type 0 where
  pub fits : FitsSetup (setup_of class n)
  pub room : n.table.room ≡ n.limits.conns
  pub few : length n.table.conns ≤ n.limits.conns
  pub links : length n.links ≡ length n.table.conns
  pub lives : length n.lives ≡ CHANNELS * n.limits.conns
  pub client : n.ends.client ≡ is_client n.kind
  pub calls : n.ends.calls.room ≡ n.limits.calls
  pub pace : n.ends.calls.pace ≡ record { window = n.limits.window; prompt = n.prompt }
  pub shared : n.ends.shared ≡ n.limits.slots - n.limits.calls
  pub within : n.moment < 2 ^ 62

-- the end that a seat names is there, and no other seat names it; that of a call that isn't active is idle; the
-- life of a call that lives is one of this kind of node; as many calls live as there are ends; a cid has room for its
-- channel
pub record IsSeated (n : NodeState) : Type 0 where
  pub there : (key : ℕ) (seat : Seat) (end : ℕ) → seat_at n.table key ≡ Some seat → seat.live ≡ Some end
      → IsThere n.ends end
  pub apart : (a b : ℕ) (here there : Seat) (end : ℕ) → seat_at n.table a ≡ Some here → seat_at n.table b ≡ Some there
      → here.live ≡ Some end → there.live ≡ Some end → a ≡ b
  pub idle : (key : ℕ) (seat : Seat) (end : ℕ) → seat_at n.table key ≡ Some seat → seat.live ≡ Some end
      → is_active_life (option_map life_of (slice_get n.lives key)) ≡ false → IsIdleAt n.ends end
  pub kinds : (key : ℕ) (seat : Seat) (end : ℕ) (life : CodeLife) → seat_at n.table key ≡ Some seat
      → seat.live ≡ Some end → slice_get n.lives key ≡ Some life → is_of (is_client n.kind) (life_of life) ≡ true
  pub count : live_count n.ends.calls ≡ n.live
  pub cids : (place : ℕ) (r : ConnRecord) → record_at n.table place ≡ Some r → r.connection.cid + 3 < 2 ^ 32

-- it stays the node that it was, but for its connections and its calls
pub record KeepsSetup (old new : NodeState) : Type 0 where
  pub kind : new.kind ≡ old.kind
  pub limits : new.limits ≡ old.limits
  pub prompt : new.prompt ≡ old.prompt
  pub secret : new.secret ≡ old.secret
  pub moment : new.moment ≡ old.moment

-- it stays the node that it was, with the same connections in their places
pub record KeepsNode (old new : NodeState) : Type 0 where
  pub kind : new.kind ≡ old.kind
  pub limits : new.limits ≡ old.limits
  pub prompt : new.prompt ≡ old.prompt
  pub secret : new.secret ≡ old.secret
  pub moment : new.moment ≡ old.moment
  pub names : names new.table ≡ names old.table
