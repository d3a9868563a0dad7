-- How a node is set up. Public clauses cite this module.
use Rattle.std.specs.Prelude.{◌+◌, ◌-◌, ◌%◌, ◌^◌, ◌<◌, ◌≤◌, ℕ, Bool, true, false}
use Rattle.rx_model.specs.declared.names.CallName.{CallName}
use Rattle.rx_model.specs.declared.names.Host.{Host}
use Rattle.rx_model.specs.declared.names.Limits.{Limits}
use Rattle.rx_model.specs.declared.pace.Pace.{Pace}
use Rattle.rx_model.specs.declared.wire.TheConstants.{CLIENT_INITIATED, MIN_WINDOW, MAX_WINDOW}
use Rattle.rx_model.specs.Message.{Message}
use Rattle.rx_model.specs.Names.{name_of}
use Rattle.rx_rules.specs.Classes.{Class, FitsClass}

-- a server of a service, with the nonce of its first connection; or a client with its host and epoch
pub data Kind : Type 0 where
  Server : (service nonces : ℕ) → Kind
  Client : (host : Host) (epoch : ℕ) → Kind

-- a node: its kind, its limits, whether it is prompt (it asks for an acknowledgement behind each half of its window,
-- and gives again at once what it takes for lost), and its class
pub record Setup : Type 0 where
  pub kind : Kind
  pub limits : Limits
  pub prompt : Bool
  pub class : Class

-- one that asks where the windows of its peer and of congestion are full, and no earlier
abbrev pub unprompted : Kind → Limits → Class → Setup
unprompted kind limits class = record { kind = kind; limits = limits; prompt = false; class = class }

-- whether it is a client
abbrev pub is_client : Kind → Bool
is_client (Client host epoch) = true
is_client (Server service nonces) = false

-- the client's host of a connection with a peer
abbrev pub client_host : Kind → Host → Host
client_host (Client host epoch) peer = host
client_host (Server service nonces) peer = peer

-- the call that a message from a peer, or for one, speaks of
abbrev pub named : Setup → Host → Message → CallName
named s peer m = name_of (client_host s.kind peer) m

-- the flag of what this kind of node sends
abbrev pub side_flag : Kind → ℕ
side_flag (Client host epoch) = CLIENT_INITIATED
side_flag (Server service nonces) = 0

-- the nonce of the k-th connection that a server enters, from 0 on; a client has none
abbrev pub nonce_of : Kind → ℕ → ℕ
nonce_of (Server service nonces) k = (nonces + k) % 2 ^ 64
nonce_of (Client host epoch) k = 0

-- ---- ranges

-- limits that a node can be made with
pub record FitsLimits (l : Limits) : Type 0 where
  pub some_conns : 1 ≤ l.conns
  pub few_conns : l.conns ≤ 65536
  pub some_calls : 1 ≤ l.calls
  pub few_calls : l.calls ≤ 4096
  pub some_slots : l.calls < l.slots
  pub few_slots : l.slots ≤ 65536
  pub wide : MIN_WINDOW ≤ l.window
  pub narrow : l.window ≤ MAX_WINDOW

-- the numbers of a kind are within the fields of a header, and a nonce within 64 bits
abbrev pub FitsKind : Kind → Type 0
FitsKind (Server service nonces) = (service < 2 ^ 16) × (nonces < 2 ^ 64)
FitsKind (Client host epoch) = epoch < 2 ^ 32

-- what a node can be made with
pub record FitsSetup (s : Setup) : Type 0 where
  pub kind : FitsKind s.kind
  pub limits : FitsLimits s.limits
  pub class : FitsClass s.class

-- it is a server
abbrev pub IsServer : Kind → Type 0
IsServer (Server service nonces) = Unit {0}
IsServer (Client host epoch) = ⊥

-- ---- what the limits say

-- the window by which the packets that come are judged: so many above those that are done with
abbrev pub receiving_window : Setup → ℕ
receiving_window s = s.limits.window

-- the window by which pieces are held: so many that aren't hard acknowledged
abbrev pub sending_window : Setup → ℕ
sending_window s = s.limits.window

-- how its calls send and take in
abbrev pub pace_of : Setup → Pace
pace_of s = record { window = sending_window s; prompt = s.prompt }

-- the slots that calls may hold beside one for each
abbrev pub shared_slots : Setup → ℕ
shared_slots s = s.limits.slots - s.limits.calls
