-- For what look-ups a node stands, part by part. Public clauses cite this module.
use Rattle.std.specs.Prelude.{◌≡◌, ◌<◌, ◌/◌, ◌%◌, ◌^◌, ℕ, true, List, length, Option, Some, None, option_map, slice_get}
use Rattle.std.specs.Prelude.{is_some}
use Rattle.rx_model.specs.declared.names.CallName.{CallName}
use Rattle.rx_model.specs.Names.{Channel}
use Rattle.rx_rules.specs.Classes.{Class}
use Rattle.rx_rules.specs.Life.{is_active, is_live}
use Rattle.rx_rules.specs.Looks.{CallRecord, ChannelLooks, ConnLooks, Looks, call_at, channel_at, is_call, latest}
use Rattle.rx_rules.specs.Setup.{Kind, nonce_of}
use Rattle.rx_history.proofs.Order.Orderly.{Orderly}
use Rattle.rx_history.proofs.Room.RoomStarts.{RoomyAt}
use Rattle.rx_rules.specs.Slots.{common, live}
use Rattle.rx_call_ends.specs.Ends.{StandsEnd}
use Rattle.rx_table.specs.Records.{ConnRecord, record_at, seat_at}
use Rattle.rx_table.specs.declared.seat.Seat.{Seat}
use Rattle.rx_table.specs.declared.seat.TheConstants.{CHANNELS}
use Rattle.rx_node.specs.Node.{NodeState, is_active_life, life_at, seat_life, setup_of}
use Rattle.rx_node.specs.declared.link.Link.{Link}

-- ---- a connection

-- a record of the table and its link say what the look-ups say of a connection, and it has four seats
pub record ConnStands (kind : Kind) (r : ConnRecord) (link : Link) (x : ConnLooks) : Type 0 where
  pub connection : r.connection ≡ x.connection
  pub nonce : r.nonce ≡ nonce_of kind x.order
  pub serial : r.serial ≡ x.given % 2 ^ 32
  pub last_use : r.last_use ≡ x.last_use
  pub proved : r.proved ≡ x.proved
  pub seats : length r.seats ≡ 4
  pub linked : link ≡ record { peer = x.peer; service = x.service; first = x.first }

-- each connection stands in its place
pub record ConnsStand (n : NodeState) (l : Looks) : Type 0 where
  pub conns : length n.table.conns ≡ length l.conns
  pub links : length n.links ≡ length l.conns
  pub each : (place : ℕ) (r : ConnRecord) (link : Link) (x : ConnLooks) → record_at n.table place ≡ Some r
      → slice_get n.links place ≡ Some link → slice_get l.conns place ≡ Some x → ConnStands n.kind r link x

-- ---- a channel

-- a channel of a connection
abbrev pub channel_in : ConnLooks → ℕ → Channel
channel_in x chan = record { connection = x.connection; chan = chan }

-- a key is that of this channel
pub record IsChannel (l : Looks) (key : ℕ) (ch : Channel) : Type 0 where
  pub conn : ConnLooks
  pub there : slice_get l.conns (key / CHANNELS) ≡ Some conn
  pub is : ch ≡ channel_in conn (key % CHANNELS)

-- a seat has what its channel owes, and the number of its latest call
pub record OwesAs (seat : Seat) (q : ChannelLooks) : Type 0 where
  pub number : seat.number ≡ q.number
  pub abort : seat.owed_abort ≡ q.owed_abort
  pub busy : seat.owed_busy ≡ q.owed_busy
  pub challenge : seat.owed_challenge ≡ q.owed_challenge
  pub response : option_map (λ bytes. bytes.items) seat.owed_response ≡ q.owed_response
  pub ackall : seat.owed_ackall ≡ q.owed_ackall

-- the latest call of a channel has the life that its seat says; while that call lives, the seat names its end; while it
-- is active, its end stands for what passed at it
pub record CallStands (n : NodeState) (key : ℕ) (seat : Seat) (call : Option CallRecord) : Type 0 where
  pub life : seat_life n key seat ≡ option_map (λ k. k.life) call
  pub live : is_some seat.live ≡ is_call (λ k. is_live k.life) call
  pub stands : (end : ℕ) (k : CallRecord) → seat.live ≡ Some end → call ≡ Some k → is_active k.life ≡ true
      → StandsEnd n.ends end k.looks

-- the seat with a key stands for its channel: for what it owes, and for its latest call
pub record ChannelStands (n : NodeState) (l : Looks) (key : ℕ) (ch : Channel) (seat : Seat) : Type 0 where
  pub owes : OwesAs seat (channel_at l ch)
  pub call : CallStands n key seat (latest l ch)

-- each channel's seat does
abbrev pub ChannelsStand : NodeState → Looks → Type 0
ChannelsStand n l =
    (key : ℕ) (ch : Channel) (seat : Seat) → IsChannel l key ch → seat_at n.table key ≡ Some seat
    → ChannelStands n l key ch seat

-- ---- a node

-- each part of a node says what the look-ups say; these are in order, and have room
pub record Mirrors (class : List ℕ → Class) (n : NodeState) (l : Looks) : Type 0 where
  pub now : n.moment ≡ l.now
  pub conns : ConnsStand n l
  pub channels : ChannelsStand n l
  pub live : n.live ≡ live l
  pub common : n.ends.common ≡ common l
  pub strays : n.strays ≡ l.strays
  pub numbered : (c : CallName) → c.number ≡ 0 → call_at l c ≡ None
  pub orderly : Orderly (setup_of class n) l
  pub roomy : RoomyAt (setup_of class n) l

-- ---- what a method changes

-- of all look-ups that a node mirrored it then mirrors what the step makes of them
abbrev pub StepsNode : (List ℕ → Class) → NodeState → NodeState → (Looks → Looks) → Type 0
StepsNode class old new step = (l : Looks) → Mirrors class old l → Mirrors class new (step l)

-- the same where the step is one of the channel with a key
abbrev pub StepsAt : (List ℕ → Class) → NodeState → NodeState → ℕ → (Channel → Looks → Looks) → Type 0
StepsAt class old new key step =
    (l : Looks) (ch : Channel) → Mirrors class old l → IsChannel l key ch → Mirrors class new (step ch l)

-- the key of a channel whose latest call is active, with the key of its end
pub record IsActiveAt (n : NodeState) (key end : ℕ) : Type 0 where
  pub seat : Seat
  pub there : seat_at n.table key ≡ Some seat
  pub live : seat.live ≡ Some end
  pub active : is_active_life (life_at n key) ≡ true

-- a key is that of some channel
abbrev pub IsKey : NodeState → ℕ → Type 0
IsKey n key = key / CHANNELS < length n.table.conns
