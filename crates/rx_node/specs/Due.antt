-- What is due at a node, as the code keeps it and as the rules have it. Public clauses cite this module.
use Rattle.std.specs.Prelude.{◌≡◌, ◌+◌, ◌&&◌, not, if◌then◌else◌, ℕ, ℤ, Bool, List, Option, Some, None, is_some}
use Rattle.std.specs.Prelude.{IsSomeAnd}
use Rattle.rx_model.specs.declared.names.CallName.{CallName}
use Rattle.rx_model.specs.declared.names.Host.{Host}
use Rattle.rx_model.specs.declared.wire.TheConstants.{SILENCE_MS}
use Rattle.rx_model.specs.Body.{Body}
use Rattle.rx_model.specs.Body as bodies
use Rattle.rx_model.specs.Message.{Message}
use Rattle.rx_model.specs.Names.{Channel, connection_of}
use Rattle.rx_model.specs.Spelling.{made}
use Rattle.rx_packet.specs.declared.head.Head.{Head}
use Rattle.rx_packet.specs.Seen.{message_with_head}
use Rattle.rx_rules.specs.After.{counted, given_body}
use Rattle.rx_rules.specs.CallItems.{CallItem, call_items}
use Rattle.rx_rules.specs.Classes.{Class}
use Rattle.rx_rules.specs.Items.{Item, channel_items, item_of, items_of, message_on}
use Rattle.rx_rules.specs.Judging.{nonce_at}
use Rattle.rx_rules.specs.Least.{least_by, lesser_by}
use Rattle.rx_rules.specs.Life.{is_active}
use Rattle.rx_rules.specs.Looks.{CallRecord, ConnLooks, Looks, call_named, channel_at, conn_at, latest, latest_name}
use Rattle.rx_rules.specs.Setup.{Setup, is_client}
use Rattle.rx_table.specs.declared.seat.Seat.{Seat}
use Rattle.rx_node.specs.Mirrors.{IsActiveAt, IsChannel, IsKey, Mirrors}
use Rattle.rx_node.specs.Node.{NodeState, setup_of}
use Rattle.rx_node.specs.declared.item.Due.{Due}
use Rattle.rx_node.specs.declared.item.Item.{Item as CodeItem}
use Rattle.rx_node.specs.declared.item.Item.TheVariants as items

-- the lesser of two, the first where they are equal
abbrev pub lesser_of : {X : Type 0} → (X → ℕ) → Option X → Option X → Option X
lesser_of rank None other = other
lesser_of rank (Some x) other = Some (lesser_by rank x other)

-- look-ups by which no call is silent
abbrev pub unsilenced : Looks → Looks
unsilenced l = record l { now = 0 }

-- ---- items

-- a body that is due at once
abbrev pub at_once : CallName → Body → Item
at_once c body = record { rank = 0; name = c; seq = 0; flags = 0; body = body }

-- the challenge of a call
abbrev pub challenge_of : Setup → Looks → CallName → Body
challenge_of s l c = bodies.Challenge (s.class.challenge c (nonce_at s (conn_at l (connection_of c))))

-- the least item of a channel's latest call
pub record SendsItem (s : Setup) (l : Looks) (ch : Channel) (i : Item) : Type 0 where
  pub call : CallRecord
  pub there : latest l ch ≡ Some call
  pub item : CallItem
  pub least : least_by (λ j. j.rank) (call_items (is_client s.kind) call.looks) ≡ Some item
  pub is : i ≡ item_of s call item

-- an item of a channel as the code has it is this one of the rules
abbrev pub IsItem : Setup → Looks → Channel → CodeItem → Item → Type 0
IsItem s l ch (items.Abort code) i = i ≡ at_once (latest_name l ch) (bodies.Abort code)
IsItem s l ch (items.Busy number) i = i ≡ at_once (call_named ch number) bodies.Busy
IsItem s l ch items.Challenge i = i ≡ at_once (latest_name l ch) (challenge_of s l (latest_name l ch))
IsItem s l ch items.Response i =
    IsSomeAnd (channel_at l ch).owed_response (λ bytes. i ≡ at_once (latest_name l ch) (bodies.Response bytes))
IsItem s l ch items.AckAll i = i ≡ at_once (latest_name l ch) bodies.AckAll
IsItem s l ch (items.Sending end) i = SendsItem s l ch i

-- what is due is this item of the rules
pub record IsDueAs (s : Setup) (l : Looks) (due : Due) (i : Item) : Type 0 where
  pub channel : Channel
  pub at : IsChannel l due.key channel
  pub rank : due.rank ≡ i.rank
  pub is : IsItem s l channel due.item i

-- what is due is that item of the rules, or neither is there
abbrev pub AreDueAs : Setup → Looks → Option Due → Option Item → Type 0
AreDueAs s l None None = Unit {0}
AreDueAs s l None (Some i) = ⊥
AreDueAs s l (Some due) None = ⊥
AreDueAs s l (Some due) (Some i) = IsDueAs s l due i

-- ---- of a channel

-- a channel owes this item at once, the first of all
pub record OwesFirst (s : Setup) (l : Looks) (ch : Channel) (item : CodeItem) : Type 0 where
  pub first : Item
  pub is : IsItem s l ch item first
  pub rank : first.rank ≡ 0
  pub least : least_by (λ j. j.rank) (channel_items s (unsilenced l) ch) ≡ Some first

-- a channel owes that item first, or nothing beside what its call sends
abbrev pub OwesAtOnce : Setup → Looks → Channel → Option CodeItem → Type 0
OwesAtOnce s l ch None = channel_items s (unsilenced l) ch ≡ items_of s (unsilenced l) (latest l ch)
OwesAtOnce s l ch (Some item) = OwesFirst s l ch item

-- the first of what a channel owes at once: an ABORT, a BUSY, a CHALLENGE while its call lives and its client isn't
-- proved, a RESPONSE while its call lives, an ACKALL
abbrev pub owed_by : Option ℤ → Option ℕ → Bool → Bool → Bool → Bool → Bool → Option CodeItem
owed_by (Some code) busy challenge response ackall living proved = Some (items.Abort code)
owed_by None (Some number) challenge response ackall living proved = Some (items.Busy number)
owed_by None None challenge response ackall living proved =
    if living && (challenge && not proved) then Some items.Challenge
    else (if living && response then Some items.Response else (if ackall then Some items.AckAll else None))

-- that of a channel, as its seat has it
abbrev pub owed_at : Seat → Bool → Option CodeItem
owed_at seat proved =
    owed_by seat.owed_abort seat.owed_busy seat.owed_challenge (is_some seat.owed_response) seat.owed_ackall
    (is_some seat.live) proved

-- the moment at which a call would die
abbrev pub death_of : Option CallRecord → Option ℕ
death_of None = None
death_of (Some k) = if is_active k.life then Some (k.looks.heard + SILENCE_MS) else None

-- ---- as the code may give it

-- a channel can have this item: what a call sends is of one that is active
abbrev pub HasItem : NodeState → ℕ → CodeItem → Type 0
HasItem n key (items.Sending end) = IsActiveAt n key end
HasItem n key _ = Unit {0}

-- the key of a channel, with an item that it may have
pub record CanGive (n : NodeState) (due : Due) : Type 0 where
  pub key : IsKey n due.key
  pub item : HasItem n due.key due.item

-- ---- what is given

-- the message of an item behind a header of its channel's latest call
abbrev pub message_of_item : Head → Item → Message
message_of_item head i =
    record (message_with_head head i.body) {
      number = i.name.number;
      seq = i.seq;
      flags = head.flags + i.flags;
    }

-- an item was given behind a header: what was written, and what that leaves
pub record GaveBehind (class : List ℕ → Class) (new : NodeState) (l : Looks) (head : Head) (i : Item)
    (bytes : List ℕ) : Type 0 where
  pub written : bytes ≡ made (message_of_item head i)
  pub leaves : (m : Message) → m.seq ≡ i.seq → Mirrors class new (given_body i.name m i.body l)

-- an item was given: its datagram, for the peer of its connection, and what that leaves
pub record Gave (class : List ℕ → Class) (old new : NodeState) (l : Looks) (i : Item) (to : Host)
    (bytes : List ℕ) : Type 0 where
  pub conn : ConnLooks
  pub there : conn_at l (connection_of i.name) ≡ Some conn
  pub host : to ≡ conn.peer
  pub written : bytes ≡ made (message_on (setup_of class old) i conn)
  pub leaves : Mirrors class new
      (given_body i.name (message_on (setup_of class old) i conn) i.body (counted (connection_of i.name) l))
