-- What a node owes, the datagram that a poll gives, and when one is due. Public clauses cite this module.
use Rattle.std.specs.Prelude.{◌&&◌, ◌+◌, ◌%◌, ◌^◌, not, if◌then◌else◌, max, nat_le, ℕ, suc, Bool}
use Rattle.std.specs.Prelude.{List, [], ◌∷◌, ◌++◌, map, filter, Option, Some, None, option_map}
use Rattle.rx_model.specs.declared.names.CallName.{CallName}
use Rattle.rx_model.specs.declared.names.Host.{Host}
use Rattle.rx_model.specs.declared.stray.Stray.{Stray}
use Rattle.rx_model.specs.declared.wire.TheConstants.{SILENCE_MS}
use Rattle.rx_model.specs.Body.{Body}
use Rattle.rx_model.specs.Body as bodies
use Rattle.rx_rules.specs.CallItems.{CallItem, call_items, sending_flags, sending_seq, sending_body}
use Rattle.rx_rules.specs.Judging.{nonce_at}
use Rattle.rx_rules.specs.Least.{least_by}
use Rattle.rx_rules.specs.Life.{is_live, is_active}
use Rattle.rx_rules.specs.Looks.{CallRecord, ChannelLooks, ConnLooks, Looks, call_named, channel_at, conn_at, is_call}
use Rattle.rx_rules.specs.Looks.{is_proved}
use Rattle.rx_rules.specs.Looks.{latest}
use Rattle.rx_model.specs.Message.{Message}
use Rattle.rx_model.specs.Names.{Channel, connection_of, channels_of}
use Rattle.rx_rules.specs.Records.{is_silent, silenced}
use Rattle.rx_rules.specs.Setup.{Setup, is_client, receiving_window, side_flag}
use Rattle.rx_model.specs.Spelling.{made}
use Rattle.rx_model.specs.Strays.{stray_message}

-- what a datagram brings to a call: its name, seq, flags and body, and the moment from which it is due, 0 for at once
pub record Item : Type 0 where
  pub rank : ℕ
  pub name : CallName
  pub seq : ℕ
  pub flags : ℕ
  pub body : Body

-- ---- the items of one channel, in the order in which ties are broken

-- a body that is due at once, where it is owed
abbrev pub owed_item : CallName → Option Body → List Item
owed_item c None = []
owed_item c (Some body) = record { rank = 0; name = c; seq = 0; flags = 0; body = body } ∷ []

-- a body, where it is owed
abbrev pub where_owed : Bool → Body → Option Body
where_owed owed body = if owed then Some body else None

-- a BUSY has the number that owes it
abbrev pub busy_items : Channel → Option ℕ → List Item
busy_items ch None = []
busy_items ch (Some number) = owed_item (call_named ch number) (Some bodies.Busy)

-- a CHALLENGE is owed as long as its client isn't proved
abbrev pub challenge_body : Setup → Looks → CallName → Bool → Option Body
challenge_body s l c owed =
    where_owed (owed && not (is_proved l (connection_of c)))
    (bodies.Challenge (s.class.challenge c (nonce_at s (conn_at l (connection_of c)))))

-- a call's item as a datagram's
abbrev pub item_of : Setup → CallRecord → CallItem → Item
item_of s k i =
    record {
      rank = i.rank;
      name = k.name;
      seq = sending_seq i.sending;
      flags = sending_flags k.looks i.sending;
      body = sending_body (receiving_window s) k.looks i.sending;
    }

-- a call that is broken, ended or silent says nothing more
abbrev pub items_of : Setup → Looks → Option CallRecord → List Item
items_of s l None = []
items_of s l (Some k) =
    if is_active k.life && not (is_silent l.now k) then map (item_of s k)
    (call_items (is_client s.kind) k.looks) else []

-- CHALLENGE and RESPONSE are owed as long as their call lives
abbrev pub class_items : Setup → Looks → CallName → ChannelLooks → Bool → List Item
class_items s l c q living =
    if living then owed_item c (challenge_body s l c q.owed_challenge)
    ++ owed_item c (option_map bodies.Response q.owed_response)
    else []

-- of a channel with what it owes and its latest call
abbrev pub items_with : Setup → Looks → Channel → ChannelLooks → CallName → Option CallRecord → List Item
items_with s l ch q c call =
    owed_item c (option_map bodies.Abort q.owed_abort)
    ++ (busy_items ch q.owed_busy ++ (class_items s l c q (is_call (λ k. is_live k.life) call)
    ++ (owed_item c (where_owed q.owed_ackall bodies.AckAll) ++ items_of s l call)))

-- of a channel
abbrev pub channel_items : Setup → Looks → Channel → List Item
channel_items s l ch =
    items_with s l ch (channel_at l ch) (call_named ch (channel_at l ch).number) (latest l ch)

-- ---- the items of a node

-- of several channels
abbrev pub items_on : Setup → Looks → List Channel → List Item
items_on s l [] = []
items_on s l (ch ∷ chs) = channel_items s l ch ++ items_on s l chs

-- channels in the order of their keys: the connections by their places, and of each the lowest channel first
abbrev pub all_channels : List ConnLooks → List Channel
all_channels [] = []
all_channels (r ∷ rs) = channels_of r.connection ++ all_channels rs

-- of a node
abbrev pub items : Setup → Looks → List Item
items s l = items_on s l (all_channels l.conns)

-- what it gives next: the first item of least rank of those that are due
abbrev pub next_item : Setup → Looks → Option Item
next_item s l = least_by (λ i. i.rank) (filter (λ i. nat_le i.rank l.now) (items s l))

-- ---- its datagram

-- on its connection the serial is one above the last; 0 follows the greatest
abbrev pub message_on : Setup → Item → ConnLooks → Message
message_on s i r =
    record {
      epoch = i.name.epoch;
      cid = i.name.cid + i.name.chan;
      number = i.name.number;
      seq = i.seq;
      serial = suc r.given % 2 ^ 32;
      flags = side_flag s.kind + i.flags;
      status = 0;
      index = s.class.index;
      spare = 0;
      service = r.service;
      body = i.body;
    }

-- the datagram of an item, for the peer of its connection
abbrev pub datagram_on : Setup → Item → Option ConnLooks → Option (Host × List ℕ)
datagram_on s i None = None
datagram_on s i (Some r) = Some (r.peer, made (message_on s i r))

-- of the item that was chosen, if any
abbrev pub datagram_for : Setup → Looks → Option Item → Option (Host × List ℕ)
datagram_for s l None = None
datagram_for s l (Some i) = datagram_on s i (conn_at l (connection_of i.name))

-- the oldest stray abort goes before every item
abbrev pub poll_with : Setup → Looks → List Stray → Option (Host × List ℕ)
poll_with s l [] = datagram_for s l (next_item s l)
poll_with s l (x ∷ xs) = Some (x.host, made (stray_message x))

-- silent calls end first
abbrev pub poll_answer : Setup → Looks → Option (Host × List ℕ)
poll_answer s l = poll_with s (silenced l) l.strays

-- ---- when a poll would do something

-- the moments at which calls would die
abbrev pub deaths : List CallRecord → List ℕ
deaths [] = []
deaths (k ∷ ks) = if is_active k.life then (k.looks.heard + SILENCE_MS) ∷ deaths ks else deaths ks

-- the moments from which something is due
abbrev pub moments : Setup → Looks → List ℕ
moments s l = map (λ x. 0) l.strays ++ (map (λ i. i.rank) (items s l) ++ deaths l.calls)

-- the least of them, at least the node's moment
abbrev pub due : Setup → Looks → Option ℕ
due s l = option_map (max l.now) (least_by (λ moment. moment) (moments s l))
