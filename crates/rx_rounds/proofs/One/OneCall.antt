-- Nodes with one connection and one call on it: what they give and take is what that call's end gives and takes.
use Rattle.std.proofs.Common.{◌≡◌, ℕ, ◌-◌, Bool, true, false, is_some}
use Rattle.std.proofs.Common.{List, [], ◌∷◌, map, filter, refl, ap, sym, ◌∙◌, Option, Some, None, option_map}
use Rattle.std.proofs.Common.{append-nil}
use Rattle.std.proofs.Common.{nat_le}
use Rattle.rx_model.specs.declared.names.CallName.{CallName}
use Rattle.rx_model.specs.declared.names.Host.{Host}
use Rattle.rx_model.specs.declared.wire.TheConstants.{SILENCE_MS}
use Rattle.rx_model.specs.Body as bodies
use Rattle.rx_model.specs.Message.{Message}
use Rattle.rx_model.specs.Spelling.{made}
use Rattle.rx_model.proofs.NameLaws.{number_itself}
use Rattle.rx_rules.specs.CallItems.{CallItem, Sending, call_items}
use Rattle.rx_rules.specs.CallLooks.{CallLooks}
use Rattle.rx_rules.specs.Items.{Item, item_of, poll_answer, datagram_for}
use Rattle.rx_rules.specs.Least.{least_by}
use Rattle.rx_rules.specs.Life.{Life, is_active, is_live}
use Rattle.rx_rules.specs.Life as lives
use Rattle.rx_rules.specs.Looks.{CallRecord, ChannelLooks, ConnLooks, Looks, fresh_channel}
use Rattle.rx_rules.specs.Setup.{Setup}
use Rattle.rx_plan.specs.Follows.{class_of, client_node, server_node}
use Rattle.rx_rounds.specs.Bounds.{default_limits}
use Rattle.rx_rounds.proofs.Pair.{Place, CallEnd, next_of, message_of}
use Rattle.rx_between.proofs.Each.EachItem.{least-map}

-- ---- the two nodes

-- the addresses of client and server, the client's epoch, the service, the server's first nonce, the first call number,
-- and the key that both have, or none
pub record Ends : Type 0 where
  pub client : Host
  pub server : Host
  pub epoch : ℕ
  pub service : ℕ
  pub nonces : ℕ
  pub first : ℕ
  pub key : Option (List ℕ)

abbrev pub client_setup : Ends → Setup
client_setup x = (client_node x.client x.epoch default_limits x.key).setup

abbrev pub server_setup : Ends → Setup
server_setup x = (server_node x.server x.service default_limits x.key x.nonces).setup

-- the call, the first on the first channel of the first connection
abbrev pub the_call : Ends → CallName
the_call x = record { host = x.client; epoch = x.epoch; cid = 4; chan = 0; number = x.first }

-- the connection, with its peer, the number of its first calls, how many datagrams it gave, when it was used and
-- whether its client is proved; and what its first channel owes
pub record Link : Type 0 where
  pub peer : Host
  pub low : ℕ
  pub given : ℕ
  pub used : ℕ
  pub proved : Bool
  pub channel : ChannelLooks

abbrev pub the_conn : Ends → Link → ConnLooks
the_conn x y =
    record {
      connection = record { host = x.client; epoch = x.epoch; cid = 4 };
      peer = y.peer;
      service = x.service;
      first = y.low;
      order = 0;
      given = y.given;
      last_use = y.used;
      proved = y.proved;
      channels = y.channel ∷ fresh_channel 0 ∷ fresh_channel 0 ∷ fresh_channel 0 ∷ [];
    }

abbrev pub the_record : Ends → Life → CallLooks → CallRecord
the_record x life k = record { name = the_call x; life = life; looks = k }

abbrev pub node_of : Ends → Link → List CallName → ℕ → Life → CallLooks → Looks
node_of x y firsts now life k =
    record {
      now = now;
      conns = the_conn x y ∷ [];
      entered = 1;
      forgotten = [];
      calls = the_record x life k ∷ [];
      firsts = firsts;
      strays = [];
    }

-- the connection at the client, whether it owes a RESPONSE
abbrev pub answering_link : Ends → Option (List ℕ) → ℕ → ℕ → Link
answering_link x o given used =
    record {
      peer = x.server;
      low = x.first;
      given = given;
      used = used;
      proved = false;
      channel = record (fresh_channel x.first) { owed_response = o };
    }

-- where it owes nothing beside its call
abbrev pub from_client : Ends → ℕ → ℕ → Link
from_client x given used = answering_link x None given used

-- the server's, whether its client showed the key, and whether a CHALLENGE is owed
abbrev pub served_link : Ends → Bool → Bool → ℕ → ℕ → Link
served_link x proved challenged given used =
    record {
      peer = x.client;
      low = 1;
      given = given;
      used = used;
      proved = proved;
      channel = record (fresh_channel x.first) { owed_challenge = challenged };
    }

-- once the client showed the key, where there is one
abbrev pub from_server : Ends → ℕ → ℕ → Link
from_server x given used = served_link x (is_some x.key) false given used

-- where there is none, it has shown it from the start on
pub open_link : (x : Ends) (given used : ℕ) → x.key ≡ None
    → served_link x false (is_some x.key) given used ≡ from_server x given used
open_link x given used none =
    ap (λ (b : Bool). served_link x false b given used) (ap (λ (o : Option (List ℕ)). is_some o) none)
    ∙ ap (λ (b : Bool). served_link x b false given used) (sym (ap (λ (o : Option (List ℕ)). is_some o) none))

-- what the headers of its datagrams have in common
abbrev pub header_of : Ends → Message
header_of x =
    record {
      epoch = x.epoch;
      cid = 4;
      number = x.first;
      seq = 0;
      serial = 0;
      flags = 0;
      status = 0;
      index = (class_of x.key).index;
      spare = 0;
      service = x.service;
      body = bodies.Busy;
    }

-- where its ends stand
abbrev pub client_place : Ends → ℕ → Place
client_place x now = record { client = true; window = 32; shared = 1984; now = now; header = header_of x }

abbrev pub server_place : Ends → ℕ → Place
server_place x now = record { client = false; window = 32; shared = 1984; now = now; header = header_of x }

-- ---- polls

-- the datagram of what the call gives
abbrev pub datagram : Place → Host → CallEnd → Option Sending → Option (Host × List ℕ)
datagram p to e o = option_map (λ (x : Sending). (to, made (message_of p e x))) o

client_gives : (x : Ends) (now used given : ℕ) (k : CallLooks) (o : Option CallItem)
    → datagram_for (client_setup x) (node_of x (from_client x given used) [] now lives.Calling k)
    (option_map (item_of (client_setup x) (the_record x lives.Calling k)) o)
    ≡ datagram (client_place x now) x.server (record { looks = k; given = given }) (option_map (λ i. i.sending) o)
client_gives x now used given k None = refl
client_gives x now used given k (Some i) =
    rw (number_itself x.client.addr, number_itself x.client.port, number_itself x.epoch) refl

link_gives : (x : Ends) (proved : Bool) (firsts : List CallName) (now used given : ℕ) (life : Life) (k : CallLooks)
    (o : Option CallItem)
    → datagram_for (server_setup x) (node_of x (served_link x proved false given used) firsts now life k)
    (option_map (item_of (server_setup x) (the_record x life k)) o)
    ≡ datagram (server_place x now) x.client (record { looks = k; given = given }) (option_map (λ i. i.sending) o)
link_gives x proved firsts now used given life k None = refl
link_gives x proved firsts now used given life k (Some i) =
    rw (number_itself x.client.addr, number_itself x.client.port, number_itself x.epoch) refl

-- where the call isn't silent, a poll gives what the call's end gives
pub client_poll : (x : Ends) (now used given : ℕ) (k : CallLooks) → nat_le SILENCE_MS (now - k.heard) ≡ false
    → poll_answer (client_setup x) (node_of x (from_client x given used) [] now lives.Calling k)
    ≡ datagram (client_place x now) x.server (record { looks = k; given = given }) (next_of (client_place x now) k)
client_poll x now used given k awake =
    let r : CallRecord = the_record x lives.Calling k in
    rw awake
    (rw (number_itself x.client.addr, number_itself x.client.port, number_itself x.epoch, number_itself x.first)
    (rw awake
    (ap (λ (is : List Item). datagram_for (client_setup x)
    (node_of x (from_client x given used) [] now lives.Calling k)
    (least_by (λ (i : Item). i.rank) (filter (λ (i : Item). nat_le i.rank now) is)))
    (append-nil (map (item_of (client_setup x) r) (call_items true k)))
    ∙ ap (λ (o : Option Item). datagram_for (client_setup x)
    (node_of x (from_client x given used) [] now lives.Calling k) o)
    (least-map (client_setup x) r now (call_items true k))
    ∙ client_gives x now used given k
    (least_by (λ (i : CallItem). i.rank) (filter (λ (i : CallItem). nat_le i.rank now) (call_items true k))))))

pub link_poll : (x : Ends) (proved : Bool) (firsts : List CallName) (now used given : ℕ) (life : Life) (k : CallLooks)
    → is_active life ≡ true → is_live life ≡ true → nat_le SILENCE_MS (now - k.heard) ≡ false
    → poll_answer (server_setup x) (node_of x (served_link x proved false given used) firsts now life k)
    ≡ datagram (server_place x now) x.client (record { looks = k; given = given }) (next_of (server_place x now) k)
link_poll x proved firsts now used given life k active living awake =
    let r : CallRecord = the_record x life k in
    rw (active, awake)
    (rw (number_itself x.client.addr, number_itself x.client.port, number_itself x.epoch, number_itself x.first)
    (rw (active, living, awake)
    (ap (λ (is : List Item). datagram_for (server_setup x)
    (node_of x (served_link x proved false given used) firsts now life k)
    (least_by (λ (i : Item). i.rank) (filter (λ (i : Item). nat_le i.rank now) is)))
    (append-nil (map (item_of (server_setup x) r) (call_items false k)))
    ∙ ap (λ (o : Option Item). datagram_for (server_setup x)
    (node_of x (served_link x proved false given used) firsts now life k) o)
    (least-map (server_setup x) r now (call_items false k))
    ∙ link_gives x proved firsts now used given life k
    (least_by (λ (i : CallItem). i.rank) (filter (λ (i : CallItem). nat_le i.rank now) (call_items false k))))))

pub server_poll : (x : Ends) (firsts : List CallName) (now used given : ℕ) (life : Life) (k : CallLooks)
    → is_active life ≡ true → is_live life ≡ true → nat_le SILENCE_MS (now - k.heard) ≡ false
    → poll_answer (server_setup x) (node_of x (from_server x given used) firsts now life k)
    ≡ datagram (server_place x now) x.client (record { looks = k; given = given }) (next_of (server_place x now) k)
server_poll x = link_poll x (is_some x.key)
