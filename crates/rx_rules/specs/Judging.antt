-- What becomes of a datagram: the rows, and their order. Public clauses cite this module.
use Rattle.std.specs.Prelude.{◌==◌, ◌&&◌, not, if◌then◌else◌, nat_lt, nat_le, is_some, ℕ, Bool, true, false, List}
use Rattle.std.specs.Prelude.{Option, Some, None, Result, Ok, Err}
use Rattle.rx_model.specs.declared.answers.BadMsg.{BadMsg}
use Rattle.rx_model.specs.declared.answers.Took.{Took}
use Rattle.rx_model.specs.declared.answers.Took.TheVariants as tooks
use Rattle.rx_model.specs.declared.names.CallName.{CallName}
use Rattle.rx_model.specs.declared.names.Host.{Host}
use Rattle.rx_model.specs.declared.wire.TheConstants.{CLIENT_INITIATED}
use Rattle.rx_model.specs.Body.{Body}
use Rattle.rx_model.specs.Body as bodies
use Rattle.rx_rules.specs.CallLooks.{call_row}
use Rattle.rx_rules.specs.Life.{is_live, is_active, is_handled}
use Rattle.rx_rules.specs.Looks.{CallRecord, ConnLooks, Looks, call_at, channel_at, conn_at, is_call, is_proved, latest}
use Rattle.rx_model.specs.Message.{Message, has_flag}
use Rattle.rx_model.specs.Names.{connection_of, channel_of, same_host}
use Rattle.rx_model.specs.Reading.{reading_of}
use Rattle.rx_rules.specs.Records.{has_place, started_later}
use Rattle.rx_rules.specs.Setup.{Setup, Kind, Server, Client, named, nonce_of, receiving_window}
use Rattle.rx_rules.specs.Slots.{live, node_view}
use Rattle.rx_model.specs.Strays.{is_stray}

-- ---- the rows before a call is looked for

-- BUSY and CHALLENGE are for clients; without a security class that challenges no RESPONSE is for a server
abbrev pub is_for_servers : Bool → Body → Bool
is_for_servers challenges (bodies.Chunk payload) = true
is_for_servers challenges bodies.Busy = false
is_for_servers challenges (bodies.Ack a) = true
is_for_servers challenges (bodies.Abort code) = true
is_for_servers challenges bodies.AckAll = true
is_for_servers challenges (bodies.Challenge bytes) = false
is_for_servers challenges (bodies.Response bytes) = challenges

-- RESPONSE is for servers; without a security class that challenges no CHALLENGE is for a client
abbrev pub is_for_clients : Bool → Body → Bool
is_for_clients challenges (bodies.Chunk payload) = true
is_for_clients challenges bodies.Busy = true
is_for_clients challenges (bodies.Ack a) = true
is_for_clients challenges (bodies.Abort code) = true
is_for_clients challenges bodies.AckAll = true
is_for_clients challenges (bodies.Challenge bytes) = challenges
is_for_clients challenges (bodies.Response bytes) = false

-- the first row that holds at a server: from the wrong side; of the wrong kind; of another service or class
abbrev pub server_outer : Setup → ℕ → Message → Option Took
server_outer s service m =
    if not (has_flag CLIENT_INITIATED m.flags) then Some tooks.Foreign
    else if not (is_for_servers s.class.challenges m.body) then Some tooks.Strange
    else if not ((m.service == service) && (m.index == s.class.index)) then Some tooks.Unserved
    else None

-- the client has this connection with that peer
abbrev pub is_peer : Host → Option ConnLooks → Bool
is_peer from None = false
is_peer from (Some r) = same_host r.peer from

-- the first row that holds at a client: from the wrong side; of no connection with the sender, of another class or of
-- the wrong kind
abbrev pub client_outer : Setup → Looks → Host → Message → Option Took
client_outer s l from m =
    if has_flag CLIENT_INITIATED m.flags then Some tooks.Foreign
    else if not (is_peer from (conn_at l (connection_of (named s from m)))) then Some tooks.Strange
    else if not ((m.index == s.class.index) && is_for_clients s.class.challenges m.body) then Some tooks.Strange
    else None

-- by the kind of the node
abbrev pub outer_row : Setup → Kind → Looks → Host → Message → Option Took
outer_row s (Server service nonces) l from m = server_outer s service m
outer_row s (Client host epoch) l from m = client_outer s l from m

-- ---- the rows of a connection and its channel

-- whether it is DATA
abbrev pub is_data : Body → Bool
is_data (bodies.Chunk payload) = true
is_data _ = false

-- what decides these rows: whether the connection has a record, and there is a place for a further one; whether the
-- message has a call number, is an ABORT without one, and is a data packet that a call may begin with; whether its
-- number is below or above the channel's; whether the channel's call lives, holds slots, and has a handler at work; and
-- whether as many calls live as may
pub record Facts : Type 0 where
  pub is_known : Bool
  pub has_place : Bool
  pub has_number : Bool
  pub stops_all : Bool
  pub can_start : Bool
  pub is_below : Bool
  pub is_above : Bool
  pub is_live : Bool
  pub is_active : Bool
  pub is_handled : Bool
  pub is_crowded : Bool

-- as the look-ups say
abbrev pub facts_of : Setup → Looks → CallName → Message → Facts
facts_of s l c m =
    record {
      is_known = is_some (conn_at l (connection_of c));
      has_place = has_place s l;
      has_number = not (m.number == 0);
      stops_all = is_stray m m.body;
      can_start = is_data m.body && (nat_le 1 m.seq && nat_le m.seq (receiving_window s));
      is_below = nat_lt m.number (channel_at l (channel_of c)).number;
      is_above = nat_lt (channel_at l (channel_of c)).number m.number;
      is_live = is_call (λ k. is_live k.life) (latest l (channel_of c));
      is_active = is_call (λ k. is_active k.life) (latest l (channel_of c));
      is_handled = is_call (λ k. is_handled k.life) (latest l (channel_of c));
      is_crowded = nat_le s.limits.calls (live l);
    }

-- the first row that holds at a server, and at last that of the live call
abbrev pub server_row : Facts → Took → Took
server_row f call =
    if not f.is_known && not (f.can_start && f.has_number) then tooks.Strange
    else if not f.is_known && not f.has_place then tooks.Full
    else if f.stops_all then tooks.Stopped
    else if not f.has_number then tooks.Strange
    else if f.is_below then tooks.Old
    else if f.is_above && not f.can_start then tooks.Strange
    else if f.is_above && f.is_handled then tooks.Busy
    else if f.is_above && (not f.is_live && f.is_crowded) then tooks.NoRoom
    else if not f.is_above && not f.is_active then tooks.Over
    else call

-- the same at a client, where no message starts a call
abbrev pub client_row : Facts → Took → Took
client_row f call =
    if f.stops_all then tooks.Stopped
    else if not f.has_number then tooks.Strange
    else if f.is_below then tooks.Old
    else if f.is_above then tooks.Strange
    else if not f.is_active then tooks.Over
    else call

-- by the kind of the node
abbrev pub side_row : Kind → Facts → Took → Took
side_row (Server service nonces) f call = server_row f call
side_row (Client host epoch) f call = client_row f call

-- ---- the rows of a live call

-- a RESPONSE that is right; a wrong one before a right one came; a wrong one after it
abbrev pub response_row : Bool → Bool → Took
response_row right proved = if right then tooks.Heard else if proved then tooks.Strange else tooks.Stopped

-- the nonce of a connection
abbrev pub nonce_at : Setup → Option ConnLooks → ℕ
nonce_at s None = 0
nonce_at s (Some r) = nonce_of s.kind r.order

-- whether a RESPONSE of a call is right
abbrev pub is_right : Setup → Looks → CallName → List ℕ → Bool
is_right s l c bytes = s.class.check c (nonce_at s (conn_at l (connection_of c))) bytes

-- what its own end of the call answers
abbrev pub end_row : Setup → Looks → CallRecord → Message → Took
end_row s l k m = call_row (node_view s l) m m.body k.looks

-- by the kind of the message: a RESPONSE is checked, a CHALLENGE has to have an answer
abbrev pub live_row : Setup → Looks → CallRecord → Message → Body → Took
live_row s l k m (bodies.Response bytes) =
    response_row (is_right s l k.name bytes) (is_proved l (connection_of k.name))
live_row s l k m (bodies.Challenge bytes) =
    if is_some (s.class.respond k.name bytes) then tooks.Heard else tooks.Strange
live_row s l k m (bodies.Chunk payload) = end_row s l k m
live_row s l k m bodies.Busy = end_row s l k m
live_row s l k m (bodies.Ack a) = end_row s l k m
live_row s l k m (bodies.Abort code) = end_row s l k m
live_row s l k m bodies.AckAll = end_row s l k m

-- a channel's call with a higher number starts before its packet is judged
abbrev pub opened : Setup → CallName → Looks → Looks
opened s c l = if nat_lt (channel_at l (channel_of c)).number c.number then started_later s c l else l

-- at last the row of the call itself: where it is looked for it is there
abbrev pub row_at : Setup → Looks → Option CallRecord → Message → Took
row_at s l None m = tooks.Over
row_at s l (Some k) m = live_row s l k m m.body

-- the row of the message's own call
abbrev pub own_row : Setup → Looks → CallName → Message → Took
own_row s l c m = row_at s l (call_at l c) m

-- ---- all rows

-- the row of a message whose rows in front let it through
abbrev pub took_named : Setup → Looks → CallName → Message → Took
took_named s l c m = side_row s.kind (facts_of s l c m) (own_row s (opened s c l) c m)

-- a row that holds, or else the one behind it
abbrev pub else_row : Option Took → Took → Took
else_row (Some row) other = row
else_row None other = other

-- of a message, or of bytes that say none
abbrev pub took_reading : Setup → Looks → Host → Result Message BadMsg → Took
took_reading s l from (Err bad) = tooks.Bad bad
took_reading s l from (Ok m) = else_row (outer_row s s.kind l from m) (took_named s l (named s from m) m)

-- what becomes of a datagram
abbrev pub took_of : Setup → Looks → Host → List ℕ → Took
took_of s l from bytes = took_reading s l from (reading_of bytes)
