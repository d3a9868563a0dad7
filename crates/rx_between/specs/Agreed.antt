-- What the two ends of a call agree on, whatever the network loses, repeats or reorders. Public clauses cite this
-- module.
use Rattle.std.specs.Prelude.{◌≡◌, ◌⊎◌, ◌≤◌, ◌+◌, is_some, ℕ, true, false, List, Option, Some, None, Ok, slice_get}
use Rattle.rx_model.specs.declared.answers.End.{End}
use Rattle.rx_model.specs.declared.answers.Took.{Took}
use Rattle.rx_model.specs.declared.answers.Took.TheVariants as tooks
use Rattle.rx_model.specs.declared.event.Noted.{Noted}
use Rattle.rx_model.specs.declared.names.CallName.{CallName}
use Rattle.rx_model.specs.Names.{Channel, Connection, connection_of}
use Rattle.rx_model.specs.Message.{Message}
use Rattle.rx_model.specs.Reading.{reading_of}
use Rattle.rx_rules.specs.CallLooks.{CallLooks, NodeView, call_row, fresh_call}
use Rattle.rx_rules.specs.Life.{Life}
use Rattle.rx_rules.specs.Life as lives
use Rattle.rx_rules.specs.Looks.{CallRecord, call_at, channel_at}
use Rattle.rx_rules.specs.Received.{Received, greatest, used_of}
use Rattle.rx_rules.specs.Sent.{Sent, given_of}
use Rattle.rx_rules.specs.Setup.{Client, Setup, is_client, named, pace_of, receiving_window}
use Rattle.rx_law.specs.Premises.{Held, HeldOnce}
use Rattle.rx_law.specs.Promises.{ServerForgotNone, at_client, at_server, ends_in}
use Rattle.rx_history.specs.Sides.{Node, side}
use Rattle.rx_history.specs.Streams.{end_by}
use Rattle.rx_law.specs.Times.{Timely}
use Rattle.rx_law.specs.Worlds.{Gave, TwoEnds, World}
use Rattle.rx_between.specs.Acknowledged.{AreTrue, received_by, sent_by}

-- each packet that an end kept is a piece that the other gave
abbrev pub AreGiven : Sent → Received → Type 0
AreGiven sent received = greatest received.kept ≤ given_of sent

-- the window that a sender takes for its peer's isn't wider than the peer's
abbrev pub IsLetBy : Setup → Sent → Type 0
IsLetBy peer sent = sent.peer_window ≤ receiving_window peer

-- a server's call that is over with no code
abbrev pub is_over_well : Life → Type 0
is_over_well (lives.Over None) = Unit {0}
is_over_well _ = ⊥

-- it is such a call
abbrev pub IsOverWell : Option CallRecord → Type 0
IsOverWell None = ⊥
IsOverWell (Some k) = is_over_well k.life

-- a client's call ended
pub record HasEnded (o : Option CallRecord) : Type 0 where
  pub end : End
  pub at : end_by o ≡ Some end

-- what a sender gave lies within the window of its peer
abbrev pub IsWithin : Setup → Sent → Received → Type 0
IsWithin peer sent received = given_of sent ≤ used_of received + receiving_window peer

-- an answer to a message that makes sense: data is kept, was there already or has no slot, and any other is heard, or
-- stops the call
abbrev pub MakesSense : Took → Type 0
MakesSense tooks.Kept = Unit {0}
MakesSense tooks.Repeat = Unit {0}
MakesSense tooks.NoSlot = Unit {0}
MakesSense tooks.Heard = Unit {0}
MakesSense tooks.Stopped = Unit {0}
MakesSense _ = ⊥

-- of a call as its client and its server have it
pub record Agrees (client server : Setup) (a b : Option CallRecord) : Type 0 where
  pub request_true : AreTrue (sent_by a) (received_by b)
  pub reply_true : AreTrue (sent_by b) (received_by a)
  pub request_given : AreGiven (sent_by a) (received_by b)
  pub reply_given : AreGiven (sent_by b) (received_by a)
  pub request_let : IsLetBy server (sent_by a)
  pub reply_let : IsLetBy client (sent_by b)
  pub request_within : IsWithin server (sent_by a) (received_by b)
  pub reply_within : IsWithin client (sent_by b) (received_by a)
  pub known : is_some b ≡ true → is_some a ≡ true
  pub read_out : (received_by a).ended ≡ true → HasEnded a
  pub over : server.prompt ≡ false → IsOverWell b → HasEnded a

-- what passed at the end of a call; nothing, where it has no record
abbrev pub passed_at : Setup → ℕ → Option CallRecord → CallLooks
passed_at s now None = fresh_call (pace_of s) now
passed_at s now (Some k) = k.looks

-- a message makes sense at the end of a call of such a node, whatever slots are left there
abbrev pub SenseAt : Setup → Message → Option CallRecord → Type 0
SenseAt s m o =
    (v : NodeView) → v.client ≡ is_client s.kind → v.window ≡ receiving_window s
    → MakesSense (call_row v m m.body (passed_at s v.now o))

-- whatever message of a call one end gave so far makes sense at the other
pub record SenseOn (x : TwoEnds) (h : List Noted) : Type 0 where
  pub server :
      (c : CallName) (bytes : List ℕ) (m : Message) → connection_of c ≡ x.connection
      → Gave x.server_host bytes (side x.client h) → reading_of bytes ≡ Ok m
      → named x.client_setup x.server_host m ≡ c → SenseAt x.server_setup m (call_at (at_server x h) c)
  pub client :
      (c : CallName) (bytes : List ℕ) (m : Message) → connection_of c ≡ x.connection
      → Gave x.connection.host bytes (side x.server h) → reading_of bytes ≡ Ok m
      → named x.server_setup x.connection.host m ≡ c → SenseAt x.client_setup m (call_at (at_client x h) c)

-- each call of a connection; and of each channel the server's latest call is no later than the client's
pub record AgreeOn (x : TwoEnds) (h : List Noted) : Type 0 where
  pub calls :
      (c : CallName) → connection_of c ≡ x.connection
      → Agrees x.client_setup x.server_setup (call_at (at_client x h) c) (call_at (at_server x h) c)
  pub channels :
      (ch : Channel) → ch.connection ≡ x.connection
      → (channel_at (at_server x h) ch).number ≤ (channel_at (at_client x h) ch).number

-- between two legal ends with a network that invents nothing, where the server starts no call while it has a record of
-- it
abbrev pub AgreeOnce : Type 0
AgreeOnce = (x : TwoEnds) (h : List Noted) → HeldOnce x h → AgreeOn x h

-- where the server forgot no record of the connection, or no datagram is old
abbrev pub AgreeHeld : Type 0
AgreeHeld = (x : TwoEnds) (h : List Noted) → Held x h → AgreeOn x h

-- of every connection of every client of a world, where its server forgot nothing or its datagrams are never old
abbrev pub AgreeInWorld : Type 0
AgreeInWorld =
    (nodes : List Node) (h : List Noted) → World nodes h → (ServerForgotNone nodes h ⊎ Timely nodes h)
    → (x : Connection) (k : ℕ) (client server : Node) → slice_get nodes k ≡ Some client
    → client.setup.kind ≡ Client x.host x.epoch → slice_get nodes 0 ≡ Some server
    → AgreeOn (ends_in x k client server) h

-- what one end gave makes sense at the other, between two legal ends of which the server starts no call while it has a
-- record of it
abbrev pub SenseOnce : Type 0
SenseOnce = (x : TwoEnds) (h : List Noted) → HeldOnce x h → SenseOn x h

-- where the server forgot no record of the connection, or no datagram is old
abbrev pub SenseHeld : Type 0
SenseHeld = (x : TwoEnds) (h : List Noted) → Held x h → SenseOn x h

-- of every connection of every client of a world, where its server forgot nothing or its datagrams are never old
abbrev pub SenseInWorld : Type 0
SenseInWorld =
    (nodes : List Node) (h : List Noted) → World nodes h → (ServerForgotNone nodes h ⊎ Timely nodes h)
    → (x : Connection) (k : ℕ) (client server : Node) → slice_get nodes k ≡ Some client
    → client.setup.kind ≡ Client x.host x.epoch → slice_get nodes 0 ≡ Some server
    → SenseOn (ends_in x k client server) h
