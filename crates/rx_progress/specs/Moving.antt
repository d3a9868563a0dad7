-- What moves one direction of a call: the front of what its receiver has, and how far its sender knows that. Public
-- clauses cite this module.
use Rattle.std.specs.Prelude.{◌≡◌, ◌⊎◌, ◌<◌, ◌≤◌, ℕ, List, Option, Some, Ok, slice_get}
use Rattle.rx_model.specs.declared.event.Noted.{Noted}
use Rattle.rx_model.specs.declared.names.CallName.{CallName}
use Rattle.rx_model.specs.Body as bodies
use Rattle.rx_model.specs.Message.{Message}
use Rattle.rx_model.specs.Names.{Connection, connection_of}
use Rattle.rx_model.specs.Reading.{reading_of}
use Rattle.rx_rules.specs.CallLooks.{CallLooks, NodeView, after_taken, call_row}
use Rattle.rx_rules.specs.Looks.{CallRecord, call_at}
use Rattle.rx_rules.specs.Received.{Received, front_of, used_of}
use Rattle.rx_rules.specs.Sent.{Sent, given_of, lowest_of}
use Rattle.rx_rules.specs.Setup.{Setup, Client, is_client, named, receiving_window}
use Rattle.rx_law.specs.Premises.{Held, HeldOnce}
use Rattle.rx_law.specs.Promises.{ServerForgotNone, at_client, at_server, ends_in}
use Rattle.rx_history.specs.Sides.{Node, side}
use Rattle.rx_law.specs.Times.{Timely}
use Rattle.rx_law.specs.Worlds.{Gave, TwoEnds, World}
use Rattle.rx_between.specs.Acknowledged.{received_by, sent_by}
use Rattle.rx_between.specs.Agreed.{passed_at}

-- one packet more stands without a gap, or the receiver was done with more than its sender knows
abbrev pub Moves : Sent → Received → Received → Type 0
Moves sent before behind = (front_of before.kept < front_of behind.kept) ⊎ (sent.acked < used_of before)

-- all that stands without a gap was read
abbrev pub IsDrained : Received → Type 0
IsDrained r = used_of r ≡ front_of r.kept

-- an end behind a message, whatever slots are left there
abbrev pub behind_message : NodeView → Message → CallLooks → CallLooks
behind_message v m k = after_taken v (call_row v m m.body k) m k

-- a message with the lowest piece that its sender doesn't know to be there moves a drained end
abbrev pub LowestMoves : Sent → Setup → Message → Option CallRecord → Type 0
LowestMoves sent s m o =
    (v : NodeView) (payload : List ℕ) → v.client ≡ is_client s.kind → v.window ≡ receiving_window s
    → m.body ≡ bodies.Chunk payload → m.seq ≡ lowest_of sent → lowest_of sent ≤ given_of sent
    → IsDrained (received_by o)
    → Moves sent (received_by o) (behind_message v m (passed_at s v.now o)).received

-- of what either end gave so far of the calls of a connection
pub record MovesOn (x : TwoEnds) (h : List Noted) : Type 0 where
  pub request :
      (c : CallName) (bytes : List ℕ) (m : Message) → connection_of c ≡ x.connection
      → Gave x.server_host bytes (side x.client h) → reading_of bytes ≡ Ok m
      → named x.client_setup x.server_host m ≡ c
      → LowestMoves (sent_by (call_at (at_client x h) c)) x.server_setup m (call_at (at_server x h) c)
  pub reply :
      (c : CallName) (bytes : List ℕ) (m : Message) → connection_of c ≡ x.connection
      → Gave x.connection.host bytes (side x.server h) → reading_of bytes ≡ Ok m
      → named x.server_setup x.connection.host m ≡ c
      → LowestMoves (sent_by (call_at (at_server x h) c)) x.client_setup m (call_at (at_client x h) c)

-- between two legal ends with a network that invents nothing, where the server starts no call while it has a record of
-- it
abbrev pub MovesOnce : Type 0
MovesOnce = (x : TwoEnds) (h : List Noted) → HeldOnce x h → MovesOn x h

-- where the server forgot no record of the connection, or no datagram is old
abbrev pub MovesHeld : Type 0
MovesHeld = (x : TwoEnds) (h : List Noted) → Held x h → MovesOn x h

-- of every connection of every client of a world, where its server forgot nothing or its datagrams are never old
abbrev pub MovesInWorld : Type 0
MovesInWorld =
    (nodes : List Node) (h : List Noted) → World nodes h → (ServerForgotNone nodes h ⊎ Timely nodes h)
    → (x : Connection) (k : ℕ) (client server : Node) → slice_get nodes k ≡ Some client
    → client.setup.kind ≡ Client x.host x.epoch → slice_get nodes 0 ≡ Some server
    → MovesOn (ends_in x k client server) h
