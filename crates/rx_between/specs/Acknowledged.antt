-- What one end of a call takes for acknowledged, and what the other end has. Public clauses cite this module.
use Rattle.std.specs.Prelude.{◌≡◌, ◌⊎◌, ◌≤◌, is_some, ℕ, true, List, Option, Some, None, slice_get}
use Rattle.rx_model.specs.declared.event.Noted.{Noted}
use Rattle.rx_model.specs.declared.names.CallName.{CallName}
use Rattle.rx_model.specs.Names.{Connection, connection_of}
use Rattle.rx_rules.specs.Looks.{CallRecord, call_at}
use Rattle.rx_rules.specs.Received.{Received, nothing_received, packet_at, used_of}
use Rattle.rx_rules.specs.Sent.{Sent, nothing_sent}
use Rattle.rx_rules.specs.Setup.{Client}
use Rattle.rx_law.specs.Premises.{Held, HeldOnce}
use Rattle.rx_law.specs.Promises.{ServerForgotNone, at_client, at_server, ends_in}
use Rattle.rx_history.specs.Sides.{Node}
use Rattle.rx_law.specs.Times.{Timely}
use Rattle.rx_law.specs.Worlds.{TwoEnds, World}

-- what a sender takes for acknowledged its receiver has: at least as many packets are done with as it takes for hard
-- acknowledged, and each that it takes for soft acknowledged is kept
pub record AreTrue (sent : Sent) (received : Received) : Type 0 where
  pub hard : sent.acked ≤ used_of received
  pub soft : (k : ℕ) → 1 ≤ k → sent.soft k ≡ true → is_some (packet_at received.kept k) ≡ true

-- what an end said, of a call that is looked for
abbrev pub sent_by : Option CallRecord → Sent
sent_by None = nothing_sent
sent_by (Some k) = k.looks.sent

-- what it received
abbrev pub received_by : Option CallRecord → Received
received_by None = nothing_received
received_by (Some k) = k.looks.received

-- of a call at its client and at its server, for the request and for the reply
pub record BothTrue (client server : Option CallRecord) : Type 0 where
  pub request : AreTrue (sent_by client) (received_by server)
  pub reply : AreTrue (sent_by server) (received_by client)

-- of each call of a connection
abbrev pub TrueOn : TwoEnds → List Noted → Type 0
TrueOn x h =
    (c : CallName) → connection_of c ≡ x.connection → BothTrue (call_at (at_client x h) c) (call_at (at_server x h) c)

-- between two legal ends with a network that invents nothing, where the server starts no call while it has a record of
-- it
abbrev pub TrueOnce : Type 0
TrueOnce = (x : TwoEnds) (h : List Noted) → HeldOnce x h → TrueOn x h

-- where the server forgot no record of the connection, or no datagram is old
abbrev pub TrueHeld : Type 0
TrueHeld = (x : TwoEnds) (h : List Noted) → Held x h → TrueOn x h

-- of every connection of every client of a world, where its server forgot nothing or its datagrams are never old
abbrev pub TrueInWorld : Type 0
TrueInWorld =
    (nodes : List Node) (h : List Noted) → World nodes h → (ServerForgotNone nodes h ⊎ Timely nodes h)
    → (x : Connection) (k : ℕ) (client server : Node) → slice_get nodes k ≡ Some client
    → client.setup.kind ≡ Client x.host x.epoch → slice_get nodes 0 ≡ Some server
    → TrueOn (ends_in x k client server) h
