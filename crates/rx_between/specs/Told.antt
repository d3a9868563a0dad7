-- What acknowledgements and data that a node gave tell of what it received. Public clauses cite this module.
use Rattle.std.specs.Prelude.{◌≡◌, ◌⊎◌, ◌≤◌, ◌+◌, is_some, ℕ, true, List, Some, Ok}
use Rattle.rx_model.specs.declared.event.Event.{Event}
use Rattle.rx_model.specs.declared.names.CallName.{CallName}
use Rattle.rx_model.specs.declared.names.Host.{Host}
use Rattle.rx_model.specs.Body.{AckBody}
use Rattle.rx_model.specs.Body as bodies
use Rattle.rx_model.specs.Message.{Message}
use Rattle.rx_model.specs.Reading.{reading_of}
use Rattle.rx_rules.specs.After.{looks}
use Rattle.rx_rules.specs.Looks.{call_at}
use Rattle.rx_rules.specs.Received.{Received, marks_of, packet_at, used_of}
use Rattle.rx_rules.specs.Rules.{Legal}
use Rattle.rx_rules.specs.Setup.{Setup, Client, FitsSetup, IsServer, named, receiving_window}
use Rattle.rx_history.specs.Starts.{StartsOnce}
use Rattle.rx_law.specs.Worlds.{Gave}
use Rattle.rx_between.specs.Acknowledged.{received_by}

-- what was received only grew: no fewer packets are done with, what was kept is kept, and a stream that was read to its
-- end stays so
pub record Grows (before after_it : Received) : Type 0 where
  pub used : used_of before ≤ used_of after_it
  pub kept : (k : ℕ) → is_some (packet_at before.kept k) ≡ true → is_some (packet_at after_it.kept k) ≡ true
  pub ended : before.ended ≡ true → after_it.ended ≡ true

-- an ACK tells of what was received: the first packet that isn't done with, which of those above it are kept, and the
-- node's window
pub record IsAckOf (s : Setup) (r : Received) (a : AckBody) : Type 0 where
  pub first : a.first ≡ used_of r + 1
  pub marks : a.marks ≡ marks_of r
  pub window : a.window ≡ Some (receiving_window s)

-- it tells of what had been received when it was made
pub record IsEarlierAck (s : Setup) (now_ : Received) (a : AckBody) : Type 0 where
  pub then_ : Received
  pub is : IsAckOf s then_ a
  pub grown : Grows then_ now_

-- a node whose call starts only where it has no record: a client, or a server that starts it once
abbrev pub StartsNoneAnew : Setup → List Event → CallName → Type 0
StartsNoneAnew s h c =
    ((host : Host) × (epoch : ℕ) × (s.kind ≡ Client host epoch)) ⊎ (IsServer s.kind × StartsOnce s h c)

-- each ACK that it gave of the call is such a one
abbrev pub AcksTell : Type 0
AcksTell =
    (s : Setup) (h : List Event) (to : Host) (bytes : List ℕ) (m : Message) (a : AckBody) → FitsSetup s → Legal s h
    → StartsNoneAnew s h (named s to m) → Gave to bytes h → reading_of bytes ≡ Ok m → m.body ≡ bodies.Ack a
    → IsEarlierAck s (received_by (call_at (looks s h) (named s to m))) a

-- an ACKALL that it gave tells that the stream was read to its end; a server gives none
abbrev pub AckAllsTell : Type 0
AckAllsTell =
    (s : Setup) (h : List Event) (to : Host) (bytes : List ℕ) (m : Message) → FitsSetup s → Legal s h
    → Gave to bytes h → reading_of bytes ≡ Ok m → m.body ≡ bodies.AckAll
    → (IsServer s.kind → ⊥) × ((received_by (call_at (looks s h) (named s to m))).ended ≡ true)

-- data that a server gave of a call that it starts once tells that the request was read to its end
abbrev pub DataTells : Type 0
DataTells =
    (s : Setup) (h : List Event) (to : Host) (bytes : List ℕ) (m : Message) (payload : List ℕ) → IsServer s.kind
    → FitsSetup s → Legal s h → StartsOnce s h (named s to m) → Gave to bytes h → reading_of bytes ≡ Ok m
    → m.body ≡ bodies.Chunk payload → (received_by (call_at (looks s h) (named s to m))).ended ≡ true
