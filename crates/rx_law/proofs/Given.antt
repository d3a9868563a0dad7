-- What was given, in the words of the model.
use Rattle.std.proofs.Common.{◌≡◌, ℕ, List, Option, Some, None, Ok, refl}
use Rattle.rx_model.specs.declared.event.Event.{Event}
use Rattle.rx_model.specs.declared.names.Host.{Host}
use Rattle.rx_rules.specs.After.{looks}
use Rattle.rx_model.specs.Body as bodies
use Rattle.rx_rules.specs.CallLooks.{packet_of}
use Rattle.rx_rules.specs.Looks.{CallRecord, call_at}
use Rattle.rx_model.specs.Message.{Message}
use Rattle.rx_model.specs.Reading.{reading_of}
use Rattle.rx_rules.specs.Rules.{Legal}
use Rattle.rx_rules.specs.Setup.{Setup, Client, FitsSetup, IsServer, named}
use Rattle.rx_history.specs.Streams.{is_shut, is_shut_by, said, said_by}
use Rattle.rx_law.specs.Worlds.{Gave}
use Rattle.rx_law.specs.Pieces.{IsAt}
use Rattle.rx_history.specs.Starts.{StartsOnce}
use Rattle.rx_history.proofs.Ends.{ends_of}
use Rattle.rx_law.proofs.Joint.{client-grown, given-says, server-grown}

in-words : (o : Option CallRecord) (seq : ℕ) (m : Message) (payload : List ℕ)
    → IsAt (ends_of o).said (ends_of o).shut seq (packet_of m payload).piece
    → IsAt (said_by o) (is_shut_by o) seq (packet_of m payload).piece
in-words None seq m payload is = is
in-words (Some k) seq m payload is = is

pub client-gives : (s : Setup) (host : Host) (epoch : ℕ) (h : List Event) (to : Host) (bytes : List ℕ) (m : Message)
    (payload : List ℕ)
    → s.kind ≡ Client host epoch → FitsSetup s → Legal s h → Gave to bytes h → reading_of bytes ≡ Ok m → m.body
    ≡ bodies.Chunk payload
    → IsAt (said (looks s h) (named s to m)) (is_shut (looks s h) (named s to m)) m.seq (packet_of m payload).piece
client-gives s host epoch h to bytes m payload kind fits legal gave reads chunk =
    in-words (call_at (looks s h) (named s to m)) m.seq m payload
    (given-says s h (named s to m) to bytes m payload fits legal
    (client-grown s host epoch h (named s to m) kind fits legal) reads chunk refl gave)

pub server-gives : (s : Setup) (h : List Event) (to : Host) (bytes : List ℕ) (m : Message) (payload : List ℕ)
    → IsServer s.kind → FitsSetup s → Legal s h → StartsOnce s h (named s to m) → Gave to bytes h → reading_of bytes
    ≡ Ok m → m.body ≡ bodies.Chunk payload
    → IsAt (said (looks s h) (named s to m)) (is_shut (looks s h) (named s to m)) m.seq (packet_of m payload).piece
server-gives s h to bytes m payload server fits legal once gave reads chunk =
    in-words (call_at (looks s h) (named s to m)) m.seq m payload
    (given-says s h (named s to m) to bytes m payload fits legal
    (server-grown s h (named s to m) server fits legal once) reads chunk refl gave)
