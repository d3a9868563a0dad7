-- The datagrams of a call's stream among others, in their order.
use Rattle.std.proofs.Common.{◌≡◌, ℕ, List, [], ◌∷◌, Ok}
use Rattle.rx_model.specs.declared.names.CallName.{CallName}
use Rattle.rx_model.specs.declared.names.Host.{Host}
use Rattle.rx_model.specs.declared.wire.TheConstants.{CLIENT_INITIATED}
use Rattle.rx_model.specs.Message.{Message, has_flag}
use Rattle.rx_model.specs.Names.{name_of}
use Rattle.rx_model.specs.Reading.{reading_of}
use Rattle.rx_model.specs.Spelling.{IsPlain}
use Rattle.rx_rules.specs.Setup.{Setup, is_client}
use Rattle.rx_law.specs.Worlds.{Datagram}
use Rattle.rx_rounds.proofs.Two.{sent}
use Rattle.rx_history.proofs.Plain.PlainBodies.{IsSent}

-- a message of this call's stream, as a node says it of a connection for this service
pub record IsOwn (s : Setup) (c : CallName) (service : ℕ) (m : Message) : Type 0 where
  pub name : name_of c.host m ≡ c
  pub side : has_flag CLIENT_INITIATED m.flags ≡ is_client s.kind
  pub index : m.index ≡ s.class.index
  pub for_it : m.service ≡ service
  pub stream : IsSent m.body
  pub plain : IsPlain m

-- those of these datagrams that say an own message say these, in order, from one host to another; each other is another
pub data Sifted (Own : Message → Type 0) (Else : Datagram → Type 0) (from to : Host) :
    List Datagram → List Message → Type 0 where
  sifts_none : Sifted Own Else from to [] []
  sifts_own : (bytes : List ℕ) (m : Message) (ds : List Datagram) (ms : List Message) → reading_of bytes ≡ Ok m → Own m
      → Sifted Own Else from to ds ms → Sifted Own Else from to (sent from to bytes ∷ ds) (m ∷ ms)
  sifts_other : (d : Datagram) (ds : List Datagram) (ms : List Message) → Else d → Sifted Own Else from to ds ms
      → Sifted Own Else from to (d ∷ ds) ms
