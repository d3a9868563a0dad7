-- Nodes with a network between them that invents nothing. Public clauses cite this module.
use Rattle.std.specs.Prelude.{◌≡◌, ◌≢◌, ◌<◌, ◌⊎◌, ℕ, suc, List, [], ◌∷◌, length, Option, Some, None, Ok, Contains}
use Rattle.std.specs.Prelude.{slice_get, IfSome, IsSomeAnd}
use Rattle.rx_model.specs.declared.answers.Took.TheVariants as tooks
use Rattle.rx_model.specs.declared.event.Event.{Event}
use Rattle.rx_model.specs.declared.event.Event.TheVariants.{Polled, Taken}
use Rattle.rx_model.specs.declared.event.Noted.{Noted}
use Rattle.rx_model.specs.declared.names.Host.{Host}
use Rattle.rx_model.specs.Message.{Message}
use Rattle.rx_model.specs.Names.{Connection, connection_of, name_of}
use Rattle.rx_model.specs.Reading.{reading_of}
use Rattle.rx_rules.specs.Rules.{Legal}
use Rattle.rx_rules.specs.Setup.{Setup, Kind, Client, FitsSetup, IsServer}
use Rattle.rx_history.specs.Sides.{Node, side, GivesTo, IsClientAt}

-- ---- what the network carries

-- a datagram with the host that gave it and the host that it is for
pub record Datagram : Type 0 where
  pub from : Host
  pub to : Host
  pub bytes : List ℕ

-- a poll that gave a datagram
abbrev pub with_given : Host → Event → List Datagram → List Datagram
with_given from (Polled (Some (to, bytes))) ds = record { from = from; to = to; bytes = bytes } ∷ ds
with_given from _ ds = ds

-- an event of this node
abbrev pub given_at : Option Node → Event → List Datagram → List Datagram
given_at None e ds = ds
given_at (Some n) e ds = with_given n.host e ds

-- the datagrams that polls gave
abbrev pub bag : List Node → List Noted → List Datagram
bag nodes [] = []
bag nodes (e ∷ h) = given_at (slice_get nodes e.node) e.event (bag nodes h)

-- a datagram that a node takes is one of these
abbrev pub IsFrom : List Datagram → Host → Event → Type 0
IsFrom ds at (Taken from bytes got) = Contains ds (record { from = from; to = at; bytes = bytes })
IsFrom ds at _ = Unit {0}

-- each datagram that was taken had been given to that node's host by its sender
abbrev pub Carried : List Node → List Noted → Type 0
Carried nodes [] = Unit {0}
Carried nodes (e ∷ h) = IfSome (slice_get nodes e.node) (λ n. IsFrom (bag nodes h) n.host e.event) × Carried nodes h

-- ---- a world

-- the first node is the server, every other a client at its own address, each as a node can be made
pub record AreNodes (nodes : List Node) : Type 0 where
  pub server : IsSomeAnd (slice_get nodes 0) (λ n. IsServer n.setup.kind)
  pub clients : (k : ℕ) → IfSome (slice_get nodes (suc k)) (λ n. IsClientAt n.host n.setup.kind)
  pub fits : (k : ℕ) → IfSome (slice_get nodes k) (λ n. FitsSetup n.setup)

-- each event is one of a node that is there
abbrev pub AreOf : List Node → List Noted → Type 0
AreOf nodes [] = Unit {0}
AreOf nodes (e ∷ h) = (e.node < length nodes) × AreOf nodes h

-- each node has a legal side
pub record Sides (nodes : List Node) (h : List Noted) : Type 0 where
  pub nodes_are : AreNodes nodes
  pub events_are : AreOf nodes h
  pub legal : (k : ℕ) → IfSome (slice_get nodes k) (λ n. Legal n.setup (side k h))

-- two kinds are no clients that share host and epoch
abbrev pub AreApart : Kind → Kind → Type 0
AreApart (Client host epoch) (Client other later) = ¬ ((host ≡ other) × (epoch ≡ later))
AreApart _ _ = Unit {0}

-- the network invents nothing, and no two clients share host and epoch
pub record World (nodes : List Node) (h : List Noted) : Type 0 where
  pub sides : Sides nodes h
  pub carried : Carried nodes h
  pub apart :
      (j k : ℕ) → j ≢ k
      → IfSome (slice_get nodes j) (λ n. IfSome (slice_get nodes k) (λ o. AreApart n.setup.kind o.setup.kind))

-- ---- one connection

-- a connection with its two ends: their node numbers, how they are set up, and the server's address
pub record TwoEnds : Type 0 where
  pub connection : Connection
  pub client : ℕ
  pub client_setup : Setup
  pub server : ℕ
  pub server_setup : Setup
  pub server_host : Host

-- the bytes say a message of the connection
pub record SpeaksOf (x : Connection) (bytes : List ℕ) : Type 0 where
  pub message : Message
  pub reads : reading_of bytes ≡ Ok message
  pub on : connection_of (name_of x.host message) ≡ x

-- a datagram of the connection that comes from one end at the other; one that is answered Foreign is of no concern
abbrev pub ComesOn : Connection → Host → Event → (List ℕ → Type 0) → Type 0
ComesOn x from (Taken sender bytes tooks.Foreign) Wanted = Unit {0}
ComesOn x from (Taken sender bytes got) Wanted = sender ≡ from → SpeaksOf x bytes → Wanted bytes
ComesOn x from _ Wanted = Unit {0}

-- one of these events gave the datagram
abbrev pub Gave : Host → List ℕ → List Event → Type 0
Gave to bytes [] = ⊥
Gave to bytes (e ∷ h) = GivesTo to bytes e ⊎ Gave to bytes h

-- what comes on the connection at one end was given to it before by the other
abbrev pub CarriedOn : TwoEnds → List Noted → Type 0
CarriedOn x [] = Unit {0}
CarriedOn x (e ∷ h) =
    (e.node ≡ x.server → ComesOn x.connection x.connection.host e.event
    (λ bytes. Gave x.server_host bytes (side x.client h)))
    × (e.node ≡ x.client → ComesOn x.connection x.server_host e.event
    (λ bytes. Gave x.connection.host bytes (side x.server h)))
    × CarriedOn x h

-- the ends are two nodes, a client with this connection's host and epoch and a server; both are legal, and the network
-- between them invents nothing
pub record Joined (x : TwoEnds) (h : List Noted) : Type 0 where
  pub apart : x.client ≢ x.server
  pub client_kind : x.client_setup.kind ≡ Client x.connection.host x.connection.epoch
  pub server_kind : IsServer x.server_setup.kind
  pub client_fits : FitsSetup x.client_setup
  pub server_fits : FitsSetup x.server_setup
  pub client_legal : Legal x.client_setup (side x.client h)
  pub server_legal : Legal x.server_setup (side x.server h)
  pub carried : CarriedOn x h
