-- The times of a history: that no datagram is old, and that clocks go alike. Public clauses cite this module.
use Rattle.std.specs.Prelude.{◌≡◌, ◌+◌, ◌<◌, ◌≤◌, ◌⊎◌, ℕ, suc, Bool, true, false, List, [], ◌∷◌, slice_get, IfSome}
use Rattle.std.specs.Prelude.{IsSomeAnd}
use Rattle.rx_model.specs.declared.event.Event.{Event}
use Rattle.rx_model.specs.declared.event.Event.TheVariants.{Clocked, Taken}
use Rattle.rx_model.specs.declared.event.Noted.{Noted}
use Rattle.rx_model.specs.declared.names.Host.{Host}
use Rattle.rx_model.specs.declared.wire.TheConstants.{LIFETIME_MS, SKEW_MS}
use Rattle.rx_history.specs.Sides.{Node, moment, GivesTo}
use Rattle.rx_law.specs.Worlds.{ComesOn, TwoEnds}

-- ---- clocks

-- a clock event
abbrev pub is_clock : Event → Bool
is_clock (Clocked now) = true
is_clock _ = false

-- an event of the client other than a clock event
abbrev pub Acts : ℕ → Noted → Type 0
Acts client e = (e.node ≡ client) × (is_clock e.event ≡ false)

-- from each earlier such event to this moment the client's clock advances by at least the server's advance less a
-- minute
abbrev pub AdvancesAlike : ℕ → ℕ → List Noted → ℕ → ℕ → Type 0
AdvancesAlike server client [] now own = Unit {0}
AdvancesAlike server client (e ∷ h) now own =
    (Acts client e → now + moment client h ≤ own + moment server h + SKEW_MS) × AdvancesAlike server client h now own

-- the same of each two such events: a clock event of the client may come a while before the server's, so long as the
-- client does nothing between them
abbrev pub GoAlike : ℕ → ℕ → List Noted → Type 0
GoAlike server client [] = Unit {0}
GoAlike server client (e ∷ h) =
    (Acts client e → AdvancesAlike server client h (moment server h) (moment client h)) × GoAlike server client h

-- from every earlier place to this moment
abbrev pub AdvancesAlways : ℕ → ℕ → List Noted → ℕ → ℕ → Type 0
AdvancesAlways server client [] now own = now ≤ own + SKEW_MS
AdvancesAlways server client (e ∷ h) now own =
    (now + moment client (e ∷ h) ≤ own + moment server (e ∷ h) + SKEW_MS) × AdvancesAlways server client h now own

-- the same of each two places, which is more than is asked
abbrev pub GoAlways : ℕ → ℕ → List Noted → Type 0
GoAlways server client [] = Unit {0}
GoAlways server client (e ∷ h) =
    AdvancesAlways server client h (moment server (e ∷ h)) (moment client (e ∷ h)) × GoAlways server client h

-- ---- datagrams

-- the event is a node's, and gave this datagram, when the server's clock was not long behind
pub record GivesLately (server node : ℕ) (to : Host) (bytes : List ℕ) (now : ℕ) (e : Noted)
    (h : List Noted) : Type 0 where
  pub node_is : e.node ≡ node
  pub gives : GivesTo to bytes e.event
  pub lately : now < moment server h + LIFETIME_MS

-- one of the events did
abbrev pub GaveLately : ℕ → ℕ → Host → List ℕ → ℕ → List Noted → Type 0
GaveLately server node to bytes now [] = ⊥
GaveLately server node to bytes now (e ∷ h) =
    GivesLately server node to bytes now e h ⊎ GaveLately server node to bytes now h

-- what comes on the connection at one end was lately given to it by the other
abbrev pub FreshOn : TwoEnds → List Noted → Type 0
FreshOn x [] = Unit {0}
FreshOn x (e ∷ h) =
    (e.node ≡ x.server → ComesOn x.connection x.connection.host e.event
    (λ bytes. GaveLately x.server x.client x.server_host bytes (moment x.server h) h))
    × (e.node ≡ x.client → ComesOn x.connection x.server_host e.event
    (λ bytes. GaveLately x.server x.server x.connection.host bytes (moment x.server h) h))
    × FreshOn x h

-- a connection's datagrams are never old, and the clocks of its two ends go alike
pub record TimelyOn (x : TwoEnds) (h : List Noted) : Type 0 where
  pub fresh : FreshOn x h
  pub alike : GoAlike x.server x.client h

-- ---- a world

-- a datagram that a node takes was lately given to its host, by some node at its sender's host
pub record CameLately (nodes : List Node) (from to : Host) (bytes : List ℕ) (h : List Noted) : Type 0 where
  pub node : ℕ
  pub sender : IsSomeAnd (slice_get nodes node) (λ n. n.host ≡ from)
  pub gave : GaveLately 0 node to bytes (moment 0 h) h

-- an event that takes no old datagram
abbrev pub IsFresh : List Node → List Noted → Host → Event → Type 0
IsFresh nodes h at (Taken from bytes got) = CameLately nodes from at bytes h
IsFresh nodes h at _ = Unit {0}

-- each event is one
abbrev pub AreFresh : List Node → List Noted → Type 0
AreFresh nodes [] = Unit {0}
AreFresh nodes (e ∷ h) = IfSome (slice_get nodes e.node) (λ n. IsFresh nodes h n.host e.event) × AreFresh nodes h

-- no datagram is old, and each client's clock goes like the server's
pub record Timely (nodes : List Node) (h : List Noted) : Type 0 where
  pub fresh : AreFresh nodes h
  pub alike : (k : ℕ) → IfSome (slice_get nodes (suc k)) (λ n. GoAlike 0 (suc k) h)
