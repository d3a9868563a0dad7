-- What the law of a connection rests on. Public clauses cite this module.
use Rattle.std.specs.Prelude.{◌≡◌, ◌⊎◌, List, [], ◌∷◌, IfSome}
use Rattle.rx_model.specs.declared.event.Noted.{Noted}
use Rattle.rx_rules.specs.Looks.{conn_at}
use Rattle.rx_law.specs.Promises.{LawOn, at_client}
use Rattle.rx_history.specs.Sides.{side}
use Rattle.rx_model.specs.declared.names.CallName.{CallName}
use Rattle.rx_model.specs.Names.{connection_of}
use Rattle.rx_law.specs.Times.{TimelyOn}
use Rattle.rx_history.specs.Alone.{ForgotNoneOf}
use Rattle.rx_history.specs.Starts.{StartsOnce}
use Rattle.rx_law.specs.Worlds.{Joined, TwoEnds}

-- as each event comes, the client's connection is one to the server's host
abbrev pub LinkedTo : TwoEnds → List Noted → Type 0
LinkedTo x [] = Unit {0}
LinkedTo x (e ∷ h) = IfSome (conn_at (at_client x h) x.connection) (λ r. r.peer ≡ x.server_host) × LinkedTo x h

-- two legal ends of a connection to that server, with a network that invents nothing, where the server forgot no record
-- of it or no datagram is old
pub record Held (x : TwoEnds) (h : List Noted) : Type 0 where
  pub joined : Joined x h
  pub linked : LinkedTo x h
  pub kept : ForgotNoneOf x.server_setup x.connection (side x.server h) ⊎ TimelyOn x h

-- each call of such a connection has the law
abbrev pub ConnectionLaw : Type 0
ConnectionLaw = (x : TwoEnds) (h : List Noted) → Held x h → LawOn x h

-- the same, where the server starts no call of it while it has a record
pub record HeldOnce (x : TwoEnds) (h : List Noted) : Type 0 where
  pub joined : Joined x h
  pub linked : LinkedTo x h
  pub once : (c : CallName) → connection_of c ≡ x.connection → StartsOnce x.server_setup (side x.server h) c
