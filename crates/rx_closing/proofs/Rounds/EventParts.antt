-- What kind a node is, which of a round's events answer nothing, and what was taken by one.
use Rattle.std.proofs.Common.{◌≡◌, ℕ, true, false, List, refl, subst}
use Rattle.rx_model.specs.declared.answers.Took.{Took}
use Rattle.rx_model.specs.declared.event.Event.{Event}
use Rattle.rx_model.specs.declared.event.Event.TheVariants as events
use Rattle.rx_model.specs.declared.names.Host.{Host}
use Rattle.rx_rules.specs.Setup.{Kind, Client, IsServer, Server, client_host, is_client}
use Rattle.rx_events.specs.Events.{IsTaken}

-- ---- what polls gave

pub kind_client : (kind : Kind) → is_client kind ≡ true
    → (host : Host) × ((epoch : ℕ) × (kind ≡ Client host epoch))
kind_client (Client host epoch) is = (host, (epoch, refl))
kind_client (Server service nonces) is = absurd cc

pub kind_other : (kind : Kind) → is_client kind ≡ false → IsServer kind
kind_other (Client host epoch) is = absurd cc
kind_other (Server service nonces) is = tt

pub server_host : (kind : Kind) (from : Host) → IsServer kind → client_host kind from ≡ from
server_host (Server service nonces) from is = refl
server_host (Client host epoch) from is = absurd is

-- what was taken is that
pub taken_parts : (from : Host) (bytes : List ℕ) (e : Event) (sender : Host) (given : List ℕ) (got : Took)
    → IsTaken from bytes e → e ≡ events.Taken sender given got → (sender ≡ from) × (given ≡ bytes)
taken_parts from bytes e sender given got is same = subst (IsTaken from bytes) same is
