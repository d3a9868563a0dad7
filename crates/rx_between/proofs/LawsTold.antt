-- What acknowledgements and data that a node gave tell, as laws.
use Rattle.std.proofs.Common.{◌≡◌, true, List, refl, sym, subst, inl, inr}
use Rattle.rx_model.specs.declared.event.Event.{Event}
use Rattle.rx_model.specs.declared.names.CallName.{CallName}
use Rattle.rx_rules.specs.After.{looks}
use Rattle.rx_rules.specs.Looks.{call_at}
use Rattle.rx_rules.specs.Rules.{Legal}
use Rattle.rx_rules.specs.Setup.{Setup, Kind, Client, Server, FitsSetup, IsServer, named}
use Rattle.rx_between.specs.Acknowledged.{received_by}
use Rattle.rx_between.specs.Told.{AckAllsTell, AcksTell, DataTells, StartsNoneAnew}
use Rattle.rx_between.proofs.GivenAckAlls.{given_ackalls, no_ackalls}
use Rattle.rx_between.proofs.GivenAcks.{OnlyGrows, given_acks}
use Rattle.rx_between.proofs.Histories.{client_only_grows, server_only_grows}
use Rattle.rx_between.proofs.SaysLate.{given_data}

only-grows : (s : Setup) (h : List Event) (c : CallName) → FitsSetup s → Legal s h → StartsNoneAnew s h c
    → OnlyGrows s c h
only-grows s h c fits legal (inl client) = client_only_grows s client.0 client.1 h c client.2 fits legal
only-grows s h c fits legal (inr server) = server_only_grows s h c server.0 fits legal server.1

pub acks_tell : AcksTell
acks_tell s h to bytes m a fits legal starts gave reads body =
    given_acks s h (named s to m) to bytes m a fits legal (only-grows s h (named s to m) fits legal starts) reads body
    refl gave

pub ackalls_tell : AckAllsTell
ackalls_tell s h to bytes m fits legal gave reads body = of s.kind refl
  where
    of : (k : Kind) → s.kind ≡ k
        → (IsServer s.kind → ⊥) × ((received_by (call_at (looks s h) (named s to m))).ended ≡ true)
    of (Server service nonces) kind = (
      λ server. no_ackalls s h to bytes m server fits legal reads body gave,
      absurd (no_ackalls s h to bytes m (subst IsServer (sym kind) tt) fits legal reads body gave),
    )
    of (Client host epoch) kind = (
      λ server. no_ackalls s h to bytes m server fits legal reads body gave,
      given_ackalls s host epoch h (named s to m) to bytes m kind fits legal
          (client_only_grows s host epoch h (named s to m) kind fits legal) reads body refl gave,
    )

pub data_tells : DataTells
data_tells s h to bytes m payload server fits legal once gave reads body =
    given_data s h (named s to m) to bytes m payload server fits legal once
    (server_only_grows s h (named s to m) server fits legal once) reads body refl gave
