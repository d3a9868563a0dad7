-- The law of peers, connection by connection.
use Rattle.std.proofs.Common.{◌≡◌, ◌⊎◌, ◌+◌, ◌*◌, ℕ, List, Option, Some, None, inl, inr, refl, ◌∙◌}
use Rattle.std.proofs.Common.{ap, sym, subst, arith}
use Rattle.std.specs.List.{list_any}
use Rattle.std.specs.Prelude.{IfSome, IsSomeAnd}
use Rattle.rx_model.specs.declared.event.Noted.{Noted}
use Rattle.rx_model.specs.Names.{Connection, same_connection}
use Rattle.rx_rules.specs.Looks.{ConnLooks, conn_at}
use Rattle.rx_rules.specs.Rules.{Legal}
use Rattle.rx_rules.specs.Setup.{Kind, Server, Client}
use Rattle.rx_rules.proofs.FindLaws.{find_passes}
use Rattle.rx_model.proofs.NameLaws.{connection_is}
use Rattle.rx_history.specs.Alone.{ForgotNone, ForgotNoneOf}
use Rattle.rx_history.specs.Sides.{IsClientAt}
use Rattle.rx_history.proofs.Differ.{every_found}
use Rattle.rx_history.proofs.Fit.FitChannels.{FitsConn, OwnConn}
use Rattle.rx_history.proofs.Fit.FitHistory.{fit_history}
use Rattle.rx_law.specs.Promises.{LawOn}
use Rattle.rx_law.specs.Times.{TimelyOn}
use Rattle.rx_law.proofs.Joins.{connection-law}
use Rattle.rx_law.proofs.World.{if-some}
use Rattle.rx_law.proofs.WorldTimed.{found-and}
use Rattle.rx_peer.specs.declared.role.Role.TheVariants as roles
use Rattle.rx_peer.specs.PeerWorlds.{ForgotNoneOrTimely, IsMade, IsPeer, PeerConnection, PeerLaw, PeerNode}
use Rattle.rx_peer.specs.PeerWorlds.{PeerWorld, at_caller, ends_of, half, peer_at}
use Rattle.rx_peer.proofs.Carrying.{carried_on}
use Rattle.rx_peer.proofs.Linked.{linked_to}

module _ (peers : List PeerNode) (h : List Noted) (w : PeerWorld peers h) (b : PeerConnection peers)
    (made : IsMade peers b h) where
  from-is : IsPeer b.from
  from-is = if-some (peer_at peers b.caller) b.from IsPeer b.from_is (w.peers_are b.caller)

  to-is : IsPeer b.to
  to-is = if-some (peer_at peers b.served) b.to IsPeer b.to_is (w.peers_are b.served)

  caller-legal : Legal b.from.caller (half roles.Caller b.caller h)
  caller-legal = if-some (peer_at peers b.caller) b.from (λ p. Legal p.caller (half roles.Caller b.caller h))
      b.from_is (w.legal b.caller roles.Caller)

  served-legal : Legal b.to.served (half roles.Served b.served h)
  served-legal = if-some (peer_at peers b.served) b.to (λ p. Legal p.served (half roles.Served b.served h))
      b.to_is (w.legal b.served roles.Served)

  -- the connection has the host and the epoch of the caller half that made it
  own-conn : OwnConn b.from.caller.kind b.connection
  own-conn =
      let found = found-and (conn_at (at_caller peers b h) b.connection) (λ r. r.peer ≡ b.to.host) made in
      let fits = every_found (FitsConn b.from.caller) (λ r. same_connection r.connection b.connection)
      (at_caller peers b h).conns found.0
      (fit_history b.from.caller (half roles.Caller b.caller h) (from-is.fits roles.Caller) caller-legal).conns
      found.1 in
      let name : found.0.connection ≡ b.connection =
      connection_is found.0.connection b.connection
      (find_passes (λ r. same_connection r.connection b.connection) (at_caller peers b h).conns found.0 found.1) in
      subst (λ (x : Connection). OwnConn b.from.caller.kind x) name fits.own

  caller-kind : b.from.caller.kind ≡ Client b.connection.host b.connection.epoch
  caller-kind = of b.from.caller.kind own-conn from-is.caller
    where
      of : (kind : Kind) → OwnConn kind b.connection → IsClientAt b.from.host kind
          → kind ≡ Client b.connection.host b.connection.epoch
      of (Client host epoch) own at = (
          let a = own.0 in let c = own.1 in sym (λ i. Client (a i) (c i)))
      of (Server service nonces) own at = absurd at

  caller-host : b.connection.host ≡ b.from.host
  caller-host = of b.from.caller.kind own-conn from-is.caller
    where
      of : (kind : Kind) → OwnConn kind b.connection → IsClientAt b.from.host kind → b.connection.host ≡ b.from.host
      of (Client host epoch) own at = own.0 ∙ at
      of (Server service nonces) own at = absurd at

  halves-apart : (i j : ℕ) → 2 * i ≡ 2 * j + 1 → ⊥
  halves-apart i j is = omega arith

  linked : IfSome (conn_at (at_caller peers b h) b.connection) (λ r. r.peer ≡ b.to.host)
  linked = of (conn_at (at_caller peers b h) b.connection) made
    where
      of : (o : Option ConnLooks) → IsSomeAnd o (λ r. r.peer ≡ b.to.host) → IfSome o (λ r. r.peer ≡ b.to.host)
      of None is = absurd is
      of (Some r) is = is

  kept-on : ForgotNoneOrTimely peers h b.served
      → ForgotNoneOf b.to.served b.connection (half roles.Served b.served h) ⊎ TimelyOn (ends_of peers b) h
  kept-on kept = of (if-some (peer_at peers b.served) b.to (λ q. ForgotNone q.served (half roles.Served b.served h)
      ⊎ ((c : PeerConnection peers) → c.served ≡ b.served → IsMade peers c h → TimelyOn (ends_of peers c) h))
      b.to_is kept)
    where
      of : ForgotNone b.to.served (half roles.Served b.served h)
          ⊎ ((c : PeerConnection peers) → c.served ≡ b.served → IsMade peers c h → TimelyOn (ends_of peers c) h)
          → ForgotNoneOf b.to.served b.connection (half roles.Served b.served h) ⊎ TimelyOn (ends_of peers b) h
      of (inl none) = inl (ap (λ (xs : List Connection). list_any (λ z. same_connection z b.connection) xs) none)
      of (inr timely) = inr (timely b refl made)

  pub between_law : ForgotNoneOrTimely peers h b.served → LawOn (ends_of peers b) h
  between_law kept =
      connection-law (ends_of peers b) h
      (record {
        joined = record {
          apart = halves-apart b.caller b.served;
          client_kind = caller-kind;
          server_kind = to-is.served;
          client_fits = from-is.fits roles.Caller;
          server_fits = to-is.fits roles.Served;
          client_legal = caller-legal;
          server_legal = served-legal;
          carried = carried_on peers b w.peers_are w.apart caller-host h w.legal w.carried;
        };
        linked =
            linked_to (ends_of peers b) h b.connection.host b.connection.epoch caller-kind caller-legal linked;
        kept = kept-on kept;
      })

-- each connection of peers that forget nothing, or whose datagrams are never old, has the law
pub peer_law : PeerLaw
peer_law peers h w kept b made = between_law peers h w b made (kept b.served)
