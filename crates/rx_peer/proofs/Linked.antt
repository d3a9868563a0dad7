-- A connection that a client made keeps its peer.
use Rattle.std.proofs.Common.{◌≡◌, ◌==◌, ℕ, cond, Bool, true, false, List, [], ◌∷◌, ◌++◌, map, Option, Some, None}
use Rattle.std.proofs.Common.{option_map, refl, ◌∙◌, ap, sym, subst}
use Rattle.std.specs.List.{find}
use Rattle.std.specs.Prelude.{IfSome}
use Rattle.rx_model.specs.declared.event.Noted.{Noted}
use Rattle.rx_model.specs.declared.names.Host.{Host}
use Rattle.rx_model.specs.Names.{Connection, same_connection}
use Rattle.rx_rules.specs.After.{after, looks}
use Rattle.rx_rules.specs.Looks.{ConnLooks, Looks, conn_at}
use Rattle.rx_rules.specs.Rules.{AllowedAt, Legal}
use Rattle.rx_rules.specs.Setup.{Kind, Client}
use Rattle.rx_history.specs.Sides.{side}
use Rattle.rx_law.specs.Premises.{LinkedTo}
use Rattle.rx_law.specs.Promises.{at_client}
use Rattle.rx_law.specs.Worlds.{TwoEnds}
use Rattle.rx_peer.proofs.Tags.{Adds, Tag, adds_after, tag_of, tags}

-- the peer of the connection with a name
abbrev peer_in : Connection → List Tag → Option Host
peer_in x ts = option_map (λ t. t.peer) (find (λ t. same_connection t.name x) ts)

-- it is that of its record
peer-tags : (x : Connection) (rs : List ConnLooks)
    → peer_in x (map tag_of rs) ≡ option_map (λ r. r.peer) (find (λ r. same_connection r.connection x) rs)
peer-tags x [] = refl
peer-tags x (r ∷ rs) = of (same_connection r.connection x) (peer-tags x rs)
  where
    of : (b : Bool)
        → peer_in x (map tag_of rs) ≡ option_map (λ r. r.peer) (find (λ r. same_connection r.connection x) rs)
        → option_map (λ (t : Tag). t.peer) (cond b (Some (tag_of r)) (find (λ t. same_connection t.name x)
        (map tag_of rs)))
        ≡ option_map (λ (q : ConnLooks). q.peer) (cond b (Some r) (find (λ q. same_connection q.connection x) rs))
    of true rest = refl
    of false rest = rest

-- further ones behind leave it
peer-more : (x : Connection) (ts us : List Tag) (peer : Host) → peer_in x ts ≡ Some peer
    → peer_in x (ts ++ us) ≡ Some peer
peer-more x [] us peer is = absurd cc
peer-more x (t ∷ ts) us peer is = of (same_connection t.name x) is (λ rest. peer-more x ts us peer rest)
  where
    of : (b : Bool) → option_map (λ (t : Tag). t.peer) (cond b (Some t) (find (λ t. same_connection t.name x) ts))
        ≡ Some peer
        → (peer_in x ts ≡ Some peer → peer_in x (ts ++ us) ≡ Some peer)
        → option_map (λ (t : Tag). t.peer) (cond b (Some t) (find (λ t. same_connection t.name x) (ts ++ us)))
        ≡ Some peer
    of true is rest = is
    of false is rest = rest is

-- a connection that is there has its peer later
stays : (x : Connection) (l m : Looks) (host : Host) → Adds l m → IfSome (conn_at m x) (λ r. r.peer ≡ host)
    → IfSome (conn_at l x) (λ r. r.peer ≡ host)
stays x l m host adds linked = of (conn_at l x) refl
  where
    later : (peer : Host) → option_map (λ r. r.peer) (conn_at l x) ≡ Some peer
        → option_map (λ r. r.peer) (conn_at m x) ≡ Some peer
    later peer is =
        sym (peer-tags x m.conns) ∙ ap (peer_in x) adds.1
        ∙ peer-more x (tags l) adds.0 peer (peer-tags x l.conns ∙ is)

    found : (o : Option ConnLooks) (peer : Host) → IfSome o (λ r. r.peer ≡ host)
        → option_map (λ (r : ConnLooks). r.peer) o ≡ Some peer → peer ≡ host
    found None peer linked is = absurd cc
    found (Some r) peer linked is = (let same : r.peer ≡ peer = cc in sym same ∙ linked)

    of : (o : Option ConnLooks) → conn_at l x ≡ o → IfSome o (λ r. r.peer ≡ host)
    of None is = tt
    of (Some r) is = found (conn_at m x) r.peer linked
        (later r.peer (ap (λ (o : Option ConnLooks). option_map (λ q. q.peer) o) is))

-- it was one to that host as each event came
pub linked_to : (x : TwoEnds) (h : List Noted) (host : Host) (epoch : ℕ) → x.client_setup.kind ≡ Client host epoch
    → Legal x.client_setup (side x.client h) → IfSome (conn_at (at_client x h) x.connection)
    (λ r. r.peer ≡ x.server_host)
    → LinkedTo x h
linked_to x [] host epoch kind legal linked = tt
linked_to x (e ∷ h) host epoch kind legal linked =
    let before = back (e.node == x.client) legal linked in
    (before.1, linked_to x h host epoch kind before.0 before.1)
  where
    back : (b : Bool) → Legal x.client_setup (cond b (e.event ∷ side x.client h) (side x.client h))
        → IfSome (conn_at (looks x.client_setup (cond b (e.event ∷ side x.client h) (side x.client h))) x.connection)
        (λ r. r.peer ≡ x.server_host)
        → Legal x.client_setup (side x.client h)
        × IfSome (conn_at (at_client x h) x.connection) (λ r. r.peer ≡ x.server_host)
    back false legal linked = (legal, linked)
    back true legal linked = (
      legal.1,
      stays x.connection (at_client x h) (after x.client_setup e.event (at_client x h)) x.server_host
          (adds_after x.client_setup host epoch (at_client x h) e.event kind
          (subst (λ (k : Kind). AllowedAt k x.client_setup (at_client x h) e.event) kind legal.0)) linked,
    )
