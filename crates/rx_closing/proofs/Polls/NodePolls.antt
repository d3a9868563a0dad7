-- A call that lives is looked at by each poll of its node; and the peer of a server's connections is its client.
use Rattle.std.proofs.Common.{◌≡◌, ◌≤◌, ◌++◌, ℕ, true, false, cond, List, [], ◌∷◌, refl, ap, sym, subst, ◌∙◌, Option}
use Rattle.std.proofs.Common.{Some, None, arith}
use Rattle.std.specs.List.{find}
use Rattle.rx_model.specs.declared.event.Event.{Event}
use Rattle.rx_model.specs.declared.names.CallName.{CallName}
use Rattle.rx_model.specs.declared.names.Host.{Host}
use Rattle.rx_model.specs.Names.{Channel, Connection, channel_of, channels_of, connection_of, same_connection}
use Rattle.rx_model.specs.Names.{same_name}
use Rattle.rx_model.proofs.NameLaws.{connection_is, name_is}
use Rattle.rx_rules.specs.After.{looks}
use Rattle.rx_rules.specs.Items.{all_channels}
use Rattle.rx_rules.specs.Life.{is_live}
use Rattle.rx_rules.specs.Looks.{CallRecord, ConnLooks, Looks, call_at, conn_at, is_call}
use Rattle.rx_rules.specs.Rules.{Legal}
use Rattle.rx_rules.specs.Setup.{FitsSetup, IsServer, Kind, Server, Client, Setup}
use Rattle.rx_rules.proofs.ConnsLaws.{number_of}
use Rattle.rx_rules.proofs.FindLaws.{find_passes}
use Rattle.rx_history.proofs.Conns.{OfKind, found-good}
use Rattle.rx_history.proofs.Fit.FitCall.{CallFits, FitsCall}
use Rattle.rx_history.proofs.Fit.FitHistory.{fit_history, node_stands}
use Rattle.rx_history.proofs.Order.Orderly.{IsLatest}
use Rattle.rx_history.proofs.Order.OrderlyHistory.{orderly_history}
use Rattle.rx_between.proofs.Each.EachItem.{In, in_behind, in_front}
use Rattle.rx_closing.proofs.Polls.OnePoll.{ConnIs}
use Rattle.rx_closing.proofs.Telling.AbortOwed.{in_four}

-- ---- a call that lives is its channel's latest, and its channel is one of the node's

in_all : (x : Connection) (ch : Channel) (rs : List ConnLooks) (q : ConnLooks)
    → find (λ (r : ConnLooks). same_connection r.connection x) rs ≡ Some q → In ch (channels_of x)
    → In ch (all_channels rs)
in_all x ch [] q found there = absurd cc
in_all x ch (r ∷ rs) q found there =
    (elim (same_connection r.connection x) as (λ b. same_connection r.connection x ≡ b
    → cond b (Some r) (find (λ (r : ConnLooks). same_connection r.connection x) rs) ≡ Some q
    → In ch (channels_of r.connection ++ all_channels rs)) [
      | true ↦ λ same is. in_front ch (channels_of r.connection) (all_channels rs)
          (subst (λ (y : Connection). In ch (channels_of y)) (sym (connection_is r.connection x same)) there)
      | false ↦ λ other is. in_behind ch (channels_of r.connection) (all_channels rs) (in_all x ch rs q is there)
    ]) refl found

-- so it is looked at by each poll
pub record IsSeen (l : Looks) (c : CallName) : Type 0 where
  pub latest : IsLatest l c
  pub known : In (channel_of c) (all_channels l.conns)
  pub conn : ConnLooks
  pub there : conn_at l (connection_of c) ≡ Some conn

pub live_seen : (s : Setup) (h : List Event) (c : CallName) (r : CallRecord) → FitsSetup s → Legal s h
    → call_at (looks s h) c ≡ Some r → is_live r.life ≡ true → IsSeen (looks s h) c
live_seen s h c r fits legal there living =
    let l : Looks = looks s h in
    let is : IsLatest l c = (orderly_history s h legal).latest c
    (ap (is_call (λ (k : CallRecord). is_live k.life)) there ∙ living) in
    let fit : FitsCall r = subst CallFits there ((fit_history s h fits legal).calls c) in
    let name : r.name ≡ c = name_is r.name c (find_passes (λ (k : CallRecord). same_name k.name c) l.calls r there) in
    let some : 1 ≤ c.number = subst (λ (n : CallName). 1 ≤ n.number) name fit.number in
    let conn = known_conn l (conn_at l (connection_of c)) refl is.number some in
    record {
      latest = is;
      known = in_all (connection_of c) (channel_of c) l.conns conn.0 conn.1 (in_four (connection_of c) c.chan is.chan);
      conn = conn.0;
      there = conn.1;
    }
  where
    known_conn : (l : Looks) (o : Option ConnLooks) → conn_at l (connection_of c) ≡ o
        → number_of (conn_at l (connection_of c)) c.chan ≡ c.number → 1 ≤ c.number
        → (q : ConnLooks) × (conn_at l (connection_of c) ≡ Some q)
    known_conn l None is number some =
        absurd (let none : 0 ≡ c.number = ap (λ (o : Option ConnLooks). number_of o c.chan) (sym is) ∙ number in
        omega arith)
    known_conn l (Some q) is number some = (q, is)

-- ---- the peer of a server's connections is its client

pub conn_any : (l : Looks) (x : Connection) (peer : Host)
    → ((q : ConnLooks) → conn_at l x ≡ Some q → q.peer ≡ peer) → (service : ℕ) × ConnIs l x peer service
conn_any l x peer same = of (conn_at l x) refl
  where
    some_conn : (a b : ConnLooks) → ◌≡◌ {A = Option ConnLooks} (Some a) (Some b) → a ≡ b
    some_conn a b is = cc

    of : (o : Option ConnLooks) → conn_at l x ≡ o → (service : ℕ) × ConnIs l x peer service
    of None none = (
      0,
      record {
        is = λ q there. absurd (let no : ◌≡◌ {A = Option ConnLooks} None (Some q) = sym none ∙ there in cc (no));
      },
    )
    of (Some r) some = (
      r.service,
      record {
        is = λ q there. (let one : q ≡ r = some_conn q r (sym there ∙ some) in
            (same q there, ap (λ (p : ConnLooks). p.service) one));
      },
    )

pub server_conn : (s : Setup) (h : List Event) (c : CallName) → IsServer s.kind → FitsSetup s → Legal s h
    → (service : ℕ) × ConnIs (looks s h) (connection_of c) c.host service
server_conn s h c serves fits legal =
    conn_any (looks s h) (connection_of c) c.host (λ q there. (
    let good = found-good s (λ (r : ConnLooks). same_connection r.connection (connection_of c)) (looks s h).conns q
    (node_stands s h fits legal).conns there in
    let same : q.connection ≡ connection_of c = connection_is q.connection (connection_of c)
    (find_passes (λ (r : ConnLooks). same_connection r.connection (connection_of c)) (looks s h).conns q there) in
    of s.kind serves q good.kind ∙ ap (λ (x : Connection). x.host) same))
  where
    of : (kind : Kind) → IsServer kind → (q : ConnLooks) → OfKind kind q → q.peer ≡ q.connection.host
    of (Server its nonces) serves q is = is.0
    of (Client host epoch) serves q is = absurd serves
