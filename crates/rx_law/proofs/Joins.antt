-- What comes on a joined connection was given.
use Rattle.std.proofs.Common.{◌≡◌, ℕ, true, List, [], ◌∷◌, ◌∙◌, ap, sym, subst, inl, inr}
use Rattle.std.specs.Prelude.{IfSome}
use Rattle.rx_model.specs.declared.answers.Took.TheVariants as tooks
use Rattle.rx_model.specs.declared.event.Event.{Event}
use Rattle.rx_model.specs.declared.event.Event.TheVariants as events
use Rattle.rx_model.specs.declared.event.Noted.{Noted}
use Rattle.rx_model.specs.declared.names.CallName.{CallName}
use Rattle.rx_model.specs.declared.names.Host.{Host}
use Rattle.rx_rules.specs.Judging.{outer_row, is_peer}
use Rattle.rx_rules.specs.Looks.{Looks, conn_at}
use Rattle.rx_model.specs.Names.{Connection, connection_of, name_of}
use Rattle.rx_law.specs.Promises.{LawOn, at_client, at_server}
use Rattle.rx_rules.specs.Setup.{Setup, Kind, Client, IsServer}
use Rattle.rx_history.specs.Sides.{side}
use Rattle.rx_law.specs.Worlds.{CarriedOn, ComesOn, Gave, TwoEnds}
use Rattle.rx_law.proofs.Joint.{Came, CameOn, DataCame, client-name, server-name}
use Rattle.rx_law.proofs.Law.{law-on}
use Rattle.rx_history.proofs.Numbers.{client-known}
use Rattle.rx_history.proofs.Places.{Spared}
use Rattle.rx_law.proofs.ServerHistory.{spared-once}
use Rattle.rx_law.specs.Premises.{Held, HeldOnce, LinkedTo}
use Rattle.rx_history.specs.Starts.{StartsOnce}
use Rattle.rx_law.proofs.JoinsTimed.{joined-lately, peer-is}
use Rattle.rx_law.proofs.StartsTimed.{starts-once}

server-came : (s : Setup) (l : Looks) (y : Connection) (e : Event) (Wanted : List ℕ → Type 0) → IsServer s.kind
    → ComesOn y y.host e Wanted
    → DataCame s l y e Wanted
server-came s l y (events.Taken from bytes tooks.Kept) Wanted server comes = λ m payload reads body front at. (
    let own = server-name s from m server in
    let host : from ≡ y.host = ap (λ (n : CallName). n.host) (sym own) ∙ ap (λ (z : Connection). z.host) at in
    comes host (record {
      message = m;
      reads = reads;
      on = ap (λ (h : Host). connection_of (name_of h m)) (sym host)
          ∙ ap connection_of (sym own) ∙ at;
    }))
server-came s l y _ Wanted server comes = tt

client-came : (s : Setup) (l : Looks) (y : Connection) (host : Host) (e : Event) (Wanted : List ℕ → Type 0) → s.kind
    ≡ Client y.host y.epoch
    → IfSome (conn_at l y) (λ r. r.peer ≡ host) → ComesOn y host e Wanted → Came s l y e Wanted
client-came s l y host (events.Taken from bytes tooks.Kept) Wanted kind linked comes = λ m payload reads body front at.
    (
    let known = client-known s l from m (ap (λ (k : Kind). outer_row s k l from m) (sym kind) ∙ front) in
    let sender = peer-is from host (conn_at l y) (subst (λ (z : Connection). is_peer from (conn_at l z)
    ≡ true) at known) linked in
    comes sender (record {
      message = m;
      reads = reads;
      on = ap connection_of (sym (client-name s y from m kind))
          ∙ at;
    }))
client-came s l y host (events.Taken from bytes tooks.Stopped) Wanted kind linked comes = λ m reads front at. (
    let known = client-known s l from m (ap (λ (k : Kind). outer_row s k l from m) (sym kind) ∙ front) in
    let sender = peer-is from host (conn_at l y) (subst (λ (z : Connection). is_peer from (conn_at l z)
    ≡ true) at known) linked in
    comes sender (record {
      message = m;
      reads = reads;
      on = ap connection_of (sym (client-name s y from m kind))
          ∙ at;
    }))
client-came s l y host _ Wanted kind linked comes = tt

came-on : (x : TwoEnds) (h : List Noted) → x.client_setup.kind ≡ Client x.connection.host x.connection.epoch
    → IsServer x.server_setup.kind
    → CarriedOn x h → LinkedTo x h → CameOn x h
came-on x [] kind server carried linked = tt
came-on x (e ∷ h) kind server carried linked = (
  λ here. server-came x.server_setup (at_server x h) x.connection e.event
      (λ bytes. Gave x.server_host bytes (side x.client h)) server (carried.0 here),
  λ here. client-came x.client_setup (at_client x h) x.connection x.server_host e.event
      (λ bytes. Gave x.connection.host bytes (side x.server h)) kind
      linked.0 (carried.1 here),
  came-on x h kind server carried.2 linked.1,
)

-- the law
pub once-law : (x : TwoEnds) (h : List Noted) → HeldOnce x h → LawOn x h
once-law x h held =
    let j = held.joined in
    law-on x h
    (record {
      apart = j.apart;
      client_kind = j.client_kind;
      server_kind = j.server_kind;
      client_fits = j.client_fits;
      server_fits = j.server_fits;
      client_legal = j.client_legal;
      server_legal = j.server_legal;
      came = came-on x h j.client_kind j.server_kind j.carried held.linked;
      once = held.once;
    })

pub connection-law : (x : TwoEnds) (h : List Noted) → Held x h → LawOn x h
connection-law x h held =
    let j = held.joined in
    once-law x h
    (record {
      joined = j;
      linked = held.linked;
      once = λ c on. (elim held.kept as (λ k. StartsOnce x.server_setup (side x.server h) c) [
        | inl kept ↦
            spared-once x.server_setup (side x.server h) c j.server_kind j.server_legal
            (subst (λ (y : Connection). Spared y (at_server x h)) (sym on) kept)
        | inr timely ↦ starts-once x h c (joined-lately x h j held.linked timely) on
      ]);
    })
