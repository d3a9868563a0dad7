-- What comes on a joined connection whose datagrams are never old was lately given.
use Rattle.std.proofs.Common.{◌≡◌, ℕ, Bool, true, false, List, [], ◌∷◌, Option, Some, None, refl, ◌∙◌, ap, sym, subst}
use Rattle.std.specs.Prelude.{IfSome}
use Rattle.rx_model.specs.declared.answers.Took.{Took}
use Rattle.rx_model.specs.declared.answers.Took.TheVariants as tooks
use Rattle.rx_model.specs.declared.event.Event.{Event}
use Rattle.rx_model.specs.declared.event.Event.TheVariants as events
use Rattle.rx_model.specs.declared.event.Noted.{Noted}
use Rattle.rx_model.specs.declared.names.CallName.{CallName}
use Rattle.rx_model.specs.declared.names.Host.{Host}
use Rattle.rx_rules.specs.After.{enters}
use Rattle.rx_rules.specs.Judging.{outer_row, is_peer}
use Rattle.rx_rules.specs.Looks.{ConnLooks, Looks, conn_at}
use Rattle.rx_model.specs.Names.{Connection, connection_of, name_of}
use Rattle.rx_rules.specs.Setup.{Setup, Kind, Client, IsServer}
use Rattle.rx_law.specs.Premises.{LinkedTo}
use Rattle.rx_law.specs.Promises.{at_client, at_server}
use Rattle.rx_history.specs.Sides.{moment}
use Rattle.rx_law.specs.Times.{FreshOn, GaveLately, TimelyOn}
use Rattle.rx_law.specs.Worlds.{ComesOn, Joined, SpeaksOf, TwoEnds}
use Rattle.rx_model.proofs.NameLaws.{host_is}
use Rattle.rx_law.proofs.Hears.{hears}
use Rattle.rx_law.proofs.Joint.{client-name, server-name}
use Rattle.rx_law.proofs.Late.{FedLately, LateAny, LateData, LateOn}
use Rattle.rx_history.proofs.Numbers.{client-known}

-- the sender that a client accepts is the host that it is linked to
pub peer-is : (from host : Host) (o : Option ConnLooks) → is_peer from o ≡ true → IfSome o (λ r. r.peer ≡ host) → from
    ≡ host
peer-is from host None is linked = absurd cc
peer-is from host (Some r) is linked = sym (host_is r.peer from is) ∙ linked

-- it was for the node
abbrev is_ours : Took → Bool
is_ours tooks.Foreign = false
is_ours _ = true

comes-ours : (y : Connection) (from sender : Host) (bytes : List ℕ) (got : Took) (Wanted : List ℕ → Type 0)
    → is_ours got ≡ true
    → ComesOn y from (events.Taken sender bytes got) Wanted → sender ≡ from → SpeaksOf y bytes → Wanted bytes
comes-ours y from sender bytes tooks.Foreign Wanted ours comes same speaks = absurd cc
comes-ours y from sender bytes _ Wanted ours comes same speaks = comes same speaks

enters-ours : (got : Took) → enters got ≡ true → is_ours got ≡ true
enters-ours tooks.Foreign is = absurd cc
enters-ours _ is = refl

hears-ours : (got : Took) → hears got ≡ true → is_ours got ≡ true
hears-ours tooks.Foreign is = absurd cc
hears-ours _ is = refl

server-late : (s : Setup) (l : Looks) (y : Connection) (e : Event) (Wanted : List ℕ → Type 0) → IsServer s.kind
    → ComesOn y y.host e Wanted
    → LateData s l y e Wanted
server-late s l y (events.Taken from bytes got) Wanted server comes = λ m payload enter reads body front at. (
    let own = server-name s from m server in
    let host : from ≡ y.host = ap (λ (n : CallName). n.host) (sym own) ∙ ap (λ (z : Connection). z.host) at in
    comes-ours y y.host from bytes got Wanted (enters-ours got enter) comes host
    (record {
      message = m;
      reads = reads;
      on = ap (λ (h : Host). connection_of (name_of h m)) (sym host)
          ∙ ap connection_of (sym own) ∙ at;
    }))
server-late s l y _ Wanted server comes = tt

client-late : (s : Setup) (l : Looks) (y : Connection) (host : Host) (e : Event) (Wanted : List ℕ → Type 0) → s.kind
    ≡ Client y.host y.epoch
    → IfSome (conn_at l y) (λ r. r.peer ≡ host) → ComesOn y host e Wanted → LateAny s l y e Wanted
client-late s l y host (events.Taken from bytes got) Wanted kind linked comes = λ m hear reads front at. (
    let known = client-known s l from m (ap (λ (k : Kind). outer_row s k l from m) (sym kind) ∙ front) in
    let sender = peer-is from host (conn_at l y) (subst (λ (z : Connection). is_peer from (conn_at l z)
    ≡ true) at known) linked in
    comes-ours y host from bytes got Wanted (hears-ours got hear) comes sender
    (record { message = m; reads = reads; on = ap connection_of (sym (client-name s y from m kind)) ∙ at }))
client-late s l y host _ Wanted kind linked comes = tt

late-on : (x : TwoEnds) (h : List Noted) → x.client_setup.kind ≡ Client x.connection.host x.connection.epoch
    → IsServer x.server_setup.kind
    → FreshOn x h → LinkedTo x h → LateOn x h
late-on x [] kind server fresh linked = tt
late-on x (e ∷ h) kind server fresh linked = (
  λ here. server-late x.server_setup (at_server x h) x.connection e.event
      (λ bytes. GaveLately x.server x.client x.server_host bytes (moment x.server h) h) server (fresh.0 here),
  λ here. client-late x.client_setup (at_client x h) x.connection x.server_host e.event
      (λ bytes. GaveLately x.server x.server x.connection.host bytes (moment x.server h) h) kind linked.0
      (fresh.1 here),
  late-on x h kind server fresh.2 linked.1,
)

-- the two ends of a joined connection with such times
pub joined-lately : (x : TwoEnds) (h : List Noted) → Joined x h → LinkedTo x h → TimelyOn x h → FedLately x h
joined-lately x h j linked timely =
    record {
      apart = j.apart;
      client_kind = j.client_kind;
      server_kind = j.server_kind;
      client_fits = j.client_fits;
      server_fits = j.server_fits;
      client_legal = j.client_legal;
      server_legal = j.server_legal;
      late = late-on x h j.client_kind j.server_kind timely.fresh linked;
      alike = timely.alike;
    }
