-- Between two legal ends of a connection whose network invents nothing on it, whatever message of it is judged at one
-- end was given by the other.
use Rattle.std.proofs.Common.{◌≡◌, ℕ, true, List, [], ◌∷◌, refl, ap, sym, subst, ◌∙◌}
use Rattle.std.specs.Prelude.{IfSome}
use Rattle.rx_model.specs.declared.answers.Took.{Took}
use Rattle.rx_model.specs.declared.answers.Took.TheVariants as tooks
use Rattle.rx_model.specs.declared.event.Event.{Event}
use Rattle.rx_model.specs.declared.event.Event.TheVariants as events
use Rattle.rx_model.specs.declared.event.Noted.{Noted}
use Rattle.rx_model.specs.declared.names.CallName.{CallName}
use Rattle.rx_model.specs.declared.names.Host.{Host}
use Rattle.rx_model.specs.Names.{Connection, connection_of, name_of}
use Rattle.rx_rules.specs.Judging.{is_peer, outer_row}
use Rattle.rx_rules.specs.Looks.{Looks, conn_at}
use Rattle.rx_rules.specs.Setup.{Setup, Kind, Client, IsServer}
use Rattle.rx_law.proofs.Joint.{client-name, server-name}
use Rattle.rx_law.proofs.JoinsTimed.{peer-is}
use Rattle.rx_history.proofs.Numbers.{client-known}
use Rattle.rx_law.specs.Premises.{LinkedTo}
use Rattle.rx_law.specs.Promises.{at_client, at_server}
use Rattle.rx_history.specs.Sides.{side}
use Rattle.rx_law.specs.Worlds.{CarriedOn, ComesOn, Gave, SpeaksOf, TwoEnds}
use Rattle.rx_between.proofs.CameAll.{CameAll, JudgedCame}

comes-from : (y : Connection) (host : Host) (from : Host) (bytes : List ℕ) (got : Took) (Wanted : List ℕ → Type 0)
    → (got ≡ tooks.Foreign → ⊥) → ComesOn y host (events.Taken from bytes got) Wanted → from ≡ host → SpeaksOf y bytes
    → Wanted bytes
comes-from y host from bytes tooks.Foreign Wanted other comes at speaks = absurd (other refl)
comes-from y host from bytes _ Wanted other comes at speaks = comes at speaks

server-judged : (s : Setup) (l : Looks) (y : Connection) (e : Event) (Wanted : List ℕ → Type 0) → IsServer s.kind
    → ComesOn y y.host e Wanted → JudgedCame s l y e Wanted
server-judged s l y (events.Taken from bytes got) Wanted server comes = λ m other reads front at. (
    let own = server-name s from m server in
    let host : from ≡ y.host = ap (λ (n : CallName). n.host) (sym own) ∙ ap (λ (z : Connection). z.host) at in
    comes-from y y.host from bytes got Wanted other comes host (record {
      message = m;
      reads = reads;
      on = ap (λ (h : Host). connection_of (name_of h m)) (sym host) ∙ ap connection_of (sym own) ∙ at;
    }))
server-judged s l y _ Wanted server comes = tt

client-judged : (s : Setup) (l : Looks) (y : Connection) (host : Host) (e : Event) (Wanted : List ℕ → Type 0)
    → s.kind ≡ Client y.host y.epoch → IfSome (conn_at l y) (λ r. r.peer ≡ host) → ComesOn y host e Wanted
    → JudgedCame s l y e Wanted
client-judged s l y host (events.Taken from bytes got) Wanted kind linked comes = λ m other reads front at. (
    let known = client-known s l from m (ap (λ (k : Kind). outer_row s k l from m) (sym kind) ∙ front) in
    let sender = peer-is from host (conn_at l y) (subst (λ (z : Connection). is_peer from (conn_at l z)
    ≡ true) at known) linked in
    comes-from y host from bytes got Wanted other comes sender (record {
      message = m;
      reads = reads;
      on = ap connection_of (sym (client-name s y from m kind)) ∙ at;
    }))
client-judged s l y host _ Wanted kind linked comes = tt

-- where its client's connection is one to that server
pub joined_came : (x : TwoEnds) (h : List Noted) → x.client_setup.kind ≡ Client x.connection.host x.connection.epoch
    → IsServer x.server_setup.kind → CarriedOn x h → LinkedTo x h → CameAll x h
joined_came x [] kind server carried linked = tt
joined_came x (e ∷ h) kind server carried linked = (
  λ here. server-judged x.server_setup (at_server x h) x.connection e.event
      (λ bytes. Gave x.server_host bytes (side x.client h)) server (carried.0 here),
  λ here. client-judged x.client_setup (at_client x h) x.connection x.server_host e.event
      (λ bytes. Gave x.connection.host bytes (side x.server h)) kind linked.0 (carried.1 here),
  joined_came x h kind server carried.2 linked.1,
)
