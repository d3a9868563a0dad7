-- Data that the server of a world judges is a client's, of the call's own host and epoch.
use Rattle.std.proofs.Common.{◌≡◌, ◌≢◌, ◌&&◌, ◌==◌, ℕ, zero, suc, if◌then◌else◌, not, Bool, true, false, List, Some}
use Rattle.std.proofs.Common.{None}
use Rattle.std.proofs.Common.{Ok, refl, ◌∙◌, ap, sym}
use Rattle.std.specs.Prelude.{IfSome, slice_get}
use Rattle.rx_model.specs.declared.answers.Took.{Took}
use Rattle.rx_model.specs.declared.answers.Took.TheVariants as tooks
use Rattle.rx_model.specs.declared.event.Event.TheVariants as events
use Rattle.rx_model.specs.declared.event.Noted.{Noted}
use Rattle.rx_model.specs.declared.names.CallName.{CallName}
use Rattle.rx_model.specs.declared.names.Host.{Host}
use Rattle.rx_model.specs.Body as bodies
use Rattle.rx_model.specs.declared.wire.TheConstants.{CLIENT_INITIATED}
use Rattle.rx_rules.specs.Judging.{is_for_servers, outer_row}
use Rattle.rx_rules.specs.Looks.{Looks}
use Rattle.rx_model.specs.Message.{Message, has_flag}
use Rattle.rx_model.specs.Reading.{reading_of}
use Rattle.rx_rules.specs.Rules.{Legal}
use Rattle.rx_rules.specs.Setup.{Kind, Server, Client, FitsSetup, IsServer, is_client, named}
use Rattle.rx_history.specs.Sides.{Node, IsClientAt, moment, side}
use Rattle.rx_law.specs.Times.{IsFresh}
use Rattle.rx_law.specs.Worlds.{AreApart, AreNodes}
use Rattle.rx_history.proofs.Data.{OwnName}
use Rattle.rx_law.proofs.Joint.{server-name}
use Rattle.rx_law.proofs.World.{and-some, gave-mine, if-some}
use Rattle.rx_law.proofs.WorldTimed.{found-and, lately-gave}

-- ---- who asks for a call

-- the client of a call
pub record ClientOf (nodes : List Node) (c : CallName) : Type 0 where
  pub index : ℕ
  pub node : Node
  pub there : slice_get nodes index ≡ Some node
  pub kind : node.setup.kind ≡ Client c.host c.epoch

client-is : (n : Node) (c : CallName) (from to : Host) (m : Message) → is_client n.setup.kind ≡ true
    → IsClientAt n.host n.setup.kind → n.host ≡ from
    → from ≡ c.host → m.epoch ≡ c.epoch → OwnName n.setup.kind (named n.setup to m) → n.setup.kind
    ≡ Client c.host c.epoch
client-is n c from to m client home sender host epoch own = of n.setup.kind client home own
  where
    of : (q : Kind) → is_client q ≡ true → IsClientAt n.host q → OwnName q (named n.setup to m) → q
        ≡ Client c.host c.epoch
    of (Server service nonces) client home own = absurd cc
    of (Client a b) client home own =
        let at : a ≡ c.host = home ∙ sender ∙ host in
        let life : b ≡ c.epoch = sym own.1 ∙ epoch in
        λ i. Client (at i) (life i)

module _ (nodes : List Node) (server : Node) (first : slice_get nodes 0 ≡ Some server) (are : AreNodes nodes)
    (apart : (i j : ℕ) → i ≢ j → IfSome (slice_get nodes i) (λ n. IfSome (slice_get nodes j)
    (λ o. AreApart n.setup.kind o.setup.kind))) where
  -- the first node is the server
  pub serves : IsServer server.setup.kind
  serves = and-some (slice_get nodes 0) server (λ n. IsServer n.setup.kind) first are.server

  -- data that a server judges is a client's
  pub asked-by : (h : List Noted) (l : Looks) (from : Host) (bytes : List ℕ) (m : Message) (payload : List ℕ)
      (got : Took) (c : CallName)
      → ((j : ℕ) (n : Node) → slice_get nodes j ≡ Some n → Legal n.setup (side j h))
      → IsFresh nodes h server.host (events.Taken from bytes got)
      → reading_of bytes ≡ Ok m → m.body ≡ bodies.Chunk payload → outer_row server.setup server.setup.kind l from m
      ≡ None
      → named server.setup from m ≡ c → ClientOf nodes c
  asked-by h l from bytes m payload got c legal fresh reads chunk front name =
      let n = found-and (slice_get nodes fresh.node) (λ n. n.host ≡ from) fresh.sender in
      let gave = lately-gave 0 fresh.node server.host bytes (moment 0 h) h fresh.gave in
      let fits = if-some (slice_get nodes fresh.node) n.0 (λ n. FitsSetup n.setup) n.1 (are.fits fresh.node) in
      let mine = gave-mine n.0.setup (side fresh.node h) server.host bytes m fits
      (legal fresh.node n.0 n.1) gave reads in
      let flag = flagged-first server.setup.kind l from m serves front in
      let client : is_client n.0.setup.kind ≡ true = sym mine.flag ∙ flag in
      let own = server-name server.setup from m serves in
      let host : from ≡ c.host = ap (λ (d : CallName). d.host) (sym own ∙ name) in
      let epoch : m.epoch ≡ c.epoch = ap (λ (d : CallName). d.epoch) (sym own ∙ name) in
      record {
        index = fresh.node;
        node = n.0;
        there = n.1;
        kind = client-is n.0 c from server.host m client (home fresh.node n.0 n.1 client) n.2 host epoch
            (mine.own payload chunk);
      }
    where
      no-client : (q : Kind) → IsServer q → is_client q ≡ true → ⊥
      no-client (Server service nonces) server is = absurd cc
      no-client (Client a b) server is = server

      home : (j : ℕ) (n : Node) → slice_get nodes j ≡ Some n → is_client n.setup.kind ≡ true
          → IsClientAt n.host n.setup.kind
      home zero n is client = absurd (no-client n.setup.kind
          (and-some (slice_get nodes 0) n (λ n. IsServer n.setup.kind) is are.server) client)
      home (suc j) n is client = if-some (slice_get nodes (suc j)) n (λ n. IsClientAt n.host n.setup.kind) is
          (are.clients j)

      flagged-first : (q : Kind) (l : Looks) (from : Host) (m : Message) → IsServer q
          → outer_row server.setup q l from m ≡ None
          → has_flag CLIENT_INITIATED m.flags ≡ true
      flagged-first (Server service nonces) l from m is front =
          of (has_flag CLIENT_INITIATED m.flags) (not (is_for_servers server.setup.class.challenges m.body))
          (not ((m.service == service) && (m.index == server.setup.class.index))) front
        where
          of : (a b c : Bool) →
              (if not a then Some tooks.Foreign else if b then Some tooks.Strange else if c then Some tooks.Unserved
              else None) ≡ None → a ≡ true
          of true b c is = refl
          of false b c is = absurd cc
      flagged-first (Client host epoch) l from m is front = absurd is
