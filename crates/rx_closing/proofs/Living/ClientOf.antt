-- Each call that the server of a world has a record of is a call of one of the world's clients, which has a record of
-- it.
use Rattle.std.proofs.Common.{◌≡◌, ◌==◌, cond, ℕ, zero, suc, Bool, true, false, List, [], ◌∷◌, Option, Some, None, Ok}
use Rattle.std.proofs.Common.{Contains, is_some, refl, inl, inr, ◌∙◌, ap, sym, subst, not, if◌then◌else◌, ◌&&◌}
use Rattle.std.specs.Prelude.{slice_get}
use Rattle.rx_model.specs.declared.answers.Took.TheVariants as tooks
use Rattle.rx_model.specs.declared.event.Event.TheVariants as events
use Rattle.rx_model.specs.declared.event.Noted.{Noted}
use Rattle.rx_model.specs.declared.names.CallName.{CallName}
use Rattle.rx_model.specs.declared.names.Host.{Host}
use Rattle.rx_model.specs.declared.wire.TheConstants.{CLIENT_INITIATED}
use Rattle.rx_model.specs.Message.{Message, has_flag}
use Rattle.rx_model.specs.Names.{connection_of, name_of}
use Rattle.rx_model.specs.Reading.{reading_of}
use Rattle.rx_model.proofs.NameLaws.{same_number}
use Rattle.rx_rules.specs.After.{looks}
use Rattle.rx_rules.specs.Judging.{is_for_servers, outer_row}
use Rattle.rx_rules.specs.Looks.{CallRecord, Looks, call_at}
use Rattle.rx_rules.specs.Rules.{AllowedAt, Legal}
use Rattle.rx_rules.specs.Setup.{Client, FitsSetup, IsServer, Kind, Server, Setup, is_client, named}
use Rattle.rx_history.proofs.Data.{OwnName}
use Rattle.rx_history.specs.Sides.{IsClientAt, Node, side}
use Rattle.rx_law.proofs.Joint.{server-name}
use Rattle.rx_law.proofs.World.{Giver, and-some, gave-mine, if-some, contains-in, giver}
use Rattle.rx_law.proofs.WorldTimed.{found-and}
use Rattle.rx_law.specs.Worlds.{Datagram, IsFrom, World, bag}
use Rattle.rx_between.proofs.CameAll.{gave_own}
use Rattle.rx_between.proofs.Each.EachEvent.{each_step}
use Rattle.rx_between.proofs.Each.EachStep.{CallStep, Starts}
use Rattle.rx_between.proofs.LawsAgree.{agree_in_world}
use Rattle.rx_plan.specs.Stages.{Stage}
use Rattle.rx_closing.proofs.Frame.{Crowd, OneOf, asked_in, served_in}
use Rattle.rx_closing.proofs.Living.Before.{world_before}
use Rattle.rx_closing.proofs.Rounds.ClientsApart.{own_call_kind}
use Rattle.rx_closing.proofs.Rounds.EventParts.{kind_client}
use Rattle.rx_between.proofs.BothTrue.{no-client}

-- ---- who gave what a call starts with

-- the node that is a call's client
pub record ClientOf (nodes : List Node) (c : CallName) : Type 0 where
  pub index : ℕ
  pub client : Node
  pub there : slice_get nodes (suc index) ≡ Some client
  pub client_is : client.setup.kind ≡ Client c.host c.epoch

-- a row in front that lets a message through at a server saw it flagged as a client's
pub flagged : (s : Setup) (kind : Kind) (l : Looks) (from : Host) (m : Message) → IsServer kind
    → outer_row s kind l from m ≡ None → has_flag CLIENT_INITIATED m.flags ≡ true
flagged s (Client host epoch) l from m server none = absurd server
flagged s (Server service nonces) l from m server none =
    of (has_flag CLIENT_INITIATED m.flags) (not (is_for_servers s.class.challenges m.body))
    (not ((m.service == service) && (m.index == s.class.index))) none
  where
    of : (a b c : Bool)
        → (if not a then Some tooks.Foreign else if b then Some tooks.Strange else if c then Some tooks.Unserved
        else None) ≡ None → a ≡ true
    of true b c is = refl
    of false b c is = absurd cc

-- a server makes no call
none_made : (kind : Kind) (s : Setup) (l : Looks) (cid : ℕ) (c : CallName) → IsServer kind
    → AllowedAt kind s l (events.Called cid (Ok c)) → ⊥
none_made (Server service nonces) s l cid c server allowed = allowed
none_made (Client host epoch) s l cid c server allowed = server

module _ (nodes : List Node) (server : Node) (first : slice_get nodes 0 ≡ Some server) where
  serves : (h : List Noted) → World nodes h → IsServer server.setup.kind
  serves h w = and-some (slice_get nodes 0) server (λ n. IsServer n.setup.kind) first w.sides.nodes_are.server

  -- a message that passes the rows in front there was given by the client that its name says
  giver_client : (h : List Noted) (w : World nodes h) (from : Host) (bytes : List ℕ) (m : Message) (l : Looks)
      (c : CallName) → Contains (bag nodes h) (record { from = from; to = server.host; bytes = bytes })
      → reading_of bytes ≡ Ok m → outer_row server.setup server.setup.kind l from m ≡ None
      → named server.setup from m ≡ c → ClientOf nodes c
  giver_client h w from bytes m l c contains reads front name = by g.index g.there
    where
      d : Datagram
      d = record { from = from; to = server.host; bytes = bytes }

      g : Giver nodes d h
      g = giver nodes d h (contains-in d (bag nodes h) contains.0 contains.1 contains.2)

      fits : FitsSetup g.node.setup
      fits =
          if-some (slice_get nodes g.index) g.node (λ n. FitsSetup n.setup) g.there (w.sides.nodes_are.fits g.index)

      legal : Legal g.node.setup (side g.index h)
      legal =
          if-some (slice_get nodes g.index) g.node (λ n. Legal n.setup (side g.index h)) g.there
          (w.sides.legal g.index)

      up : is_client g.node.setup.kind ≡ true
      up =
          sym (gave-mine g.node.setup (side g.index h) server.host bytes m fits legal g.gave reads).flag
          ∙ flagged server.setup server.setup.kind l from m (serves h w) front

      own : OwnName g.node.setup.kind (named g.node.setup server.host m)
      own = gave_own g.node.setup (side g.index h) server.host bytes m fits legal up reads g.gave

      as_named : c ≡ name_of from m
      as_named = sym name ∙ server-name server.setup from m (serves h w)

      at_home : (q : Kind) → IsClientAt g.node.host q → (host : Host) (epoch : ℕ) → q ≡ Client host epoch
          → host ≡ g.node.host
      at_home q home host epoch is = subst (IsClientAt g.node.host) is home

      by : (j : ℕ) → slice_get nodes j ≡ Some g.node → ClientOf nodes c
      by zero there =
          absurd (let same : g.node ≡ server = one_node g.node server (sym there ∙ first) in
          no-client g.node.setup.kind (subst (λ (n : Node). IsServer n.setup.kind) (sym same) (serves h w)) up)
        where
          one_node : (a b : Node) → ◌≡◌ {A = Option Node} (Some a) (Some b) → a ≡ b
          one_node a b same = cc
      by (suc k) there =
          (let q = kind_client g.node.setup.kind up in
          let home : q.0 ≡ g.node.host =
          at_home g.node.setup.kind (if-some (slice_get nodes (suc k)) g.node
          (λ n. IsClientAt n.host n.setup.kind) there (w.sides.nodes_are.clients k)) q.0 q.1.0 q.1.1 in
          let mine : OwnName (Client q.0 q.1.0) (named g.node.setup server.host m) =
          subst (λ (x : Kind). OwnName x (named g.node.setup server.host m)) q.1.1 own in
          let host : q.0 ≡ c.host = home ∙ g.host ∙ sym (ap (λ (n : CallName). n.host) as_named) in
          let epoch : q.1.0 ≡ c.epoch = sym mine.1 ∙ sym (ap (λ (n : CallName). n.epoch) as_named) in
          record {
            index = k;
            client = g.node;
            there = there;
            client_is = q.1.1 ∙ (λ i. Client (host i) (epoch i));
          })

  -- each call of the server has its client among the nodes
  pub client_node : (h : List Noted) → World nodes h → (c : CallName) (y : CallRecord)
      → call_at (looks server.setup (side 0 h)) c ≡ Some y → ClientOf nodes c
  client_node [] w c y there = absurd cc
  client_node (e ∷ h) w c y there =
      by (e.node == 0) refl there (λ z is. client_node h (world_before nodes (e ∷ []) h w) c z is)
    where
      past : Looks
      past = looks server.setup (side 0 h)

      legal_by : (b : Bool) → (e.node == 0) ≡ b
          → Legal server.setup (cond b (e.event ∷ side 0 h) (side 0 h))
      legal_by b is =
          subst (λ (q : Bool). Legal server.setup (cond q (e.event ∷ side 0 h) (side 0 h))) is
          (if-some (slice_get nodes 0) server (λ n. Legal n.setup (side 0 (e ∷ h))) first (w.sides.legal 0))

      came : (e.node == 0) ≡ true → IsFrom (bag nodes h) server.host e.event
      came is =
          if-some (slice_get nodes e.node) server (λ n. IsFrom (bag nodes h) n.host e.event)
          (ap (slice_get nodes) (same_number e.node 0 is) ∙ first) w.carried.0

      start : (e.node == 0) ≡ true → Starts server.setup past e.event c y → ClientOf nodes c
      start is (name, inr made) =
          absurd (none_made server.setup.kind server.setup past made.cid c (serves (e ∷ h) w)
          (subst (AllowedAt server.setup.kind server.setup past) made.event (legal_by true is).0))
      start is (name, inl opens) =
          (let j = opens.takes.judges in
          giver_client h (world_before nodes (e ∷ []) h w) j.from j.bytes opens.takes.message past c
          (subst (IsFrom (bag nodes h) server.host) j.is (came is)) j.reads j.front j.name)

      by : (b : Bool) → (e.node == 0) ≡ b
          → call_at (looks server.setup (cond b (e.event ∷ side 0 h) (side 0 h))) c ≡ Some y
          → ((z : CallRecord) → call_at past c ≡ Some z → ClientOf nodes c) → ClientOf nodes c
      by false other is again = again y is
      by true own is again =
          of (call_at past c) refl
          (subst (λ (o : Option CallRecord). CallStep server.setup past e.event c (call_at past c) o) is
          (each_step server.setup (side 0 h) e.event c
          (if-some (slice_get nodes 0) server (λ n. FitsSetup n.setup) first (w.sides.nodes_are.fits 0))
          (legal_by true own)))
        where
          of : (o : Option CallRecord) → call_at past c ≡ o → CallStep server.setup past e.event c o (Some y)
              → ClientOf nodes c
          of None at starts = start own starts
          of (Some z) at (inl goes) = again z at
          of (Some z) at (inr starts) = start own starts

-- ---- at a stage

some_of : (o : Option CallRecord) → is_some o ≡ true → (r : CallRecord) × (o ≡ Some r)
some_of None some = absurd cc
some_of (Some r) some = (r, refl)

-- a call of a stage, with its client and its record there
pub record HasOne (c : CallName) (server : Node) (s : Stage) : Type 0 where
  pub index : ℕ
  pub client : Node
  pub one : OneOf c index client server s
  pub asked : CallRecord
  pub asked_is : asked_in c index client s ≡ Some asked

module _ (cs : List CallName) (s : Stage) (crowd : Crowd cs s) where
  -- the server
  pub has_server : (server : Node) × (slice_get s.nodes 0 ≡ Some server)
  has_server =
      (let q = found-and (slice_get s.nodes 0) (λ m. IsServer m.setup.kind) crowd.world.sides.nodes_are.server in
      (q.0, q.1))

  module _ (server : Node) (first : slice_get s.nodes 0 ≡ Some server) where
    one_with : (c : CallName) (k : ℕ) (client : Node) → slice_get s.nodes (suc k) ≡ Some client
        → client.setup.kind ≡ Client c.host c.epoch → OneOf c k client server s
    one_with c k client there kind =
        record {
          world = crowd.world;
          kept = crowd.kept;
          server_there = first;
          client_there = there;
          client_is = kind;
          plain = crowd.plain;
        }

    -- of a call that a client has a record of
    pub one_of : (c : CallName) (k : ℕ) (client : Node) (x : CallRecord) → slice_get s.nodes (suc k) ≡ Some client
        → asked_in c k client s ≡ Some x → OneOf c k client server s
    one_of c k client x there asked =
        (let q = home client.setup.kind (if-some (slice_get s.nodes (suc k)) client
        (λ m. IsClientAt m.host m.setup.kind) there (crowd.world.sides.nodes_are.clients k)) in
        one_with c k client there
        (own_call_kind client.setup (side (suc k) s.history) c x q.0 q.1.0 q.1.1
        (if-some (slice_get s.nodes (suc k)) client (λ m. FitsSetup m.setup) there
        (crowd.world.sides.nodes_are.fits (suc k)))
        (if-some (slice_get s.nodes (suc k)) client (λ m. Legal m.setup (side (suc k) s.history)) there
        (crowd.world.sides.legal (suc k))) asked))
      where
        home : (q : Kind) → IsClientAt client.host q → (host : Host) × ((epoch : ℕ) × (q ≡ Client host epoch))
        home (Client host epoch) at = (host, (epoch, refl))
        home (Server service nonces) at = absurd at

    -- and of one that the server has a record of
    pub client_of : (c : CallName) (y : CallRecord) → served_in c server s ≡ Some y → HasOne c server s
    client_of c y served =
        (let n : ClientOf s.nodes c = client_node s.nodes server first s.history crowd.world c y served in
        let known = ((agree_in_world s.nodes s.history crowd.world crowd.kept (connection_of c) (suc n.index) n.client
        server n.there n.client_is first).calls c refl).known (ap is_some served) in
        let x = some_of (asked_in c n.index n.client s) known in
        record {
          index = n.index;
          client = n.client;
          one = one_with c n.index n.client n.there n.client_is;
          asked = x.0;
          asked_is = x.1;
        })
