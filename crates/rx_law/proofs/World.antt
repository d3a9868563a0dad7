-- From a world of hosts to each connection.
use Rattle.std.proofs.Common.{◌≡◌, ◌≢◌, ◌⊎◌, ◌&&◌, ◌==◌, ◌<◌, not, cond, if◌then◌else◌, ℕ, zero, suc, Bool, true, false}
use Rattle.std.proofs.Common.{List, [], ◌∷◌}
use Rattle.std.proofs.Common.{length, drop, Option, Some, None, Result, Ok, Err, refl, ◌∙◌, ap, sym, subst}
use Rattle.std.proofs.Common.{inl, inr, arith}
use Rattle.std.specs.Prelude.{IfSome, IsSomeAnd, Contains, slice_get, slice_index_or}
use Rattle.std.specs.List.{list_any}
use Rattle.rx_model.specs.declared.answers.BadMsg.{BadMsg}
use Rattle.rx_model.specs.declared.answers.Took.{Took}
use Rattle.rx_model.specs.declared.answers.Took.TheVariants as tooks
use Rattle.rx_model.specs.declared.event.Event.{Event}
use Rattle.rx_model.specs.declared.event.Event.TheVariants as events
use Rattle.rx_model.specs.declared.event.Noted.{Noted}
use Rattle.rx_model.specs.declared.names.CallName.{CallName}
use Rattle.rx_model.specs.declared.names.Host.{Host}
use Rattle.rx_model.specs.declared.stray.Stray.{Stray}
use Rattle.rx_model.specs.declared.wire.TheConstants.{CLIENT_INITIATED}
use Rattle.rx_rules.specs.After.{after, counted, linked, given_body, given_by, given_message, looks, prepared}
use Rattle.rx_rules.specs.After.{taken_behind, taken_message, turned_away}
use Rattle.rx_model.specs.Body.{Body}
use Rattle.rx_model.specs.Body as bodies
use Rattle.rx_history.specs.Counts.{Once}
use Rattle.rx_rules.specs.Items.{poll_answer}
use Rattle.rx_rules.specs.Judging.{client_outer, outer_row, is_for_clients, is_for_servers, is_peer}
use Rattle.rx_rules.specs.Looks.{Looks, conn_at}
use Rattle.rx_model.specs.Message.{Message, has_flag}
use Rattle.rx_model.specs.Names.{Connection, connection_of, same_connection}
use Rattle.rx_law.specs.Promises.{LawIn, ServerForgotNone, ends_in, at_client, at_server}
use Rattle.rx_model.specs.Reading.{reading_of}
use Rattle.rx_rules.specs.Records.{silenced}
use Rattle.rx_rules.specs.Rules.{AllowedAt, AllowedClient, Legal}
use Rattle.rx_rules.specs.Setup.{Setup, Kind, Server, Client, FitsSetup, IsServer, is_client, named}
use Rattle.rx_history.specs.Sides.{Node, side, GivesTo, IsClientAt}
use Rattle.rx_model.specs.Strays.{is_stray}
use Rattle.rx_history.specs.Starts.{StartsOnce}
use Rattle.rx_history.specs.Alone.{ForgotNone}
use Rattle.rx_law.specs.Worlds.{AreApart, AreNodes, Carried, Datagram, Gave, IsFrom, World, bag, given_at, with_given}
use Rattle.rx_model.proofs.NameLaws.{number_itself, same_number}
use Rattle.rx_history.proofs.Laws.OnceLaw.{once_under_forgery}
use Rattle.rx_history.proofs.ClientHistory.{client-calls}
use Rattle.rx_history.proofs.Data.{OwnName, poll-flag, poll-gives}
use Rattle.rx_law.proofs.Joint.{Came, CameOn, DataCame, Fed, gives-at, legal-before, polled-is, server-name}
use Rattle.rx_law.proofs.Law.{law-on}
use Rattle.rx_history.proofs.Server.{Standing, good-silenced}
use Rattle.rx_law.proofs.ServerHistory.{spared-once}
use Rattle.rx_history.proofs.ServerStands.{server-stands}
use Rattle.rx_history.proofs.Laws.ForgotLaws.{with-strays}
use Rattle.rx_history.proofs.StraysStay.{strays-prepared}

-- ---- a client owes no stray abort

-- no row in front of a client is Unserved
client-rows : (s : Setup) (kind : Kind) (host : Host) (epoch : ℕ) (l : Looks) (from : Host) (m : Message) (row : Took)
    → kind ≡ Client host epoch
    → outer_row s kind l from m ≡ Some row → (turned_away row from m l).strays ≡ l.strays
client-rows s (Server service nonces) host epoch l from m row is front = absurd cc
client-rows s (Client h e) host epoch l from m row is front =
    of (has_flag CLIENT_INITIATED m.flags) (is_peer from (conn_at l (connection_of (named s from m))))
    ((m.index == s.class.index) && is_for_clients s.class.challenges m.body) front
  where
    one : (a : Took) → Some a ≡ Some row → (turned_away a from m l).strays ≡ l.strays
        → (turned_away row from m l).strays ≡ l.strays
    one a same is = (let at : a ≡ row = some_row a row same in subst
        (λ (r : Took). (turned_away r from m l).strays ≡ l.strays) at is)
      where
        some_row : (a b : Took) → Some a ≡ Some b → a ≡ b
        some_row a b is = cc

    of : (a b c : Bool) →
        (if a then Some tooks.Foreign else if not b then Some tooks.Strange else if not c then Some tooks.Strange
        else None) ≡ Some row
        → (turned_away row from m l).strays ≡ l.strays
    of true b c is = one tooks.Foreign is refl
    of false false c is = one tooks.Strange is refl
    of false true false is = one tooks.Strange is refl
    of false true true is = absurd cc

strays-message : (s : Setup) (host : Host) (epoch : ℕ) (from : Host) (reading : Result Message BadMsg) (got : Took)
    (l : Looks) → s.kind ≡ Client host epoch
    → (taken_message s from reading got l).strays ≡ l.strays
strays-message s host epoch from (Err bad) got l kind = refl
strays-message s host epoch from (Ok m) got l kind = of (outer_row s s.kind l from m) refl
  where
    d : CallName
    d = named s from m

    of : (row : Option Took) → outer_row s s.kind l from m ≡ row → (taken_behind s row from d m got l).strays ≡ l.strays
    of (Some row) front = client-rows s s.kind host epoch l from m row kind front
    of None front = with-strays s got d m (prepared s got (connection_of d) l)
        ∙ strays-prepared s got (connection_of d) l

pub strays-given : (s : Setup) (got : Option (Host × List ℕ)) (l : Looks) → l.strays ≡ []
    → (given_by s got l).strays ≡ []
strays-given s None l none = none
strays-given s (Some (to, bytes)) l none = of (reading_of bytes)
  where
    body : (d : CallName) (m : Message) (b : Body) (l : Looks) → (given_body d m b l).strays ≡ l.strays
    body d m (bodies.Chunk payload) l = refl
    body d m (bodies.Ack a) l = refl
    body d m (bodies.Abort code) l = refl
    body d m bodies.Busy l = refl
    body d m (bodies.Challenge given) l = refl
    body d m (bodies.Response given) l = refl
    body d m bodies.AckAll l = refl

    stray : (m : Message) (b : Bool) → (if b then record l { strays = drop 1 l.strays } else given_body
        (named s to m) m m.body (counted (connection_of (named s to m)) l)).strays ≡ []
    stray m true = ap (λ (xs : List Stray). drop 1 xs) none
    stray m false = body (named s to m) m m.body (counted (connection_of (named s to m)) l) ∙ none

    of : (reading : Result Message BadMsg) → (given_message s to reading l).strays ≡ []
    of (Err bad) = none
    of (Ok m) = stray m (is_stray m m.body)

pub strays-linked : (kind : Kind) (to : Host) (service first cid : ℕ) (l : Looks)
    → (linked kind to service first cid l).strays ≡ l.strays
strays-linked (Client host epoch) to service first cid l = refl
strays-linked (Server service nonces) to other first cid l = refl

strays-client : (s : Setup) (host : Host) (epoch : ℕ) (l : Looks) (e : Event) → s.kind ≡ Client host epoch
    → AllowedClient s host epoch l e
    → l.strays ≡ [] → (after s e l).strays ≡ []
strays-client s host epoch l (events.Linked to service first
    (Ok cid)) kind allowed none = strays-linked s.kind to service first cid l ∙ none
strays-client s host epoch l (events.Linked to service first (Err full)) kind allowed none = none
strays-client s host epoch l (events.Called cid (Ok d)) kind allowed none = none
strays-client s host epoch l (events.Called cid (Err refused)) kind allowed none = none
strays-client s host epoch l (events.Wrote d offered got bytes) kind allowed none = none
strays-client s host epoch l (events.Shut d (Ok done)) kind allowed none = none
strays-client s host epoch l (events.Shut d (Err closed)) kind allowed none = none
strays-client s host epoch l (events.HasRead d max got bytes) kind allowed none = none
strays-client s host epoch l (events.Ended d got) kind allowed none = none
strays-client s host epoch l (events.Cancelled d code (Ok done)) kind allowed none = none
strays-client s host epoch l (events.Cancelled d code (Err closed)) kind allowed none = none
strays-client s host epoch l (events.Taken from bytes got) kind allowed none = strays-message s host epoch from
    (reading_of bytes) got l kind ∙ none
strays-client s host epoch l (events.Polled got) kind allowed none = strays-given s got (silenced l) none
strays-client s host epoch l (events.Clocked now) kind allowed none = none
strays-client s host epoch l (events.Accepted got) kind allowed none = absurd allowed
strays-client s host epoch l (events.Finished d code got) kind allowed none = absurd allowed

pub clients : (s : Setup) (host : Host) (epoch : ℕ) (l : Looks) (e : Event) → s.kind ≡ Client host epoch
    → AllowedAt s.kind s l e → AllowedClient s host epoch l e
clients s host epoch l e kind allowed = subst (λ (k : Kind). AllowedAt k s l e) kind allowed

strays-none : (s : Setup) (host : Host) (epoch : ℕ) (h : List Event) → s.kind ≡ Client host epoch → Legal s h
    → (looks s h).strays ≡ []
strays-none s host epoch [] kind legal = refl
strays-none s host epoch (e ∷ h) kind legal =
    strays-client s host epoch (looks s h) e kind (clients s host epoch (looks s h) e kind legal.0)
    (strays-none s host epoch h kind legal.1)

-- ---- what a node gave

stands : (s : Setup) (kind : Kind) (h : List Event) → s.kind ≡ kind → FitsSetup s → Legal s h → Standing s (looks s h)
    × (is_client s.kind ≡ true → (looks s h).strays ≡ [])
stands s (Server service nonces) h kind fits legal = (
  server-stands s h (subst IsServer (sym kind) tt) fits legal,
  λ is. absurd
      (let no' = ap is_client kind in cc (is, no')),
)
stands s (Client host epoch) h kind fits legal =
    ((client-calls s host epoch h kind fits legal).standing, λ is. strays-none s host epoch h kind legal)

-- a datagram that was given is flagged as its node's, and its data has the node's name
pub record Mine (s : Setup) (to : Host) (m : Message) : Type 0 where
  pub flag : has_flag CLIENT_INITIATED m.flags ≡ is_client s.kind
  pub own : (payload : List ℕ) → m.body ≡ bodies.Chunk payload → OwnName s.kind (named s to m)

gave-polled : (s : Setup) (l : Looks) (got : Option (Host × List ℕ)) (to : Host) (bytes : List ℕ) (m : Message)
    → FitsSetup s
    → Standing s l × (is_client s.kind ≡ true → l.strays ≡ []) → got ≡ poll_answer s l → got ≡ Some (to, bytes)
    → reading_of bytes ≡ Ok m → Mine s to m
gave-polled s l got to bytes m fits standing answer is reads =
    record {
      flag = poll-flag s (silenced l) l.strays to bytes m (λ d. good-silenced s l d (standing.0.calls d)) standing.1
          (sym answer ∙ is) reads;
      own = λ payload chunk. (
          let g = poll-gives s (silenced l) l.strays to bytes m payload fits standing.0.conns
          (λ d. good-silenced s l d (standing.0.calls d)) (sym answer ∙ is) reads chunk in
          ((good-silenced s l (named s to m) (standing.0.calls (named s to m))).named (rw g.there refl)).own);
    }

pub gave-mine : (s : Setup) (h : List Event) (to : Host) (bytes : List ℕ) (m : Message) → FitsSetup s → Legal s h
    → Gave to bytes h → reading_of bytes ≡ Ok m
    → Mine s to m
gave-mine s [] to bytes m fits legal gave reads = absurd gave
gave-mine s (e ∷ h) to bytes m fits legal (inr gave) reads = gave-mine s h to bytes m fits legal.1 gave reads
gave-mine s (e ∷ h) to bytes m fits legal (inl gives) reads =
    let g = gives-at to bytes e gives in
    gave-polled s (looks s h) g.0 to bytes m fits (stands s s.kind h refl fits legal.1)
    (polled-is s.kind s (looks s h) g.0 (subst (λ (x : Event). AllowedAt s.kind s (looks s h) x) g.1 legal.0)) g.2 reads

-- ---- who gave a datagram

abbrev pub In : Datagram → List Datagram → Type 0
In d [] = ⊥
In d (x ∷ xs) = (x ≡ d) ⊎ In d xs

pub contains-in : (d : Datagram) (xs : List Datagram) (k : ℕ) → k < length xs → slice_index_or xs k d ≡ d → In d xs
contains-in d [] k low is = absurd (omega arith)
contains-in d (x ∷ xs) zero low is = inl is
contains-in d (x ∷ xs) (suc k) low is = inr (contains-in d xs k (omega arith) is)

pub record Giver (nodes : List Node) (d : Datagram) (h : List Noted) : Type 0 where
  pub index : ℕ
  pub node : Node
  pub there : slice_get nodes index ≡ Some node
  pub host : node.host ≡ d.from
  pub gave : Gave d.to d.bytes (side index h)

pub with-in : (from : Host) (e : Event) (d : Datagram) (ds : List Datagram) → In d (with_given from e ds)
    → ((from ≡ d.from) × GivesTo d.to d.bytes e) ⊎ In d ds
with-in from (events.Polled (Some (to, bytes))) d ds (inl is) =
    inl (ap (λ (x : Datagram). x.from) is, (ap (λ (x : Datagram). x.to) is, ap (λ (x : Datagram). x.bytes) is))
with-in from (events.Polled (Some (to, bytes))) d ds (inr old) = inr old
with-in from (events.Polled None) d ds old = inr old
with-in from (events.Linked a b f got) d ds old = inr old
with-in from (events.Called cid got) d ds old = inr old
with-in from (events.Wrote c offered got given) d ds old = inr old
with-in from (events.Shut c got) d ds old = inr old
with-in from (events.HasRead c max got given) d ds old = inr old
with-in from (events.Ended c got) d ds old = inr old
with-in from (events.Cancelled c code got) d ds old = inr old
with-in from (events.Accepted got) d ds old = inr old
with-in from (events.Finished c code got) d ds old = inr old
with-in from (events.Taken a given got) d ds old = inr old
with-in from (events.Clocked now) d ds old = inr old

pub later-gave : (n : ℕ) (e : Noted) (h : List Noted) (to : Host) (bytes : List ℕ) → Gave to bytes (side n h)
    → Gave to bytes (side n (e ∷ h))
later-gave n e h to bytes gave =
    (elim (e.node == n) as (λ b. Gave to bytes (cond b (e.event ∷ side n h) (side n h))) [
      | true ↦ inr gave
      | false ↦ gave
    ])

pub giver : (nodes : List Node) (d : Datagram) (h : List Noted) → In d (bag nodes h) → Giver nodes d h
giver nodes d [] is = absurd is
giver nodes d (e ∷ h) is = of (slice_get nodes e.node) refl (λ i. giver nodes d h i) is
  where
    old : Giver nodes d h → Giver nodes d (e ∷ h)
    old g = record {
      index = g.index;
      node = g.node;
      there = g.there;
      host = g.host;
      gave =
          later-gave g.index e h d.to d.bytes g.gave;
    }

    of : (o : Option Node) → slice_get nodes e.node ≡ o → (In d (bag nodes h) → Giver nodes d h)
        → In d (given_at o e.event (bag nodes h)) → Giver nodes d (e ∷ h)
    of None there before is = old (before is)
    of (Some n) there earlier is =
        (elim (with-in n.host e.event d (bag nodes h) is) as (λ t. Giver nodes d (e ∷ h)) [
          | inl now ↦ record {
            index = e.node;
            node = n;
            there = there;
            host = now.0;
            gave = subst (λ (es : List Event). Gave d.to d.bytes es)
                (ap (λ (b : Bool). cond b (e.event ∷ side e.node h) (side e.node h)) (sym (number_itself e.node)))
                (inl now.1);
          }
          | inr before ↦ old (earlier before)
        ])

-- ---- one connection of a world

pub if-some : {X : Type 0} (o : Option X) (x : X) (P : X → Type 0) → o ≡ Some x → IfSome o P → P x
if-some {X = X} o x P is holds = subst (λ (q : Option X). IfSome q P) is holds

pub and-some : {X : Type 0} (o : Option X) (x : X) (P : X → Type 0) → o ≡ Some x → IsSomeAnd o P → P x
and-some {X = X} o x P is holds = subst (λ (q : Option X). IsSomeAnd q P) is holds

module _ (nodes : List Node) (k : ℕ) (client server : Node) (y : Connection) (there : slice_get nodes k ≡ Some client)
    (kind : client.setup.kind ≡ Client y.host y.epoch) (first : slice_get nodes 0 ≡ Some server) (are : AreNodes nodes)
    (apart : (i j : ℕ) → i ≢ j → IfSome (slice_get nodes i) (λ n. IfSome (slice_get nodes j)
    (λ o. AreApart n.setup.kind o.setup.kind))) where
  pub is_server : IsServer server.setup.kind
  is_server = and-some (slice_get nodes 0) server (λ n. IsServer n.setup.kind) first are.server

  not-server : (q : Kind) → q ≡ Client y.host y.epoch → IsServer q → ⊥
  not-server (Server service nonces) is server = absurd cc
  not-server (Client host epoch) is server = server

  pub not-first : k ≢ 0
  not-first is =
      let same : Some client ≡ Some server = sym there ∙ ap (slice_get nodes) is ∙ first in
      let one = some_node client server same in
      not-server client.setup.kind kind (subst (λ (n : Node). IsServer n.setup.kind) (sym one) is_server)
    where
      some_node : (a b : Node) → Some a ≡ Some b → a ≡ b
      some_node a b is = cc

  -- a node that isn't the first is a client at its own address
  pub at-home : (j : ℕ) (n : Node) → slice_get nodes j ≡ Some n → (j ≡ 0) ⊎ IsClientAt n.host n.setup.kind
  at-home zero n is = inl refl
  at-home (suc j) n is = inr (if-some (slice_get nodes (suc j)) n (λ n. IsClientAt n.host n.setup.kind) is
      (are.clients j))

  own-address : (n : Node) (q : Kind) → q ≡ Client y.host y.epoch → IsClientAt n.host q → y.host ≡ n.host
  own-address n (Client host epoch) is at = (let same : host ≡ y.host = client_host is in sym same ∙ at)
    where
      client_host : (Client host epoch) ≡ Client y.host y.epoch → host ≡ y.host
      client_host is = cc
  own-address n (Server service nonces) is at = absurd at

  pub client-address : y.host ≡ client.host
  client-address =
      (elim (at-home k client there) as (λ t. y.host ≡ client.host) [
        | inl zero' ↦ absurd (not-first zero')
        | inr at ↦ own-address client client.setup.kind kind at
      ])

  -- a client with this host and epoch is the client
  one-life : (j : ℕ) (n : Node) → slice_get nodes j ≡ Some n → (q : Kind) → n.setup.kind ≡ q → is_client q ≡ true
      → IsClientAt n.host q
      → n.host ≡ y.host → ((a : Host) (b : ℕ) → q ≡ Client a b → b ≡ y.epoch) → j ≡ k
  one-life j n at (Server service nonces) is client' home host life = absurd cc
  one-life j n at (Client a b) is client' home host life =
      (elim (j == k) as (λ t. (j == k) ≡ t → j ≡ k) [
        | true ↦ λ same. same_number j k same
        | false ↦ λ other. absurd (
            let differ : j ≢ k = λ same. (let yes' : (j == k)
            ≡ true = rw same (number_itself k) in absurd (cc (yes', other))) in
            let two = if-some (slice_get nodes k) client (λ o. AreApart n.setup.kind o.setup.kind) there
            (if-some (slice_get nodes j) n (λ n. IfSome (slice_get nodes k)
            (λ o. AreApart n.setup.kind o.setup.kind)) at (apart j k differ)) in
            let named' : AreApart (Client a b) (Client y.host y.epoch) =
            subst (λ (q : Kind). AreApart (Client a b) q) kind
            (subst (λ (q : Kind). AreApart q client.setup.kind) is two) in
            named' (home ∙ host, life a b refl))
      ]) refl

  pub flagged-server : (from : Host) (m : Message) (q : Kind) → IsServer q
      → outer_row server.setup q (looks server.setup []) from m ≡ None → has_flag CLIENT_INITIATED m.flags ≡ true
  flagged-server from m (Server service nonces) is front =
      of (has_flag CLIENT_INITIATED m.flags) (not (is_for_servers server.setup.class.challenges m.body))
      (not ((m.service == service) && (m.index == server.setup.class.index))) front
    where
      of : (a b c : Bool) →
          (if not a then Some tooks.Foreign else if b then Some tooks.Strange else if c then Some tooks.Unserved
          else None) ≡ None → a ≡ true
      of true b c is = refl
      of false b c is = absurd cc
  flagged-server from m (Client host epoch) is front = absurd is

  pub flagged-any : (l : Looks) (from : Host) (m : Message) (q : Kind) → IsServer q → outer_row server.setup q l from m
      ≡ None
      → outer_row server.setup q (looks server.setup []) from m ≡ None
  flagged-any l from m (Server service nonces) is front = front
  flagged-any l from m (Client host epoch) is front = absurd is

  flagged-client : (l : Looks) (from : Host) (m : Message) → client_outer client.setup l from m ≡ None
      → has_flag CLIENT_INITIATED m.flags ≡ false
  flagged-client l from m front = of (has_flag CLIENT_INITIATED m.flags) _ front
    where
      of : (a : Bool) (rest : Option Took) → (if a then Some tooks.Foreign else rest) ≡ None → a ≡ false
      of true rest is = absurd cc
      of false rest is = refl

  own-life : (q : Kind) (c : CallName) → OwnName q c → (a : Host) (b : ℕ) → q ≡ Client a b → b ≡ c.epoch
  own-life (Server service nonces) c own a b is = absurd cc
  own-life (Client host epoch) c own a b is = sym (epoch_is is) ∙ sym own.1
    where
      epoch_is : (Client host epoch) ≡ Client a b → epoch ≡ b
      epoch_is is = cc

  -- who gives data of the connection that comes at the server is the client
  pub giver-client : (h : List Noted) (from : Host) (bytes : List ℕ) (m : Message) (payload : List ℕ) (l : Looks)
      (j : ℕ) (n : Node)
      → slice_get nodes j ≡ Some n → n.host ≡ from → Legal n.setup (side j h) → Gave server.host bytes (side j h)
      → reading_of bytes ≡ Ok m → m.body ≡ bodies.Chunk payload → outer_row server.setup server.setup.kind l from m
      ≡ None
      → connection_of (named server.setup from m) ≡ y → j ≡ k
  giver-client h from bytes m payload l j n at_node host_is legal gave reads chunk front at =
      let fits = if-some (slice_get nodes j) n (λ n. FitsSetup n.setup) at_node (are.fits j) in
      let mine = gave-mine n.setup (side j h) server.host bytes m fits legal gave reads in
      let flag = flagged-server from m server.setup.kind is_server
      (flagged-any l from m server.setup.kind is_server front) in
      let client' : is_client n.setup.kind ≡ true = sym mine.flag ∙ flag in
      let own = server-name server.setup from m is_server in
      let host : from ≡ y.host = ap (λ (n : CallName). n.host) (sym own) ∙ ap (λ (z : Connection). z.host) at in
      let epoch : m.epoch ≡ y.epoch = ap (λ (n : CallName). n.epoch) (sym own) ∙ ap (λ (z : Connection). z.epoch) at in
      one-is client' (host_is ∙ host) (λ a b is. own-life n.setup.kind (named n.setup server.host m)
      (mine.own payload chunk) a b is ∙ epoch)
    where
      one-is : is_client n.setup.kind ≡ true → n.host ≡ y.host
          → ((a : Host) (b : ℕ) → n.setup.kind ≡ Client a b → b ≡ y.epoch) → j ≡ k
      one-is client' host life =
          (elim (at-home j n at_node) as (λ t. j ≡ k) [
            | inl zero' ↦ absurd (
                let same : Some n ≡ Some server = sym at_node ∙ ap (slice_get nodes) zero' ∙ first in
                let node : n ≡ server = some_node n server same in
                let served : IsServer n.setup.kind = subst (λ (n : Node). IsServer n.setup.kind) (sym node) is_server in
                no-client n.setup.kind served client')
            | inr home ↦ one-life j n at_node n.setup.kind refl client' home host life
          ])
        where
          some_node : (a b : Node) → Some a ≡ Some b → a ≡ b
          some_node a b is = cc

          no-client : (q : Kind) → IsServer q → is_client q ≡ true → ⊥
          no-client (Server service nonces) server is = absurd cc
          no-client (Client a b) server is = server

  -- data of the connection that comes at the server was given by the client
  server-gave : (h : List Noted) (from : Host) (bytes : List ℕ) (m : Message) (payload : List ℕ) (l : Looks)
      → ((j : ℕ) (n : Node) → slice_get nodes j ≡ Some n → Legal n.setup (side j h))
      → Contains (bag nodes h) (record { from = from; to = server.host; bytes = bytes })
      → reading_of bytes ≡ Ok m → m.body ≡ bodies.Chunk payload → outer_row server.setup server.setup.kind l from m
      ≡ None
      → connection_of (named server.setup from m) ≡ y → Gave server.host bytes (side k h)
  server-gave h from bytes m payload l legal contains reads chunk front at =
      let g = giver nodes _ h (contains-in _ (bag nodes h) contains.0 contains.1 contains.2) in
      subst (λ (j : ℕ). Gave server.host bytes (side j h))
      (giver-client h from bytes m payload l g.index g.node g.there g.host
      (legal g.index g.node g.there) g.gave reads chunk front at) g.gave

  -- who gives what is judged at the client is the server
  pub giver-server : (h : List Noted) (from : Host) (bytes : List ℕ) (m : Message) (l : Looks) (j : ℕ) (n : Node)
      → slice_get nodes j ≡ Some n → Legal n.setup (side j h) → Gave client.host bytes (side j h)
      → reading_of bytes ≡ Ok m → outer_row client.setup client.setup.kind l from m ≡ None → j ≡ 0
  giver-server h from bytes m l j n at_node legal gave reads front =
      let fits = if-some (slice_get nodes j) n (λ n. FitsSetup n.setup) at_node (are.fits j) in
      let mine = gave-mine n.setup (side j h) client.host bytes m fits legal gave reads in
      let flag = flagged-client l from m (ap (λ (q : Kind). outer_row client.setup q l from m) (sym kind) ∙ front) in
      let other : is_client n.setup.kind ≡ false = sym mine.flag ∙ flag in
      zero-is (at-home j n at_node) other
    where
      no-server : (q : Kind) → IsClientAt n.host q → is_client q ≡ false → ⊥
      no-server (Server service nonces) at is = at
      no-server (Client a b) at is = absurd cc

      zero-is : (j ≡ 0) ⊎ IsClientAt n.host n.setup.kind → is_client n.setup.kind ≡ false → j ≡ 0
      zero-is (inl is) other = is
      zero-is (inr at) other = absurd (no-server n.setup.kind at other)

  -- what is judged at the client was given by the server
  client-gave : (h : List Noted) (from : Host) (bytes : List ℕ) (m : Message) (l : Looks)
      → ((j : ℕ) (n : Node) → slice_get nodes j ≡ Some n → Legal n.setup (side j h))
      → Contains (bag nodes h) (record { from = from; to = client.host; bytes = bytes })
      → reading_of bytes ≡ Ok m → outer_row client.setup client.setup.kind l from m ≡ None
      → Gave y.host bytes (side 0 h)
  client-gave h from bytes m l legal contains reads front =
      let g = giver nodes _ h (contains-in _ (bag nodes h) contains.0 contains.1 contains.2) in
      let zero' = giver-server h from bytes m l g.index g.node g.there
      (legal g.index g.node g.there) g.gave reads front in
      subst (λ (a : Host). Gave a bytes (side 0 h)) (sym client-address)
      (subst (λ (j : ℕ). Gave client.host bytes (side j h)) zero' g.gave)

  -- what comes on the connection was given
  pub world-came : (h : List Noted) → Carried nodes h → ((j : ℕ) (n : Node) → slice_get nodes j ≡ Some n
      → Legal n.setup (side j h))
      → CameOn (ends_in y k client server) h
  world-came [] carried legal = tt
  world-came (e ∷ h) carried legal =
      let before : (j : ℕ) (n : Node) → slice_get nodes j ≡ Some n → Legal n.setup (side j h) =
      λ j n is. legal-before n.setup (e.node == j) e.event (side j h) (legal j n is) in (
        λ here. at-server e.event
            (if-some (slice_get nodes e.node) server (λ n. IsFrom (bag nodes h) n.host e.event)
            (ap (slice_get nodes) here ∙ first) carried.0) before,
        λ here. at-client e.event
            (if-some (slice_get nodes e.node) client (λ n. IsFrom (bag nodes h) n.host e.event)
            (ap (slice_get nodes) here ∙ there) carried.0) before,
        world-came h carried.1 before,
      )
    where
      at-server : (event : Event) → IsFrom (bag nodes h) server.host event
          → ((j : ℕ) (n : Node) → slice_get nodes j ≡ Some n → Legal n.setup (side j h))
          → DataCame server.setup (at_server (ends_in y k client server) h) y event
          (λ bytes. Gave server.host bytes (side k h))
      at-server (events.Taken from bytes tooks.Kept) carried legal =
          λ m payload reads body front at. server-gave h from bytes m payload
          (at_server (ends_in y k client server) h) legal carried reads body front at
      at-server _ carried legal = tt

      at-client : (event : Event) → IsFrom (bag nodes h) client.host event
          → ((j : ℕ) (n : Node) → slice_get nodes j ≡ Some n → Legal n.setup (side j h))
          → Came client.setup (at_client (ends_in y k client server) h) y event (λ bytes. Gave y.host bytes (side 0 h))
      at-client (events.Taken from bytes tooks.Kept) carried legal =
          λ m payload reads body front at. client-gave h from bytes m
          (at_client (ends_in y k client server) h) legal carried reads front
      at-client (events.Taken from bytes tooks.Stopped) carried legal =
          λ m reads front at. client-gave h from bytes m (at_client
          (ends_in y k client server) h) legal carried reads front
      at-client _ carried legal = tt

  -- a client's connection in a world, where no call of it starts anew
  pub world-fed-by : (h : List Noted) → World nodes h → ((c : CallName) → connection_of c ≡ y
      → StartsOnce server.setup (side 0 h) c)
      → Fed (ends_in y k client server) h
  world-fed-by h w once =
      let legal : (j : ℕ) (n : Node) → slice_get nodes j ≡ Some n → Legal n.setup (side j h) =
      λ j n is. if-some (slice_get nodes j) n (λ n. Legal n.setup (side j h)) is (w.sides.legal j) in
      record {
        apart = not-first;
        client_kind = kind;
        server_kind = is_server;
        client_fits = if-some (slice_get nodes k) client (λ n. FitsSetup n.setup) there (are.fits k);
        server_fits = if-some (slice_get nodes 0) server (λ n. FitsSetup n.setup) first (are.fits 0);
        client_legal = legal k client there;
        server_legal = legal 0 server first;
        came = world-came h w.carried legal;
        once = once;
      }

  pub world-fed : (h : List Noted) → World nodes h → ForgotNone server.setup (side 0 h)
      → Fed (ends_in y k client server) h
  world-fed h w kept =
      world-fed-by h w
      (λ c on. spared-once server.setup (side 0 h) c is_server
      (if-some (slice_get nodes 0) server (λ n. Legal n.setup (side 0 h)) first (w.sides.legal 0))
      (ap (λ (xs : List Connection). list_any (λ z. same_connection z (connection_of c)) xs) kept))

-- where the server forgot nothing, every call of every client has the law
pub world-kept : (nodes : List Node) (h : List Noted) → World nodes h → ServerForgotNone nodes h → LawIn nodes h
world-kept nodes h w kept =
    record {
      once = once-in (slice_get nodes 0) refl;
      connections = λ y k client server there kind first.
          law-on (ends_in y k client server) h
          (world-fed nodes k client server y there kind first w.sides.nodes_are w.apart h w
          (if-some (slice_get nodes 0) server (λ n. ForgotNone n.setup (side 0 h)) first kept));
    }
  where
    once-in : (o : Option Node) → slice_get nodes 0 ≡ o → Once (side 0 h)
    once-in None is = absurd (subst (λ (q : Option Node). IsSomeAnd q
        (λ n. IsServer n.setup.kind)) is w.sides.nodes_are.server)
    once-in (Some n) is =
        once_under_forgery n.setup (side 0 h)
        (and-some (slice_get nodes 0) n (λ n. IsServer n.setup.kind) is w.sides.nodes_are.server)
        (if-some (slice_get nodes 0) n (λ n. Legal n.setup (side 0 h)) is (w.sides.legal 0))
        (if-some (slice_get nodes 0) n (λ n. ForgotNone n.setup (side 0 h)) is kept)
