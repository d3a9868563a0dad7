-- A RESPONSE that stopped its call is one of a client with another key.
use Rattle.std.proofs.Common.{Contains, IfSome, List, None, Ok, Option, Some, [], ap, false, inl, inr, refl}
use Rattle.std.proofs.Common.{slice_get, subst, sym, true, ℕ, ℤ, ◌++◌, ◌==◌, ◌∙◌, ◌∷◌, ◌≡◌, ◌≢◌, ◌⊎◌, append_assoc}
use Rattle.rx_model.specs.declared.answers.Took.{Took}
use Rattle.rx_model.specs.declared.event.Event.{Event}
use Rattle.rx_model.specs.declared.event.Event.TheVariants as events
use Rattle.rx_model.specs.declared.event.Noted.{Noted}
use Rattle.rx_model.specs.declared.names.CallName.{CallName}
use Rattle.rx_model.specs.declared.names.Host.{Host}
use Rattle.rx_model.specs.Body as bodies
use Rattle.rx_model.specs.Message.{Message}
use Rattle.rx_model.specs.Names.{Connection, channel_of, connection_of, name_of}
use Rattle.rx_model.specs.Reading.{reading_of}
use Rattle.rx_rules.specs.After.{looks}
use Rattle.rx_rules.specs.Classes.{Class, token}
use Rattle.rx_rules.specs.Judging.{nonce_at, outer_row, took_of}
use Rattle.rx_rules.specs.Looks.{Looks, conn_at}
use Rattle.rx_rules.specs.Rules.{Legal}
use Rattle.rx_rules.specs.Setup.{Client, FitsSetup, IsServer, Kind, Server, is_client, named, nonce_of}
use Rattle.rx_rules.proofs.ConnsLaws.{channel_number, number_of}
use Rattle.rx_history.specs.Sides.{IsClientAt, Node, side}
use Rattle.rx_history.specs.Starts.{StartsOnce}
use Rattle.rx_law.specs.Worlds.{AreApart, AreNodes, Carried, Gave, IsFrom, bag}
use Rattle.rx_history.proofs.Data.{OwnName}
use Rattle.rx_law.proofs.Joint.{client-name, legal-before, server-name}
use Rattle.rx_history.proofs.Order.OrderlyHistory.{orderly_history}
use Rattle.rx_law.proofs.World.{Giver, at-home, client-address, flagged-any, flagged-server, gave-mine, giver-server}
use Rattle.rx_law.proofs.World.{contains-in, giver}
use Rattle.rx_law.proofs.World.{if-some}
use Rattle.rx_token.specs.TokenLaws.{token_is_lawful}
use Rattle.rx_wire.specs.Turns.{noted}
use Rattle.rx_plan.specs.Causes.{HaveOtherKeys}
use Rattle.rx_plan.specs.Follows.{class_of}
use Rattle.rx_plan.proofs.Aborts.AbortCauses.{WrongBy, named_row}
use Rattle.rx_plan.proofs.Aborts.AbortComes.{one_client}
use Rattle.rx_plan.proofs.Givings.AnswersGiven.{HasAnswered, answers_given}
use Rattle.rx_plan.proofs.Givings.ChallengesGiven.{IsAsked, challenges_given}
use Rattle.rx_plan.proofs.JointMoments.{JointAt, joint_at, legal_cut}
use Rattle.rx_plan.proofs.OrdersStay.{Stands, nonce_here, orders_at, orders_later}
use Rattle.rx_plan.proofs.RowsAsked.{IsWrong, front_challenges, response_wrong}
use Rattle.rx_history.proofs.Laws.EnteredLaw.{legal-before as legal_parts}
use Rattle.rx_law.proofs.Law.{side-split}
use Rattle.rx_plan.proofs.Bags.{carried_before}

-- ---- keys

-- where a node challenges and another answers, both have a key, and the keys differ where an answer is called wrong
other_keys : (own other : Option (List ℕ)) (c : CallName) (nonce : ℕ) (asked text : List ℕ)
    → (class_of other).challenges ≡ true → asked ≡ (class_of other).challenge c nonce
    → (class_of own).respond c asked ≡ Some text → (class_of other).check c nonce text ≡ false
    → HaveOtherKeys own other
other_keys own None c nonce asked text challenges asks answers wrong = absurd cc
other_keys None (Some b) c nonce asked text challenges asks answers wrong = absurd cc
other_keys (Some a) (Some b) c nonce asked text challenges asks answers wrong = λ same.
    (let answered : (token b).respond c ((token b).challenge c nonce) ≡ Some text =
    subst (λ (q : List ℕ). (token b).respond c q ≡ Some text) asks
    (subst (λ (key : List ℕ). (token key).respond c asked ≡ Some text) same answers) in
    let right : (token b).check c nonce text ≡ true = token_is_lawful b refl c nonce text answered in
    let never : true ≡ false = sym right ∙ wrong in
    cc)

-- ---- a client's connection in a world

module _ (nodes : List Node) (k : ℕ) (client server : Node) (y : Connection) (there : slice_get nodes k ≡ Some client)
    (kind : client.setup.kind ≡ Client y.host y.epoch) (first : slice_get nodes 0 ≡ Some server) (are : AreNodes nodes)
    (apart : (i j : ℕ) → i ≢ j → IfSome (slice_get nodes i) (λ n. IfSome (slice_get nodes j)
    (λ o. AreApart n.setup.kind o.setup.kind))) where
  client_fits : FitsSetup client.setup
  client_fits = if-some (slice_get nodes k) client (λ o. FitsSetup o.setup) there (are.fits k)

  server_fits : FitsSetup server.setup
  server_fits = if-some (slice_get nodes 0) server (λ o. FitsSetup o.setup) first (are.fits 0)

  no_client : (q : Kind) → IsServer q → is_client q ≡ true → ⊥
  no_client (Server service nonces) serves is = absurd cc
  no_client (Client x z) serves is = serves

  -- whoever gave a client's message of the connection is this client
  pub giver_is : (h : List Noted) (from : Host) (bytes : List ℕ) (m : Message) → IsServer server.setup.kind
      → (g : Giver nodes (record { from = from; to = server.host; bytes = bytes }) h)
      → is_client g.node.setup.kind ≡ true → from ≡ y.host → m.epoch ≡ y.epoch
      → OwnName g.node.setup.kind (named g.node.setup server.host m) → Gave server.host bytes (side k h)
  giver_is h from bytes m serves g clients host epoch own =
      subst (λ (j : ℕ). Gave server.host bytes (side j h))
      (by (at-home nodes k client server y there kind first are apart g.index g.node g.there)) g.gave
    where
      of : (q : Kind) → g.node.setup.kind ≡ q → is_client q ≡ true → IsClientAt g.node.host q
          → OwnName q (named g.node.setup server.host m) → g.index ≡ k
      of (Server service nonces) is clients home own = absurd cc
      of (Client a b) is clients home own =
          one_client nodes k client server y there kind first are apart g.index g.node a b g.there is
          (home ∙ g.host ∙ host) (sym own.1 ∙ epoch)

      by : (g.index ≡ 0) ⊎ IsClientAt g.node.host g.node.setup.kind → g.index ≡ k
      by (inl zero') =
          absurd (let same : Some g.node ≡ Some server = sym g.there ∙ ap (slice_get nodes) zero' ∙ first in
          let one : g.node ≡ server = cc in
          no_client g.node.setup.kind (subst (λ (n : Node). IsServer n.setup.kind) (sym one) serves) clients)
      by (inr home) = of g.node.setup.kind refl clients home own

  module _ (h : List Noted) (serves : IsServer server.setup.kind)
      (legal : (j : ℕ) (n : Node) → slice_get nodes j ≡ Some n → Legal n.setup (side j h))
      (carried : Carried nodes h) where
    -- a RESPONSE of the connection that the server takes was given by the client
    response_gave : (from : Host) (bytes : List ℕ) (m : Message) (text : List ℕ) → reading_of bytes ≡ Ok m
        → m.body ≡ bodies.Response text
        → outer_row server.setup server.setup.kind (looks server.setup (side 0 h)) from m ≡ None → from ≡ y.host
        → m.epoch ≡ y.epoch → Contains (bag nodes h) (record { from = from; to = server.host; bytes = bytes })
        → Gave server.host bytes (side k h)
    response_gave from bytes m text reads at front host epoch contains =
        let g : Giver nodes (record { from = from; to = server.host; bytes = bytes }) h =
        giver nodes (record { from = from; to = server.host; bytes = bytes }) h
        (contains-in (record { from = from; to = server.host; bytes = bytes }) (bag nodes h) contains.0 contains.1
        contains.2) in
        let fits : FitsSetup g.node.setup =
        if-some (slice_get nodes g.index) g.node (λ o. FitsSetup o.setup) g.there (are.fits g.index) in
        let its : Legal g.node.setup (side g.index h) = legal g.index g.node g.there in
        giver_is h from bytes m serves g
        (sym (gave-mine g.node.setup (side g.index h) server.host bytes m fits its g.gave reads).flag
        ∙ flagged-server nodes k client server y there kind first are apart from m server.setup.kind serves
        (flagged-any nodes k client server y there kind first are apart (looks server.setup (side 0 h)) from m
        server.setup.kind serves front))
        host epoch (answers_given g.node.setup (side g.index h) server.host bytes m text fits its reads at g.gave).own

    -- a CHALLENGE that the client took was given by the server, of the same call
    challenge_gave : (c : CallName) (text : List ℕ) (a : HasAnswered client.setup (side k h) c text)
        → (j : JointAt k h (events.Taken a.from a.bytes a.got) a.before)
        → IsAsked server.setup (side 0 j.past) c a.asked
    challenge_gave c text a j =
        subst (λ (d : CallName). IsAsked server.setup (side 0 j.past) d a.asked) name
        (challenges_given server.setup (side 0 j.past) client.host a.bytes a.message a.asked server_fits
        (legal_then 0 server first) a.reads a.body
        (subst (λ (i : ℕ). Gave client.host a.bytes (side i j.past))
        (giver-server nodes k client server y there kind first are apart j.past a.from a.bytes a.message
        (looks client.setup a.before) g.index g.node g.there (legal_then g.index g.node g.there) g.gave a.reads a.front)
        g.gave))
      where
        now : Noted
        now = noted k (events.Taken a.from a.bytes a.got)

        contains : IsFrom (bag nodes j.past) client.host (events.Taken a.from a.bytes a.got)
        contains =
            if-some (slice_get nodes k) client
            (λ n. IsFrom (bag nodes j.past) n.host (events.Taken a.from a.bytes a.got)) there
            (carried_before nodes j.later (now ∷ j.past) (subst (Carried nodes) j.is carried)).0

        legal_then : (i : ℕ) (n : Node) → slice_get nodes i ≡ Some n → Legal n.setup (side i j.past)
        legal_then i n at =
            legal-before n.setup (k == i) (events.Taken a.from a.bytes a.got) (side i j.past)
            (legal_cut n.setup i j.later (now ∷ j.past)
            (subst (λ (es : List Noted). Legal n.setup (side i es)) j.is (legal i n at)))

        g : Giver nodes (record { from = a.from; to = client.host; bytes = a.bytes }) j.past
        g =
            giver nodes (record { from = a.from; to = client.host; bytes = a.bytes }) j.past
            (contains-in (record { from = a.from; to = client.host; bytes = a.bytes }) (bag nodes j.past) contains.0
            contains.1 contains.2)

        name : named server.setup client.host a.message ≡ c
        name =
            server-name server.setup client.host a.message serves
            ∙ ap (λ (z : Host). name_of z a.message)
            (sym (client-address nodes k client server y there kind first are apart))
            ∙ sym (client-name client.setup y a.from a.message kind) ∙ a.name

    -- since then the nonce of the connection is the one that it was asked with
    nonce_stays : (c : CallName) (asked : List ℕ) (past later : List Noted) → h ≡ later ++ past
        → StartsOnce server.setup (side 0 h) c → (c.number == 0) ≡ false
        → number_of (conn_at (looks server.setup (side 0 h)) (connection_of c)) c.chan ≡ c.number
        → (q : IsAsked server.setup (side 0 past) c asked)
        → nonce_at server.setup (conn_at (looks server.setup (side 0 h)) (connection_of c))
        ≡ nonce_of server.setup.kind q.conn.order
    nonce_stays c asked past later cut once some number q =
        nonce_here server.setup c q.conn.order some (looks server.setup (side 0 h))
        (subst (λ (es : List Event). Stands server.setup c q.conn.order some (looks server.setup es)) (sym whole)
        (orders_later server.setup c q.conn.order some more q.before serves
        (subst (Legal server.setup) whole (legal 0 server first))
        (subst (λ (es : List Event). StartsOnce server.setup es c) whole once)
        (record {
          there = q.there;
          orders = orders_at server.setup c q.conn.order some (looks server.setup q.before).conns q.conn
              (orderly_history server.setup q.before
              (legal_parts server.setup more q.before
              (subst (Legal server.setup) whole (legal 0 server first)))).conns.differ q.at refl;
        }))).orders number
      where
        more : List Event
        more = side 0 later ++ (q.later ++ events.Polled q.got ∷ [])

        whole : side 0 h ≡ more ++ q.before
        whole =
            ap (side 0) cut ∙ side-split 0 later past ∙ ap (λ (es : List Event). side 0 later ++ es) q.is
            ∙ ap (λ (es : List Event). side 0 later ++ es)
            (sym (append_assoc q.later (events.Polled q.got ∷ []) q.before))
            ∙ sym (append_assoc (side 0 later) (q.later ++ events.Polled q.got ∷ []) q.before)

    -- a RESPONSE that isn't right is of another key
    pub keys_differ : (own other : Option (List ℕ)) → client.setup.class ≡ class_of own
        → server.setup.class ≡ class_of other → (from : Host) (bytes : List ℕ) (got : Took) (c : CallName) (code : ℤ)
        → connection_of c ≡ y → StartsOnce server.setup (side 0 h) c
        → got ≡ took_of server.setup (looks server.setup (side 0 h)) from bytes
        → Contains (bag nodes h) (record { from = from; to = server.host; bytes = bytes })
        → WrongBy server.setup (looks server.setup (side 0 h)) from bytes got c code → HaveOtherKeys own other
    keys_differ own other own_class other_class from bytes got c code on once is contains w =
        other_keys own other c (nonce_of server.setup.kind q.conn.order) a.asked w.text
        (ap (λ (x : Class). x.challenges) (sym other_class)
        ∙ front_challenges server.setup server.setup.kind l from w.message w.text serves w.body w.front)
        (q.asks ∙ ap (λ (x : Class). x.challenge c (nonce_of server.setup.kind q.conn.order)) other_class)
        (ap (λ (x : Class). x.respond c a.asked) (sym own_class) ∙ a.answers)
        (ap (λ (x : Class). x.check c (nonce_of server.setup.kind q.conn.order) w.text) (sym other_class)
        ∙ ap (λ (n : ℕ). server.setup.class.check c n w.text)
        (sym (nonce_stays c a.asked j.past (j.later ++ now ∷ []) (j.is ∙ sym (append_assoc j.later (now ∷ []) j.past))
        once wrong.some (sym (channel_number l (channel_of c)) ∙ wrong.number) q)) ∙ wrong.wrong)
      where
        l : Looks
        l = looks server.setup (side 0 h)

        wrong : IsWrong server.setup l c w.text
        wrong =
            subst (λ (d : CallName). IsWrong server.setup l d w.text) w.name
            (response_wrong server.setup l (named server.setup from w.message) w.message w.text serves refl w.body
            (named_row server.setup l from bytes got w.message is w.reads w.front ∙ w.stopped))

        its : name_of from w.message ≡ c
        its = sym (server-name server.setup from w.message serves) ∙ w.name

        host : from ≡ y.host
        host = ap (λ (d : CallName). d.host) its ∙ ap (λ (z : Connection). z.host) on

        epoch : w.message.epoch ≡ y.epoch
        epoch = ap (λ (d : CallName). d.epoch) its ∙ ap (λ (z : Connection). z.epoch) on

        a : HasAnswered client.setup (side k h) c w.text
        a =
            subst (λ (d : CallName). HasAnswered client.setup (side k h) d w.text)
            (client-name client.setup y server.host w.message kind
            ∙ ap (λ (z : Host). name_of z w.message) (sym host) ∙ its)
            (answers_given client.setup (side k h) server.host bytes w.message w.text client_fits
            (legal k client there) w.reads w.body
            (response_gave from bytes w.message w.text w.reads w.body w.front host epoch contains)).has

        now : Noted
        now = noted k (events.Taken a.from a.bytes a.got)

        j : JointAt k h (events.Taken a.from a.bytes a.got) a.before
        j = joint_at k h a.later (events.Taken a.from a.bytes a.got) a.before a.is

        q : IsAsked server.setup (side 0 j.past) c a.asked
        q = challenge_gave c w.text a j
