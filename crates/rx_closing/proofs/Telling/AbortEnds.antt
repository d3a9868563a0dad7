-- An ABORT of a client's call that its server gave ends the call in the round in which it was given.
use Rattle.std.proofs.Common.{◌≡◌, ◌++◌, ◌==◌, cond, ℕ, ℤ, suc, Bool, true, false, List, [], ◌∷◌, Option, Some, None}
use Rattle.std.proofs.Common.{arith, option_map, refl, ◌∙◌, ap, sym, subst, inl, inr, is_some, append_assoc}
use Rattle.std.proofs.lemmas.Bool.{ne_eqb}
use Rattle.std.specs.Prelude.{slice_get}
use Rattle.rx_model.specs.declared.answers.End.{End}
use Rattle.rx_model.specs.declared.answers.End.TheVariants as ends
use Rattle.rx_model.specs.declared.answers.Took.{Took}
use Rattle.rx_model.specs.declared.answers.Took.TheVariants as tooks
use Rattle.rx_model.specs.declared.event.Event.{Event}
use Rattle.rx_model.specs.declared.event.Event.TheVariants as events
use Rattle.rx_model.specs.declared.event.Noted.{Noted}
use Rattle.rx_model.specs.declared.names.CallName.{CallName}
use Rattle.rx_model.specs.declared.names.Host.{Host}
use Rattle.rx_model.specs.declared.wire.TheConstants.{CLIENT_INITIATED}
use Rattle.rx_model.specs.Body.{Body}
use Rattle.rx_model.specs.Body as bodies
use Rattle.rx_model.specs.Message.{Message, has_flag}
use Rattle.rx_model.specs.Names.{connection_of, name_of, same_host}
use Rattle.rx_model.proofs.NameLaws.{host_itself, name_itself}
use Rattle.rx_rules.specs.After.{after, looks, prepared, stopped_all, taken_stopped, taken_with}
use Rattle.rx_rules.specs.Classes.{Class}
use Rattle.rx_rules.specs.Judging.{is_for_clients, is_peer, outer_row, took_of}
use Rattle.rx_rules.specs.Life.{Life, after_code, is_active, is_live}
use Rattle.rx_rules.specs.Life as lives
use Rattle.rx_rules.specs.Looks.{CallRecord, Looks, call_at, conn_at, on_life}
use Rattle.rx_rules.specs.Rules.{Legal}
use Rattle.rx_rules.specs.Setup.{Client, FitsSetup, Kind, Setup, client_host, is_client, named}
use Rattle.rx_rules.proofs.EveryLaws.{Every}
use Rattle.rx_history.proofs.Calls.{call-changed}
use Rattle.rx_history.proofs.ClientHistory.{client-calls}
use Rattle.rx_history.proofs.Events.{call-by, calls-prepared}
use Rattle.rx_history.specs.Sides.{Node, side}
use Rattle.rx_history.specs.Streams.{end_by, end_of_life}
use Rattle.rx_law.specs.Promises.{ends_in}
use Rattle.rx_law.specs.Worlds.{Datagram}
use Rattle.rx_law.proofs.Joint.{Fed, fed-at}
use Rattle.rx_plan.specs.Network.{delivers}
use Rattle.rx_plan.specs.Parts.{each}
use Rattle.rx_plan.specs.Stages.{Stage}
use Rattle.rx_between.specs.Agreed.{HasEnded}
use Rattle.rx_between.proofs.Each.EachStep.{Starts}
use Rattle.rx_between.proofs.Onward.{client_anew, no-opening}
use Rattle.rx_between.proofs.ReadOut.{AreClients, clients_step, ended_stays}
use Rattle.rx_between.proofs.Followed.{some_stays}
use Rattle.rx_between.proofs.Each.EachItem.{In}
use Rattle.rx_rounds.proofs.Rounded.{Made}
use Rattle.rx_closing.proofs.Conns.PeersTo.{IsTo, peer_of, peers_after}
use Rattle.rx_closing.proofs.Messages.Arrives.{Meet}
use Rattle.rx_closing.proofs.Messages.Delivered.{DeliveredBy, TookAt, delivers_first, delivers_grow, takes_from}
use Rattle.rx_closing.proofs.Messages.Judged.{judged_by, taken_by}
use Rattle.rx_closing.proofs.Messages.Lasts.{live_last}
use Rattle.rx_closing.proofs.Messages.Rows.{IsLast, abort_took, client_front_by, known_by}
use Rattle.rx_closing.proofs.Telling.AbortGiven.{Found}
use Rattle.rx_closing.proofs.Telling.AbortOwed.{AbortOf}
use Rattle.rx_law.proofs.Law.{side-split}

-- ---- a client's calls

module _ (s : Setup) (host : Host) (epoch : ℕ) (kind : s.kind ≡ Client host epoch) (fits : FitsSetup s)
    (c : CallName) where
  -- each has a client's life
  pub clients_are : (h : List Event) → Legal s h → AreClients (call_at (looks s h) c)
  clients_are [] legal = tt
  clients_are (e ∷ h) legal = clients_step s h e c fits legal calling (clients_are h legal.1)
    where
      calling : (b : CallRecord) → Starts s (looks s h) e c b → b.life ≡ lives.Calling
      calling b (name, inl opens) = absurd (no-opening s host epoch e h c b kind legal opens)
      calling b (name, inr made) = made.life

  -- one that ended stays so
  pub ended_on : (later h : List Event) → Legal s (later ++ h) → HasEnded (call_at (looks s h) c)
      → HasEnded (call_at (looks s (later ++ h)) c)
  ended_on [] h legal ended = ended
  ended_on (e ∷ later) h legal ended =
      ended_stays s (later ++ h) e c fits legal
      (client_anew s host epoch e (later ++ h) c kind fits legal
      (client-calls s host epoch (later ++ h) kind fits legal.1))
      (ended_on later h legal.1 ended)

-- ---- an ABORT comes

-- behind a message that stops its call
pub stops_there : (s : Setup) (l : Looks) (c : CallName) (k : CallRecord) (m : Message) (code : ℤ) → IsLast l c k
    → (c.number == 0) ≡ false → m.body ≡ bodies.Abort code
    → call_at (taken_with s tooks.Stopped c m (prepared s tooks.Stopped (connection_of c) l)) c
    ≡ Some (record k { life = after_code code k.life })
stops_there s l c k m code last some at =
    ap (λ (b : Body). call_at (taken_stopped c b r) c) at
    ∙ ap (λ (b : Bool). call_at (cond b (stopped_all (connection_of c) code r)
    (on_life c (after_code code) r)) c) some
    ∙ call-changed c c change r (λ j. refl)
    ∙ ap (λ (b : Bool). cond b (option_map change (call_at r c)) (call_at r c)) (name_itself c)
    ∙ ap (λ (o : Option CallRecord). option_map change o)
    (call-by c l r (calls-prepared s tooks.Stopped (connection_of c) l) ∙ last.there)
  where
    r : Looks
    r = prepared s tooks.Stopped (connection_of c) l

    change : CallRecord → CallRecord
    change j = record j { life = after_code code j.life }

-- ---- the client

module _ (c : CallName) (k : ℕ) (client server : Node) (service nonces : ℕ) (h : List Noted)
    (meet : Meet c k client server service nonces h) where
  abbrev at_stage : Stage → Looks
  at_stage u = looks client.setup (side (suc k) u.history)

  classes : client.setup.class ≡ server.setup.class
  classes = meet.client_open ∙ sym meet.server_open

  -- it takes an ABORT of its call, which had not ended
  stops_one : (d : Datagram) (u v : Stage) → AbortOf server.setup c d → d.from ≡ server.host
      → TookAt (suc k) client d u.history v.history → Every (IsTo server.host) (at_stage u).conns → (r : CallRecord)
      → IsLast (at_stage u) c r → r.life ≡ lives.Calling → HasEnded (call_at (at_stage v) c)
  stops_one d u v a from took peers r last calling =
      let l : Looks = at_stage u in
      let m : Message = a.message in
      let host : d.to ≡ c.host =
      ap (λ (q : Kind). client_host q d.to) (sym meet.server_is) ∙ ap (λ (n : CallName). n.host) a.name in
      let own : name_of c.host m ≡ c =
      ap (λ (t : Host). name_of t m) (sym host) ∙ ap (λ (q : Kind). name_of (client_host q d.to) m) (sym meet.server_is)
      ∙ a.name in
      let name : named client.setup d.from m ≡ c =
      ap (λ (q : Kind). name_of (client_host q d.from) m) meet.client_is ∙ own in
      let flag : has_flag CLIENT_INITIATED m.flags ≡ false = a.flag ∙ ap is_client meet.server_is in
      let peer : is_peer d.from (conn_at l (connection_of c)) ≡ true =
      ap (λ (t : Host). is_peer t (conn_at l (connection_of c))) from
      ∙ peer_of l (connection_of c) server.host peers (known_by l c last.number last.some) in
      let front : outer_row client.setup client.setup.kind l d.from m ≡ None =
      client_front_by client.setup c.host c.epoch l d.from m c meet.client_is flag
      (ap (is_for_clients client.setup.class.challenges) a.body) name peer
      (a.index ∙ sym (ap (λ (q : Class). q.index) classes)) in
      let number : m.number ≡ c.number = ap (λ (n : CallName). n.number) own in
      let active : is_active r.life ≡ true = ap is_active calling in
      let answer : took_of client.setup l d.from d.bytes ≡ tooks.Stopped =
      judged_by client.setup l c d.from d.bytes m a.reads front name
      ∙ abort_took client.setup l c r m a.code last active number a.body in
      let none : (c.number == 0) ≡ false =
      ne_eqb c.number 0 (λ (is : c.number ≡ 0). (let some = last.some in omega arith)) in
      let there : call_at (at_stage v) c ≡ Some (record r { life = after_code a.code r.life }) =
      ap (λ (q : Looks). call_at q c)
      (ap (looks client.setup) took.own
      ∙ ap (λ (g : Took). after client.setup (events.Taken d.from d.bytes g) l) answer
      ∙ taken_by client.setup l c d.from d.bytes m tooks.Stopped a.reads front name)
      ∙ stops_there client.setup l c r m a.code last none a.body in
      record {
        end = ends.Abort a.code;
        at =
            ap end_by there
            ∙ ap (λ (x : Life). end_of_life (after_code a.code x)) calling;
      }

  -- what is known of the client's call and its connections before deliveries
  record IsAsking (u : Stage) : Type 0 where
    there : slice_get u.nodes (suc k) ≡ Some client
    peers : Every (IsTo server.host) (at_stage u).conns
    known : is_some (call_at (at_stage u) c) ≡ true
    later : List Noted
    grown : h ≡ later ++ u.history

  fed_at : (u : Stage) (later : List Noted) → h ≡ later ++ u.history
      → Fed (ends_in (connection_of c) (suc k) client server) u.history
  fed_at u later grown =
      fed-at (ends_in (connection_of c) (suc k) client server) later u.history
      (subst (Fed (ends_in (connection_of c) (suc k) client server)) grown meet.fed)

  -- by one of them
  asks_on : (d : Datagram) (u v : Stage) → DeliveredBy d u v → (later : List Noted)
      → h ≡ later ++ v.history → IsAsking u
      → IsAsking v
  asks_on d u v one later grown a = by (same_host d.to client.host) refl
    where
      n : slice_get v.nodes (suc k) ≡ Some client
      n = ap (λ (w : Stage). slice_get w.nodes (suc k)) one.rest ∙ a.there

      by : (b : Bool) → same_host d.to client.host ≡ b → IsAsking v
      by true is =
          (let took = (one.comes (suc k) client a.there).takes is in
          let f = fed_at v later grown in
          let legal : Legal client.setup
          (takes_from client.setup d (at_stage u) ∷ side (suc k) u.history) = subst (Legal client.setup) took.own
          f.client_legal in
          record {
            there = n;
            peers =
                subst (λ (es : List Event). Every (IsTo server.host) (looks client.setup es).conns) (sym took.own)
                (peers_after client.setup c.host c.epoch meet.client_is server.host (at_stage u)
                (takes_from client.setup d (at_stage u)) tt a.peers);
            known =
                subst (λ (es : List Event). is_some (call_at (looks client.setup es) c) ≡ true) (sym took.own)
                (some_stays client.setup (side (suc k) u.history) (takes_from client.setup d (at_stage u)) c
                f.client_fits legal a.known);
            later = later;
            grown = grown;
          })
      by false is =
          (let same = (one.comes (suc k) client a.there).passes is in
          record {
            there = n;
            peers =
                subst (λ (es : List Event). Every (IsTo server.host) (looks client.setup es).conns) (sym same) a.peers;
            known = subst (λ (es : List Event). is_some (call_at (looks client.setup es) c) ≡ true) (sym same) a.known;
            later = later;
            grown = grown;
          })

  -- by the ABORT
  ends_at : (d : Datagram) (u v : Stage) → AbortOf server.setup c d → d.from ≡ server.host → DeliveredBy d u v
      → (later : List Noted) → h ≡ later ++ v.history → IsAsking u → HasEnded (call_at (at_stage v) c)
  ends_at d u v a from one later grown asking =
      of (call_at (at_stage u) c) refl asking.known (clients_are client.setup c.host c.epoch meet.client_is
      before.client_fits c (side (suc k) u.history) before.client_legal)
    where
      before : Fed (ends_in (connection_of c) (suc k) client server) u.history
      before = fed_at u asking.later asking.grown

      f : Fed (ends_in (connection_of c) (suc k) client server) v.history
      f = fed_at v later grown

      for_it : same_host d.to client.host ≡ true
      for_it =
          (let host : d.to ≡ client.host =
          ap (λ (q : Kind). client_host q d.to) (sym meet.server_is) ∙ ap (λ (m : CallName). m.host) a.name
          ∙ sym meet.home
          in
          ap (λ (t : Host). same_host t client.host) host ∙ host_itself client.host)

      took : TookAt (suc k) client d u.history v.history
      took = (one.comes (suc k) client asking.there).takes for_it

      legal : Legal client.setup (takes_from client.setup d (at_stage u) ∷ side (suc k) u.history)
      legal = subst (Legal client.setup) took.own f.client_legal

      -- it had ended
      over : (end : End) → end_by (call_at (at_stage u) c) ≡ Some end → HasEnded (call_at (at_stage v) c)
      over end is =
          subst (λ (es : List Event). HasEnded (call_at (looks client.setup es) c)) (sym took.own)
          (ended_on client.setup c.host c.epoch meet.client_is f.client_fits c
          (takes_from client.setup d (at_stage u) ∷ []) (side (suc k) u.history) legal
          (record { end = end; at = is }))

      -- it lives
      lives_ : (r : CallRecord) → call_at (at_stage u) c ≡ Some r → r.life ≡ lives.Calling
          → HasEnded (call_at (at_stage v) c)
      lives_ r there calling =
          stops_one d u v a from took asking.peers r
          (live_last client.setup (side (suc k) u.history) c r before.client_fits before.client_legal there
          (ap is_live calling)) calling

      by : (r : CallRecord) (x : Life) → r.life ≡ x → call_at (at_stage u) c ≡ Some r
          → AreClients (Some (record r { life = x }))
          → HasEnded (call_at (at_stage v) c)
      by r lives.Calling is there are = lives_ r there is
      by r (lives.Ended end) is there are = over end (ap end_by there ∙ ap end_of_life is)
      by r _ is there are = absurd are

      of : (o : Option CallRecord) → call_at (at_stage u) c ≡ o → is_some o ≡ true → AreClients (call_at (at_stage u) c)
          → HasEnded (call_at (at_stage v) c)
      of None there known are = absurd cc
      of (Some r) there known are = by r r.life refl there (subst AreClients there are)

  -- in the round in which its server gave an ABORT of it the call ends, whatever else comes
  ends_along : (d : Datagram) → AbortOf server.setup c d → d.from ≡ server.host → (ds : List Datagram) → In d ds
      → (s t : Stage) → Made (each delivers ds) s t → (later : List Noted) → h ≡ later ++ t.history → IsAsking s
      → HasEnded (call_at (at_stage t) c)
  ends_along d a from [] none s t made later grown asking = absurd none
  ends_along d a from (e ∷ ds) in_ s t made later grown asking =
      (let f = delivers_first e ds s t made in
      let g = delivers_grow ds f.between t f.others in
      let grown_b : h ≡ (later ++ g.more) ++ f.between.history =
      grown ∙ ap (λ (es : List Noted). later ++ es) g.is ∙ sym (append_assoc later g.more f.between.history) in
      by f.between in_ f.first (later ++ g.more) grown_b g.more g.is
      (λ low next. ends_along d a from ds low f.between t f.others later grown next))
    where
      by : (u : Stage) → In d (e ∷ ds) → DeliveredBy e s u → (before : List Noted) → h ≡ before ++ u.history
          → (rest : List Noted) → t.history ≡ rest ++ u.history
          → (In d ds → IsAsking u → HasEnded (call_at (at_stage t) c)) → HasEnded (call_at (at_stage t) c)
      by u (inr low) one before grown_u rest rest_is onward = onward low (asks_on e s u one before grown_u asking)
      by u (inl same) one before grown_u rest rest_is onward =
          let ended : HasEnded (call_at (at_stage u) c) =
          ends_at d s u a from (subst (λ (x : Datagram). DeliveredBy x s u) (sym same) one) before grown_u asking in
          let own : side (suc k) t.history ≡ side (suc k) rest ++ side (suc k) u.history =
          ap (side (suc k)) rest_is ∙ side-split (suc k) rest u.history in
          let f = fed_at t later grown in
          subst (λ (es : List Event). HasEnded (call_at (looks client.setup es) c)) (sym own)
          (ended_on client.setup c.host c.epoch meet.client_is f.client_fits c (side (suc k) rest)
          (side (suc k) u.history) (subst (Legal client.setup) own f.client_legal) ended)

  pub aborts_end : (ds : List Datagram) (s t : Stage) → slice_get s.nodes (suc k) ≡ Some client
      → Made (each delivers ds) s t → (later : List Noted) → h ≡ later ++ t.history
      → Found server c meet.fed.server_fits ds → Every (IsTo server.host) (at_stage s).conns
      → is_some (call_at (at_stage s) c) ≡ true → HasEnded (call_at (at_stage t) c)
  aborts_end ds s t there made later grown found peers known =
      let g = delivers_grow ds s t made in
      ends_along found.0 found.2 found.3 ds found.1 s t made later grown
      (record {
        there = there;
        peers = peers;
        known = known;
        later = later ++ g.more;
        grown =
            grown ∙ ap (λ (es : List Noted). later ++ es) g.is ∙ sym (append_assoc later g.more s.history);
      })
