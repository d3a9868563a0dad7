-- In a world of a server and one client with one call, what the server keeps of the call's request stays, and is what
-- the client said.
use Rattle.std.proofs.Common.{◌≡◌, ◌≢◌, ◌≤◌, ◌==◌, ◌&&◌, ◌++◌, ◌*◌, ◌+◌, ◌<◌, ℕ, suc, zero, Bool, true, false, cond}
use Rattle.std.proofs.Common.{List, [], ◌∷◌}
use Rattle.std.proofs.Common.{Option, Some, None, Ok, refl, ap, sym, subst, ◌∙◌, inl, ⊎_elim, is_some, slice_get, arith}
use Rattle.std.proofs.Common.{IfSome, IsSomeAnd, length, append-nil}
use Rattle.std.specs.List.{list_any}
use Rattle.std.proofs.lemmas.Bool.{eq-eqb, ne_eqb}
use Rattle.rx_model.proofs.NameLaws.{same_number}
use Rattle.rx_model.specs.Body.{Body}
use Rattle.rx_model.specs.Body as bodies
use Rattle.rx_model.specs.Message.{Message, has_flag}
use Rattle.rx_model.specs.Names.{Connection, connection_of, name_of, same_connection}
use Rattle.rx_model.specs.Reading.{reading_of}
use Rattle.rx_model.specs.declared.answers.Took.{Took}
use Rattle.rx_model.specs.declared.answers.Took.TheVariants as tooks
use Rattle.rx_model.specs.declared.event.Event.{Event}
use Rattle.rx_model.specs.declared.event.Event.TheVariants as events
use Rattle.rx_model.specs.declared.event.Noted.{Noted}
use Rattle.rx_model.specs.declared.names.CallName.{CallName}
use Rattle.rx_model.specs.declared.names.Host.{Host}
use Rattle.rx_model.specs.declared.wire.TheConstants.{CLIENT_INITIATED}
use Rattle.rx_rules.specs.After.{enters, looks}
use Rattle.rx_rules.specs.Judging.{Facts, facts_of, is_data, outer_row, own_row, server_row, side_row}
use Rattle.rx_rules.specs.Judging.{opened}
use Rattle.rx_rules.specs.Looks.{CallRecord, ConnLooks, Looks, call_at}
use Rattle.rx_rules.specs.Received.{Packet, Piece, packet_at}
use Rattle.rx_rules.specs.Rules.{AllowedServer, Legal}
use Rattle.rx_rules.specs.Sent.{after_shut, after_write, nothing_sent, piece_at}
use Rattle.rx_rules.specs.Setup.{Setup, Kind, Server, Client, FitsSetup, IsServer, is_client, named}
use Rattle.rx_rules.proofs.EveryLaws.{Every}
use Rattle.rx_law.specs.Promises.{ends_in}
use Rattle.rx_history.specs.Sides.{Node, side}
use Rattle.rx_history.specs.Starts.{StartsOnce}
use Rattle.rx_law.specs.Worlds.{AreApart, AreNodes, Carried, Gave, IsFrom, World, bag}
use Rattle.rx_law.proofs.Asks.{data-is}
use Rattle.rx_history.proofs.Ends.{Ends, OneMore, ends_of}
use Rattle.rx_law.proofs.Fronts.{ArePieces}
use Rattle.rx_history.proofs.Server.{Arrives}
use Rattle.rx_law.specs.Pieces.{IsAt, IsPiece}
use Rattle.rx_law.proofs.Joint.{Fed, Grown, between, client-grown, client-name, legal-before, of_call, server-name}
use Rattle.rx_history.proofs.Laws.OnceLaw.{served}
use Rattle.rx_law.proofs.ServerHistory.{server-serves, served-turn, spared-once}
use Rattle.rx_law.proofs.World.{Giver, client-address, flagged-any, flagged-server, gave-mine, if-some, is_server}
use Rattle.rx_law.proofs.World.{contains-in, giver}
use Rattle.rx_law.proofs.World.{world-fed-by}
use Rattle.rx_plan.proofs.Aborts.AbortCauses.{named_row}
use Rattle.rx_plan.proofs.LaterComes.{gave_there}
use Rattle.rx_rounds.proofs.One.OneConn.{Alone, EntersOnly, alone_after, shape}
use Rattle.rx_rounds.specs.Bounds.{pieces}
use Rattle.rx_rounds.proofs.OtherCalls.{CallsOnly, there_is}
use Rattle.rx_law.proofs.Law.{side-split}
use Rattle.rx_plan.proofs.Soundness.SoundPlan.{and_left}

-- a datagram for which a server enters a connection is data
starts_data : (kind : Kind) (f : Facts) (call : Took) → IsServer kind → f.is_known ≡ false
    → enters (side_row kind f call) ≡ true → f.can_start ≡ true
starts_data (Client host epoch) f call server unknown enter = absurd server
starts_data (Server service nonces) f call server unknown enter = of f.can_start refl
  where
    of : (b : Bool) → f.can_start ≡ b → f.can_start ≡ true
    of true is = is
    of false is =
        absurd (let strange : server_row f call ≡ tooks.Strange = rw (unknown, is) refl in
        let never : enters tooks.Strange ≡ true = ap enters (sym strange) ∙ enter in cc)

module _ (nodes : List Node) (client server : Node) (c : CallName) (there : slice_get nodes 1 ≡ Some client)
    (kind : client.setup.kind ≡ Client c.host c.epoch) (first : slice_get nodes 0 ≡ Some server)
    (only_two : (j : ℕ) → slice_get nodes (suc (suc j)) ≡ None) (are : AreNodes nodes)
    (apart : (i j : ℕ) → i ≢ j → IfSome (slice_get nodes i) (λ n. IfSome (slice_get nodes j)
    (λ o. AreApart n.setup.kind o.setup.kind))) where
  abbrev y : Connection
  y = connection_of c

  abbrev AreLegal : List Noted → Type 0
  AreLegal h = (j : ℕ) (n : Node) → slice_get nodes j ≡ Some n → Legal n.setup (side j h)

  abbrev OnlyIts : List Noted → Type 0
  OnlyIts h = Every (CallsOnly c) (side 1 h)

  serves : IsServer server.setup.kind
  serves = is_server nodes 1 client server y there kind first are apart

  fits_client : FitsSetup client.setup
  fits_client = if-some (slice_get nodes 1) client (λ (o : Node). FitsSetup o.setup) there (are.fits 1)

  fits_server : FitsSetup server.setup
  fits_server = if-some (slice_get nodes 0) server (λ (o : Node). FitsSetup o.setup) first (are.fits 0)

  no_client : (q : Kind) → IsServer q → is_client q ≡ true → ⊥
  no_client (Server service nonces) is_one is = absurd cc
  no_client (Client a b) is_one is = is_one

  some_node : (a b : Node) → Some a ≡ Some b → a ≡ b
  some_node a b is = cc

  -- data that the server looks at is of the call's connection
  data_only : (h : List Noted) (l : Looks) → AreLegal h → OnlyIts h → (from : Host) (bytes : List ℕ) (m : Message)
      (payload : List ℕ) → Giver nodes (record { from = from; to = server.host; bytes = bytes }) h
      → reading_of bytes ≡ Ok m → m.body ≡ bodies.Chunk payload
      → outer_row server.setup server.setup.kind l from m ≡ None
      → connection_of (named server.setup from m) ≡ y
  data_only h l legal only from bytes m payload g reads chunk front = of g.index g.there g.gave
    where
      of : (j : ℕ) → slice_get nodes j ≡ Some g.node → Gave server.host bytes (side j h)
          → connection_of (named server.setup from m) ≡ y
      of zero at gave =
          let mine = gave-mine server.setup (side 0 h) server.host bytes m fits_server
          (legal 0 server first) gave reads in
          let flag : has_flag CLIENT_INITIATED m.flags ≡ true =
          flagged-server nodes 1 client server y there kind first are apart from m server.setup.kind serves
          (flagged-any nodes 1 client server y there kind first are apart l from m server.setup.kind serves front) in
          absurd (no_client server.setup.kind serves (sym mine.flag ∙ flag))
      of (suc zero) at gave =
          let is : client ≡ g.node = some_node client g.node (sym there ∙ at) in
          let home : c.host ≡ client.host = client-address nodes 1 client server y there kind first are apart in
          let host : from ≡ c.host = sym g.host ∙ ap (λ (n : Node). n.host) (sym is) ∙ sym home in
          let its : named client.setup server.host m ≡ c =
          there_is client.setup c.host c.epoch kind c (side 1 h) (named client.setup server.host m)
          (legal 1 client there) only
          (gave_there client.setup c.host c.epoch kind fits_client (side 1 h) server.host bytes m payload
          (legal 1 client there) reads chunk gave) in
          let name : named server.setup from m ≡ c =
          server-name server.setup from m serves ∙ ap (λ (z : Host). name_of z m) host
          ∙ sym (client-name client.setup y server.host m kind) ∙ its in
          ap connection_of name
      of (suc (suc j)) at gave = absurd (let never : None ≡ Some g.node = sym (only_two j) ∙ at in cc)

  -- so a datagram has no other connection entered
  enters_only : (h : List Noted) (e : Event) → AreLegal h → OnlyIts h
      → AllowedServer server.setup (looks server.setup (side 0 h)) e
      → IsFrom (bag nodes h) server.host e → EntersOnly y server.setup (looks server.setup (side 0 h)) e
  enters_only h (events.Taken from bytes got) legal only allowed contains = λ m reads front enter none. (
      let l : Looks = looks server.setup (side 0 h) in
      let d : CallName = named server.setup from m in
      let row : side_row server.setup.kind (facts_of server.setup l d m)
      (own_row server.setup (opened server.setup d l) d m) ≡ got =
      named_row server.setup l from bytes got m allowed.1 reads front in
      let starts = starts_data server.setup.kind (facts_of server.setup l d m)
      (own_row server.setup (opened server.setup d l) d m)
      serves (ap (λ (o : Option ConnLooks). is_some o) none) (ap enters row ∙ enter) in
      let chunk = data-is m.body (and_left (is_data m.body) _ starts) in
      data_only h l legal only from bytes m chunk.0
      (giver nodes (record { from = from; to = server.host; bytes = bytes }) h
      (contains-in (record { from = from; to = server.host; bytes = bytes }) (bag nodes h) contains.0 contains.1
      contains.2))
      reads chunk.1 front)
  enters_only h _ legal only allowed contains = tt

  legal_then : (e : Noted) (h : List Noted) → AreLegal (e ∷ h) → AreLegal h
  legal_then e h legal j n is = legal-before n.setup (e.node == j) e.event (side j h) (legal j n is)

  every_then : (b : Bool) (e : Event) (es : List Event) → Every (CallsOnly c) (cond b (e ∷ es) es)
      → Every (CallsOnly c) es
  every_then true e es all = all.1
  every_then false e es all = all

  alone_all : (h : List Noted) → AreLegal h → Carried nodes h → OnlyIts h
      → Alone y (shape (looks server.setup (side 0 h)))
  alone_all [] legal carried only = (inl refl, refl)
  alone_all (e ∷ h) legal carried only =
      of (e.node == 0) refl (legal 0 server first)
      (alone_all h (legal_then e h legal) carried.1 (every_then (e.node == 1) e.event (side 1 h) only))
    where
      of : (b : Bool) → (e.node == 0) ≡ b → Legal server.setup (cond (e.node == 0) (e.event ∷ side 0 h) (side 0 h))
          → Alone y (shape (looks server.setup (side 0 h)))
          → Alone y (shape (looks server.setup (cond (e.node == 0) (e.event ∷ side 0 h) (side 0 h))))
      of false is own before = rw is before
      of true is own before =
          let l : Looks = looks server.setup (side 0 h) in
          let here : Legal server.setup (e.event ∷ side 0 h) =
          subst (λ (b : Bool). Legal server.setup (cond b (e.event ∷ side 0 h) (side 0 h))) is own in
          let allowed : AllowedServer server.setup l e.event = served server.setup.kind server.setup l e.event serves
          here.0 in
          let from : IsFrom (bag nodes h) server.host e.event =
          if-some (slice_get nodes e.node) server (λ (n : Node). IsFrom (bag nodes h) n.host e.event)
          (ap (slice_get nodes) (same_number e.node 0 is) ∙ first) carried.0 in
          rw is
          (alone_after y server.setup fits_server.limits.some_conns l e.event allowed
          (enters_only h e.event (legal_then e h legal) (every_then (e.node == 1) e.event (side 1 h) only) allowed
          from) before)

  -- no call of the connection starts anew, so both ends agree
  pub fed : (h : List Noted) → World nodes h → OnlyIts h → Fed (ends_in y 1 client server) h
  fed h w only =
      let legal : AreLegal h = λ j n is. if-some (slice_get nodes j) n (λ (o : Node). Legal o.setup (side j h)) is
      (w.sides.legal j) in
      let none = (alone_all h legal w.carried only).1 in
      world-fed-by nodes 1 client server y there kind first are apart h w
      (λ d on. spared-once server.setup (side 0 h) d serves (legal 0 server first)
      (ap (λ (xs : List Connection). list_any (λ z. same_connection z (connection_of d)) xs) none))

  -- ---- what is kept stays

  abbrev own : Setup → List Event → Ends
  own s h = of_call s h c

  -- the first pieces are kept
  abbrev pub HasFirst : ℕ → List Event → Type 0
  HasFirst n h = (j : ℕ) → 1 ≤ j → j ≤ n → is_some (packet_at (own server.setup h).kept j) ≡ true

  one_more : (j : ℕ) (p : Packet) (ps : List Packet) → is_some (packet_at ps j) ≡ true
      → is_some (packet_at (p ∷ ps) j) ≡ true
  one_more j p ps has =
      elim (p.seq == j) as (λ b. is_some (cond b (Some p.piece) (packet_at ps j)) ≡ true) [ true ↦ refl | false ↦ has ]

  has_then : (n : ℕ) (e : Event) (h : List Event) → Legal server.setup (e ∷ h) → StartsOnce server.setup (e ∷ h) c
      → HasFirst n h → HasFirst n (e ∷ h)
  has_then n e h legal once has j low high =
      let old = server-serves server.setup h c serves fits_server legal.1 once.1 in
      let moves = (served-turn server.setup e h c serves fits_server legal once old).moves tt in
      ⊎_elim
      (λ (same : (own server.setup (e ∷ h)).kept ≡ (own server.setup h).kept).
      ap (λ (ps : List Packet). is_some (packet_at ps j)) same ∙ has j low high)
      (λ (one : OneMore (Arrives server.setup (looks server.setup h) e c) (own server.setup h).kept
      (own server.setup (e ∷ h)).kept).
      ap (λ (ps : List Packet). is_some (packet_at ps j)) one.is
      ∙ one_more j one.packet (own server.setup h).kept (has j low high))
      moves.kept

  has_on : (n : ℕ) (more h : List Event) → Legal server.setup (more ++ h) → StartsOnce server.setup (more ++ h) c
      → HasFirst n h → HasFirst n (more ++ h)
  has_on n [] h legal once has = has
  has_on n (e ∷ more) h legal once has =
      has_then n e (more ++ h) legal once (has_on n more h legal.1 once.1 has)

  -- ---- what was said stays

  -- these bytes were said, and that is all
  abbrev pub SaidAll : List ℕ → List Event → Type 0
  SaidAll bytes h = ((own client.setup h).said ≡ bytes) × ((own client.setup h).shut ≡ true)

  said_on : (bytes : List ℕ) (more h : List Event) → Grown client.setup c (more ++ h) → SaidAll bytes h
      → SaidAll bytes (more ++ h)
  said_on bytes [] h grown said = said
  said_on bytes (e ∷ more) h grown said =
      let before : SaidAll bytes (more ++ h) = said_on bytes more h grown.2 said in
      let s = grown.0.stops before.1 in (
        grown.0.joined ∙ ap (λ (xs : List ℕ). (own client.setup (more ++ h)).said ++ xs) s.0
            ∙ append-nil (own client.setup (more ++ h)).said ∙ before.0,
        s.1,
      )

  -- ---- so all of a request that was kept is kept as it was said

  piece_in : (bytes : List ℕ) (shut : Bool) (j : ℕ) (p : Piece) (ps : List Packet) → ArePieces bytes shut ps
      → packet_at ps j ≡ Some p → IsAt bytes shut j p
  piece_in bytes shut j p [] are_ is = absurd cc
  piece_in bytes shut j p (q ∷ ps) are_ is = of (q.seq == j) refl is (λ found. piece_in bytes shut j p ps are_.1 found)
    where
      of : (b : Bool) → (q.seq == j) ≡ b → cond b (Some q.piece) (packet_at ps j) ≡ Some p
          → (packet_at ps j ≡ Some p → IsAt bytes shut j p) → IsAt bytes shut j p
      of true same found more =
          let one : q.piece ≡ p = cc (found) in
          subst (λ (x : Piece). IsAt bytes shut j x) one
          (subst (λ (k : ℕ). IsAt bytes shut k q.piece) (same_number q.seq j same) are_.0)
      of false other found more = more found

  its_piece : (bytes : List ℕ) (j : ℕ) (p : Piece) → IsPiece bytes true j p → j < pieces bytes
      → p ≡ piece_at (after_shut (after_write bytes nothing_sent)) (suc j)
  its_piece bytes j p is below = of p.last refl
    where
      goal : Piece
      goal = piece_at (after_shut (after_write bytes nothing_sent)) (suc j)

      of : (b : Bool) → p.last ≡ b → p ≡ goal
      of true last =
          let short : length bytes ≤ 1412 * j + 1412 = (is.done last).1 in
          let end : (suc j == pieces bytes) ≡ true = eq-eqb (suc j) (pieces bytes) (omega arith) in
          let both : p.last ≡ goal.last = last ∙ sym end in
          λ i. record { payload = is.payload_is i; last = both i }
      of false more =
          let long : 1412 * j + 1412 < length bytes = is.more more in
          let end : (suc j == pieces bytes) ≡ false =
          ne_eqb (suc j) (pieces bytes) (λ (e : suc j ≡ pieces bytes). omega arith) in
          let both : p.last ≡ goal.last = more ∙ sym end in
          λ i. record { payload = is.payload_is i; last = both i }

  pub keeps_all : (bytes : List ℕ) (h told kept : List Noted) (later newer : List Noted) → World nodes h → OnlyIts h
      → h ≡ later ++ told → SaidAll bytes (side 1 told) → h ≡ newer ++ kept
      → HasFirst (pieces bytes) (side 0 kept)
      → (j : ℕ) → 1 ≤ j → j ≤ pieces bytes
      → IsSomeAnd (call_at (looks server.setup (side 0 h)) c)
      (λ r. packet_at r.looks.received.kept j ≡ Some (piece_at (after_shut (after_write bytes nothing_sent)) j))
  keeps_all bytes h told kept later newer w only is_told said is_kept has zero low high = absurd (omega arith)
  keeps_all bytes h told kept later newer w only is_told said is_kept has (suc j) low high =
      let f = fed h w only in
      let b = between (ends_in y 1 client server) h c f refl in
      let grown = client-grown client.setup c.host c.epoch (side 1 h) c kind fits_client f.client_legal in
      let all : SaidAll bytes (side 1 h) =
      subst (SaidAll bytes) (sym (split 1 later told is_told))
      (said_on bytes (side 1 later) (side 1 told) (subst (Grown client.setup c) (split 1 later told is_told) grown)
      said) in
      let there_ : is_some (packet_at (own server.setup (side 0 h)).kept (suc j)) ≡ true =
      subst (λ (es : List Event). is_some (packet_at (own server.setup es).kept (suc j)) ≡ true)
      (sym (split 0 newer kept is_kept))
      (has_on (pieces bytes) (side 0 newer) (side 0 kept)
      (subst (Legal server.setup) (split 0 newer kept is_kept) f.server_legal)
      (subst (λ (es : List Event). StartsOnce server.setup es c) (split 0 newer kept is_kept) (f.once c refl))
      has (suc j) low high) in
      of (call_at (looks server.setup (side 0 h)) c) refl all b.request.pieces there_
    where
      split : (k : ℕ) (later_ now : List Noted) → h ≡ later_ ++ now → side k h ≡ side k later_ ++ side k now
      split k later_ now is = ap (side k) is ∙ side-split k later_ now

      found : (bs : List ℕ) (shut : Bool) (ps : List Packet) → bs ≡ bytes → shut ≡ true → ArePieces bs shut ps
          → (o : Option Piece)
          → packet_at ps (suc j) ≡ o → is_some o ≡ true
          → packet_at ps (suc j) ≡ Some (piece_at (after_shut (after_write bytes nothing_sent)) (suc j))
      found bs shut ps same done pieces None is some = absurd cc
      found bs shut ps same done pieces (Some p) is some =
          let own_ : IsPiece bytes true j p =
          subst (λ (b : Bool). IsPiece bytes b j p) done
          (subst (λ (xs : List ℕ). IsPiece xs shut j p) same (piece_in bs shut (suc j) p ps pieces is)) in
          is ∙ ap (λ (q : Piece). Some q) (its_piece bytes j p own_ (omega arith))

      of : (o : Option CallRecord) → call_at (looks server.setup (side 0 h)) c ≡ o → SaidAll bytes (side 1 h)
          → ArePieces (own client.setup (side 1 h)).said (own client.setup (side 1 h)).shut
          (own server.setup (side 0 h)).kept
          → is_some (packet_at (own server.setup (side 0 h)).kept (suc j)) ≡ true
          → IsSomeAnd o
          (λ r. packet_at r.looks.received.kept (suc j) ≡ Some
          (piece_at (after_shut (after_write bytes nothing_sent)) (suc j)))
      of None is said_ pieces some =
          absurd (let never : is_some (packet_at (ends_of None).kept (suc j)) ≡ true =
          ap (λ (o : Option CallRecord). is_some (packet_at (ends_of o).kept (suc j))) (sym is) ∙ some in cc)
      of (Some r) is said_ pieces some =
          let kept_is : (own server.setup (side 0 h)).kept ≡ r.looks.received.kept = ap
          (λ (o : Option CallRecord). (ends_of o).kept) is in
          found (own client.setup (side 1 h)).said (own client.setup (side 1 h)).shut r.looks.received.kept said_.0
          said_.1
          (subst (λ (ps : List Packet). ArePieces (own client.setup (side 1 h)).said
          (own client.setup (side 1 h)).shut ps) kept_is pieces)
          (packet_at r.looks.received.kept (suc j)) refl
          (ap (λ (ps : List Packet). is_some (packet_at ps (suc j))) (sym kept_is) ∙ some)
