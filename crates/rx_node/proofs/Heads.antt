-- The headers and the names that a node reads from its table.
use Rattle.std.proofs.Common.{◌≡◌, ◌+◌, ◌/◌, ◌%◌, ℕ, List, length, take, drop, get_or, Option, Some, None, refl, ◌∙◌}
use Rattle.std.proofs.Common.{ap, sym, subst, arith}
use Rattle.std.specs.Prelude.{IsSomeAnd}
use Rattle.std.proofs.Math.Seq.{take-append_seam}
use Rattle.std.proofs.lemmas.Option.{get_or_from_slice_get}
use Rattle.rx_model.specs.declared.names.CallName.{CallName}
use Rattle.rx_model.specs.declared.names.Host.{Host}
use Rattle.rx_model.specs.Body.{Body}
use Rattle.rx_model.specs.Body as bodies
use Rattle.rx_model.specs.Names.{Channel, Connection, connection_of}
use Rattle.rx_class.specs.Writes.{WritesFront}
use Rattle.rx_rules.specs.Judging.{nonce_at}
use Rattle.rx_rules.specs.Classes.{Class}
use Rattle.rx_packet.specs.Seen.{message_with_head}
use Rattle.rx_rules.specs.Items.{message_on}
use Rattle.rx_rules.specs.Looks.{ConnLooks, Looks, channel_at, conn_at, latest_name}
use Rattle.rx_rules.specs.Setup.{side_flag}
use Rattle.rx_table.specs.declared.seat.Seat.{Seat}
use Rattle.rx_table.specs.Records.{ConnRecord, record_at, seat_at}
use Rattle.rx_node.specs.declared.link.Link.{Link}
use Rattle.rx_node.specs.Mirrors.{IsChannel, Mirrors}
use Rattle.rx_node.specs.Node.{NodeState, setup_of}
use Rattle.rx_node.specs.Due.{at_once, challenge_of}
use Rattle.rx_node.proofs.Steps.IdleSteps.{channel_conn, place_stands}

module _ (class : List ℕ → Class) (n : NodeState) (l : Looks) (m : Mirrors class n l) (key : ℕ) (ch : Channel)
    (at : IsChannel l key ch) where
  -- the connection of a channel
  pub record_connection : (r : ConnRecord) → record_at n.table (key / 4) ≡ Some r → r.connection ≡ ch.connection
  record_connection r there =
      let place = place_stands class n l m (key / 4) at.conn at.there in
      let same : place.rec ≡ r = (let is = sym place.rec_there ∙ there in cc (is)) in
      sym (ap (λ (q : ConnRecord). q.connection) same) ∙ place.stands.connection
      ∙ sym (ap (λ (d : Channel). d.connection) at.is)

  -- its name
  pub named_is : (t : Host × ℕ × ℕ)
      → IsSomeAnd (record_at n.table (key / 4)) (λ r. t ≡ (r.connection.host, r.connection.epoch, r.connection.cid))
      → t ≡ (ch.connection.host, ch.connection.epoch, ch.connection.cid)
  named_is t named = of (record_at n.table (key / 4)) refl named
    where
      of : (o : Option ConnRecord) → record_at n.table (key / 4) ≡ o
          → IsSomeAnd o (λ r. t ≡ (r.connection.host, r.connection.epoch, r.connection.cid))
          → t ≡ (ch.connection.host, ch.connection.epoch, ch.connection.cid)
      of None is named = absurd named
      of (Some r) is named =
          named ∙ ap (λ (x : Connection). (x.host, x.epoch, x.cid)) (record_connection r is)

  -- the number of its latest call
  pub number_is : (seat : Seat) → seat_at n.table key ≡ Some seat → seat.number ≡ (channel_at l ch).number
  number_is seat there = (m.channels key ch seat at there).owes.number

  -- its channel
  pub chan_is : key % 4 ≡ ch.chan
  chan_is = sym (ap (λ (d : Channel). d.chan) at.is)

  -- the peer and the service of its connection
  pub link_is : (link : Link) (x : ConnLooks) → link ≡ get_or n.links (key / 4) link → conn_at l ch.connection ≡ Some x
      → link ≡ record { peer = x.peer; service = x.service; first = x.first }
  link_is link x read found =
      let place = place_stands class n l m (key / 4) at.conn at.there in
      let same : link ≡ place.link = read ∙ get_or_from_slice_get n.links (key / 4) place.link link place.link_there in
      let conn : at.conn ≡ x = (let is = sym (channel_conn l key ch m.orderly.conns.differ at) ∙ found in cc (is)) in
      same ∙ place.stands.linked
      ∙ ap (λ (y : ConnLooks). record { peer = y.peer; service = y.service; first = y.first }) conn

  -- the name of its latest call
  pub latest_is : (t : Host × ℕ × ℕ) (seat : Seat)
      → IsSomeAnd (record_at n.table (key / 4)) (λ r. t ≡ (r.connection.host, r.connection.epoch, r.connection.cid))
      → seat_at n.table key ≡ Some seat
      → (record { host = t.0; epoch = t.1; cid = t.2; chan = key % 4; number = seat.number }) ≡ latest_name l ch
  latest_is t seat named there =
      λ i. record {
        host = (named_is t named i).0;
        epoch = (named_is t named i).1;
        cid = (named_is t named i).2;
        chan = chan_is i;
        number = number_is seat there i;
      }

  -- the header of a datagram of it
  pub head_is : (t : Host × ℕ × ℕ) (seat : Seat) (link : Link) (flag index serial : ℕ) (x : ConnLooks) (body : Body)
      → IsSomeAnd (record_at n.table (key / 4)) (λ r. t ≡ (r.connection.host, r.connection.epoch, r.connection.cid))
      → seat_at n.table key ≡ Some seat → link ≡ get_or n.links (key / 4) link → flag ≡ side_flag n.kind
      → index ≡ (class n.secret).index → conn_at l ch.connection ≡ Some x
      → message_with_head (record {
        epoch = t.1;
        cid = t.2 + key % 4;
        number = seat.number;
        seq = 0;
        serial = serial;
        flags = flag;
        status = 0;
        index = index;
        spare = 0;
        service = link.service;
      }) body
      ≡ record (message_on (setup_of class n) (at_once (latest_name l ch) body) x) { serial = serial }
  head_is t seat link flag index serial x body named there read flagged indexed found =
      let flags : flag ≡ side_flag n.kind + 0 = omega arith in
      λ i. record {
        epoch = (named_is t named i).1;
        cid = (named_is t named i).2 + chan_is i;
        number = number_is seat there i;
        seq = 0;
        serial = serial;
        flags = flags i;
        status = 0;
        index = indexed i;
        spare = 0;
        service = (link_is link x read found i).service;
        body = body;
      }

  -- its challenge, as the class wrote it
  pub challenge_written : (name : CallName) (nonce : ℕ) (old new : List ℕ) (count : ℕ) → name ≡ latest_name l ch
      → IsSomeAnd (record_at n.table (key / 4)) (λ r. nonce ≡ r.nonce)
      → WritesFront ((class n.secret).challenge name nonce) old new count
      → bodies.Challenge (take count new) ≡ challenge_of (setup_of class n) l (latest_name l ch)
  challenge_written name nonce old new count named drawn wrote =
      let place = place_stands class n l m (key / 4) at.conn at.there in
      let its : nonce ≡ place.rec.nonce =
      subst (λ (o : Option ConnRecord). IsSomeAnd o (λ r. nonce ≡ r.nonce)) place.rec_there drawn in
      let known : nonce ≡ nonce_at (setup_of class n) (conn_at l (connection_of (latest_name l ch))) =
      its ∙ place.stands.nonce ∙ ap (nonce_at (setup_of class n))
      (sym (channel_conn l key ch m.orderly.conns.differ at)) in
      let bytes : List ℕ = (class n.secret).challenge name nonce in
      ap (λ (bs : List ℕ). bodies.Challenge bs)
      (ap (λ (k : ℕ). take k new) wrote.counted ∙ ap (take (length bytes)) wrote.front
      ∙ take-append_seam bytes (drop (length bytes) old)
      ∙ (λ i. (class n.secret).challenge (named i) (known i)))
