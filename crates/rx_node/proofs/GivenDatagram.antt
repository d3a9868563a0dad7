-- A datagram that a node gives is the one of its item, and the node mirrors what that leaves.
use Rattle.std.proofs.Common.{◌≡◌, ◌+◌, ◌/◌, ◌%◌, ◌^◌, ℕ, suc, Bool, true, false, List, Option, Some, None, option_map}
use Rattle.std.proofs.Common.{refl, ◌∙◌, ap, sym, subst, arith, if◌then◌else◌}
use Rattle.std.specs.Prelude.{slice_get, IsSomeAnd}
use Rattle.std.proofs.lemmas.Option.{slice_get-map}
use Rattle.rx_model.specs.declared.names.CallName.{CallName}
use Rattle.rx_model.specs.Body.{Body}
use Rattle.rx_model.specs.Body as bodies
use Rattle.rx_model.specs.Message.{Message}
use Rattle.rx_model.specs.Names.{Channel, Connection, connection_of, same_connection}
use Rattle.rx_model.specs.Spelling.{made}
use Rattle.rx_model.proofs.NameLaws.{connection_itself}
use Rattle.rx_packet.specs.declared.head.Head.{Head}
use Rattle.rx_packet.specs.Seen.{message_with_head}
use Rattle.rx_rules.specs.After.{counted, given_body}
use Rattle.rx_rules.specs.Classes.{Class}
use Rattle.rx_rules.specs.Items.{Item, message_on}
use Rattle.rx_rules.specs.Judging.{nonce_at}
use Rattle.rx_rules.specs.Looks.{ChannelLooks, ConnLooks, Looks, call_named, channel_at, conn_at, latest, latest_name}
use Rattle.rx_rules.specs.Setup.{Setup, side_flag}
use Rattle.rx_rules.proofs.ConnsLaws.{conn_at-on_conn, conn_if}
use Rattle.rx_node.specs.Due.{Gave, GaveBehind, IsDueAs, IsItem, at_once, challenge_of, message_of_item}
use Rattle.rx_node.specs.Mirrors.{IsChannel, Mirrors}
use Rattle.rx_node.specs.Node.{KeepsNode, NodeState, setup_of}
use Rattle.rx_node.specs.declared.item.Due.{Due}
use Rattle.rx_node.specs.declared.item.Item.{Item as CodeItem}
use Rattle.rx_node.specs.declared.item.Item.TheVariants as items
use Rattle.rx_node.specs.declared.link.Link.{Link}
use Rattle.rx_node.proofs.Steps.ChannelSteps.{LeavesChannels, channel_on_conn, latest_on_conn}
use Rattle.rx_node.proofs.GivenItem.{item_channel}
use Rattle.rx_node.proofs.Steps.IdleSteps.{channel_conn, place_stands}
use Rattle.rx_node.proofs.KeptKeys.{kept_setup}

-- ---- a datagram is counted

abbrev once_more : ℕ → ConnLooks → ConnLooks
once_more now r = record r { given = suc r.given; last_use = now }

more-leaves : (now : ℕ) → LeavesChannels (once_more now)
more-leaves now = record { name = λ r. refl; channels = λ r. refl }

module _ (s : Setup) (l : Looks) (y : Connection) (ch : Channel) where
  abbrev behind : Looks
  behind = counted y l

  channel-same : channel_at behind ch ≡ channel_at l ch
  channel-same = channel_on_conn l y ch (once_more l.now) (more-leaves l.now)

  latest-same : latest behind ch ≡ latest l ch
  latest-same = latest_on_conn l y ch (once_more l.now) (more-leaves l.now)

  name-same : latest_name behind ch ≡ latest_name l ch
  name-same = ap (λ (q : ChannelLooks). call_named ch q.number) channel-same

  nonce-same : (c : CallName) → nonce_at s (conn_at behind (connection_of c)) ≡ nonce_at s (conn_at l (connection_of c))
  nonce-same c =
      ap (nonce_at s) (conn_at-on_conn (connection_of c) y (once_more l.now) l (λ r. refl))
      ∙ of (conn_at l (connection_of c))
    where
      order : (b : Bool) (r : ConnLooks) → (if b then once_more l.now r else r).order ≡ r.order
      order true r = refl
      order false r = refl

      of : (o : Option ConnLooks) → nonce_at s (option_map (conn_if y (once_more l.now)) o) ≡ nonce_at s o
      of None = refl
      of (Some r) = ap (λ (n : ℕ). nonce_at s (Some (record r { order = n })))
          (order (same_connection r.connection y) r)

  -- its items stay
  item-same : (item : CodeItem) (i : Item) → IsItem s l ch item i → IsItem s behind ch item i
  item-same (items.Abort code) i is = is ∙ ap (λ (c : CallName). at_once c (bodies.Abort code)) (sym name-same)
  item-same (items.Busy number) i is = is
  item-same items.Challenge i is =
      is ∙ (λ t. at_once (sym name-same t) (challenge_of s l (sym name-same t)))
      ∙ ap (λ (n : ℕ). at_once (latest_name behind ch) (bodies.Challenge (s.class.challenge (latest_name behind ch) n)))
      (sym (nonce-same (latest_name behind ch)))
  item-same items.Response i is =
      subst (λ (q : ChannelLooks). IsSomeAnd q.owed_response
      (λ bytes. i ≡ at_once (call_named ch q.number) (bodies.Response bytes))) (sym channel-same) is
  item-same items.AckAll i is = is ∙ ap (λ (c : CallName). at_once c bodies.AckAll) (sym name-same)
  item-same (items.Sending end) i is =
      record { call = is.call; there = latest-same ∙ is.there; item = is.item; least = is.least; is = is.is }

-- its channels stay
counted-channel : (l : Looks) (key : ℕ) (ch : Channel) (at : IsChannel l key ch)
    → IsChannel (counted at.conn.connection l) key ch
counted-channel l key ch at =
    record {
      conn = once_more l.now at.conn;
      there = slice_get-map (conn_if at.conn.connection (once_more l.now)) l.conns (key / 4)
          ∙ ap (option_map (conn_if at.conn.connection (once_more l.now))) at.there
          ∙ ap (λ (b : Bool). Some (if b then once_more l.now at.conn else at.conn))
          (connection_itself at.conn.connection);
      is = at.is;
    }

-- ---- the datagram

module _ (class : List ℕ → Class) (old mid new : NodeState) (same : KeepsNode old mid) (l : Looks)
    (m : Mirrors class old l)
    (due : Due) (i : Item) (as_ : IsDueAs (setup_of class old) l due i) (link : Link)
    (linked : slice_get old.links (due.key / 4) ≡ Some link) (serial : ℕ) (head : Head) (bytes : List ℕ)
    (drawn : (l : Looks) (x : ConnLooks) → Mirrors class old l → slice_get l.conns (due.key / 4) ≡ Some x
    → serial ≡ suc x.given % 2 ^ 32)
    (counts : (l : Looks) (x : ConnLooks) → Mirrors class old l → slice_get l.conns (due.key / 4) ≡ Some x
    → Mirrors class mid (counted x.connection l))
    (heads : (l : Looks) (ch : Channel) (x : ConnLooks) (body : Body) → Mirrors class mid l → IsChannel l due.key ch
    → conn_at l ch.connection ≡ Some x
    → message_with_head head body ≡ record (message_on (setup_of class mid) (at_once (latest_name l ch) body) x)
    { serial = serial })
    (gives : (l : Looks) (i : Item) → Mirrors class mid l → IsDueAs (setup_of class mid) l due i
    → ((ch : Channel) → IsChannel l due.key ch → head.number ≡ (channel_at l ch).number)
    → GaveBehind class new l head i bytes) where
  abbrev x : ConnLooks
  x = as_.at.conn

  abbrev ch : Channel
  ch = as_.channel

  abbrev more : Looks
  more = counted x.connection l

  setups : setup_of class mid ≡ setup_of class old
  setups = kept_setup class old mid same

  mirrored : Mirrors class mid more
  mirrored = counts l x m as_.at.there

  at-more : IsChannel more due.key ch
  at-more = counted-channel l due.key ch as_.at

  due-more : IsDueAs (setup_of class mid) more due i
  due-more =
      subst (λ (s : Setup). IsDueAs s more due i) (sym setups)
      (record {
        channel = ch;
        at = at-more;
        rank = as_.rank;
        is = item-same (setup_of class old) l x.connection ch due.item i as_.is;
      })

  numbered : (d : Channel) → IsChannel more due.key d → head.number ≡ (channel_at more d).number
  numbered d at =
      ap (λ (msg : Message). msg.number)
      (heads more d at.conn bodies.Busy mirrored at (channel_conn more due.key d mirrored.orderly.conns.differ at))

  gave : GaveBehind class new more head i bytes
  gave = gives more i mirrored due-more numbered

  named : i.name ≡ call_named ch i.name.number
  named = item_channel (setup_of class old) l ch due.item i as_.is

  its-connection : x.connection ≡ connection_of i.name
  its-connection = sym (ap (λ (d : Channel). d.connection) as_.at.is) ∙ sym (ap connection_of named)

  -- it is written behind its header
  message_is : message_of_item head i ≡ message_on (setup_of class old) i x
  unfolding at-more counted-channel
  message_is =
      let flags : (side_flag old.kind + 0) + i.flags ≡ side_flag old.kind + i.flags = omega arith in
      ap (λ (msg : Message). record msg { number = i.name.number; seq = i.seq; flags = msg.flags + i.flags })
      (heads more ch (once_more l.now x) i.body mirrored at-more
      (channel_conn more due.key ch mirrored.orderly.conns.differ at-more)
      ∙ ap (λ (s : Setup). record (message_on s (at_once (latest_name more ch) i.body) (once_more l.now x))
      { serial = serial }) setups)
      ∙ (λ t. record (message_on (setup_of class old) i x) {
        epoch = (sym (ap (λ (c : CallName). c.epoch) named)) t;
        cid = (sym (ap (λ (c : CallName). c.cid + c.chan) named)) t;
        serial = drawn l x m as_.at.there t;
        flags = flags t;
      })

  -- it is the datagram of its item
  pub gave_datagram : Gave class old new l i link.peer bytes
  gave_datagram =
      let place = place_stands class old l m (due.key / 4) x as_.at.there in
      let its : link ≡ place.link = (let is = sym linked ∙ place.link_there in cc (is)) in
      record {
        conn = x;
        there = ap (λ (c : CallName). conn_at l (connection_of c)) named
            ∙ channel_conn l due.key ch m.orderly.conns.differ as_.at;
        host = ap (λ (k : Link). k.peer) (its ∙ place.stands.linked);
        written = gave.written ∙ ap (λ (msg : Message). made msg) message_is;
        leaves = subst (λ (y : Connection).
            Mirrors class new (given_body i.name (message_on (setup_of class old) i x) i.body (counted y l)))
            its-connection
            (gave.leaves (message_on (setup_of class old) i x) refl);
      }
