-- What a channel of a client owes of its latest call, due at once, is given in the polls of the round, to the host and
-- for the service of the client's connections.
use Rattle.std.proofs.Common.{◌≡◌, ◌⊎◌, ◌<◌, ◌≤◌, ℕ, suc, Bool, true, false, List, ◌∷◌, Option, Some, None, Ok}
use Rattle.std.proofs.Common.{option_map, filter, refl, ◌∙◌, ap, sym, subst, inl, inr, ⊎_elim, is_some, arith}
use Rattle.std.proofs.lemmas.Bool.{le-leb}
use Rattle.rx_model.specs.declared.event.Event.{Event}
use Rattle.rx_model.specs.declared.event.Event.TheVariants as events
use Rattle.rx_model.specs.declared.names.CallName.{CallName}
use Rattle.rx_model.specs.declared.names.Host.{Host}
use Rattle.rx_model.specs.declared.wire.TheConstants.{CLIENT_INITIATED}
use Rattle.rx_model.specs.Body.{Body}
use Rattle.rx_model.specs.Body as bodies
use Rattle.rx_model.specs.Message.{Message, has_flag}
use Rattle.rx_model.specs.Names.{Channel, Connection, channel_of, connection_of, same_channel, same_connection}
use Rattle.rx_model.specs.Reading.{reading_of}
use Rattle.rx_model.proofs.NameLaws.{channel_is, connection_is}
use Rattle.rx_rules.specs.After.{counted, given_body, looks}
use Rattle.rx_rules.specs.Items.{Item, all_channels, busy_items, channel_items, class_items, items, items_of, owed_item}
use Rattle.rx_rules.specs.Items.{poll_answer, where_owed}
use Rattle.rx_rules.specs.Life.{is_live}
use Rattle.rx_rules.specs.Looks.{CallRecord, ChannelLooks, ConnLooks, Looks, call_named, channel_at, conn_at, is_call}
use Rattle.rx_rules.specs.Looks.{latest, latest_name}
use Rattle.rx_rules.specs.Records.{silenced}
use Rattle.rx_rules.specs.Rules.{Legal}
use Rattle.rx_rules.specs.Setup.{Client, FitsSetup, Setup, is_client, named}
use Rattle.rx_rules.proofs.ConnsLaws.{channel_number, number_of}
use Rattle.rx_rules.proofs.EveryLaws.{Every}
use Rattle.rx_rules.proofs.FindLaws.{find_passes}
use Rattle.rx_history.specs.Givings.{GivesItem, GivesStray}
use Rattle.rx_history.proofs.Differ.{every_found}
use Rattle.rx_history.proofs.Given.GivingItems.{item_latest, item_leaves, item_name, stray_leaves}
use Rattle.rx_history.proofs.Given.Givings.{poll_gives}
use Rattle.rx_history.proofs.Order.Orderly.{HasFour}
use Rattle.rx_history.proofs.Order.OrderlyHistory.{orderly_history}
use Rattle.rx_law.proofs.World.{gave-mine}
use Rattle.rx_law.specs.Worlds.{Datagram}
use Rattle.rx_between.proofs.Each.EachItem.{In, in_behind, in_filter, in_front, in_items, is_due, least_none}
use Rattle.rx_rounds.proofs.Polls.PolledOut.{polled_out}
use Rattle.rx_rounds.proofs.Two.{sent}
use Rattle.rx_closing.proofs.Conns.PeersTo.{IsSo, conns_after}
use Rattle.rx_closing.proofs.Telling.AbortOwed.{channel_apart, channel_keeps, conn_channel, found_in, in_all, low_slice}

-- ---- what a channel may owe of its latest call

-- the body that is owed, if any, of a kind that is due at once and that nothing else takes away
pub record IsDebt (Kind : Body → Type 0) (debt : ChannelLooks → Option Body) : Type 0 where
  pub there :
      (s : Setup) (l : Looks) (ch : Channel) (body : Body) → debt (channel_at l ch) ≡ Some body
      → In (record { rank = 0; name = call_named ch (channel_at l ch).number; seq = 0; flags = 0; body = body })
      (channel_items s l ch)
  pub kept :
      (d : CallName) (m : Message) (body : Body) (l : Looks) (ch : Channel)
      → (Kind body → same_channel ch (channel_of d) ≡ false)
      → debt (channel_at (given_body d m body l) ch) ≡ debt (channel_at l ch)
  pub test : (body : Body) → Kind body ⊎ (Kind body → ⊥)
  pub latest : Kind bodies.Busy → ⊥

-- an ABORT
abbrev pub IsAbort : Body → Type 0
IsAbort (bodies.Abort code) = Unit {0}
IsAbort _ = ⊥

abbrev pub abort_debt : ChannelLooks → Option Body
abort_debt q = option_map bodies.Abort q.owed_abort

pub abort_owed : IsDebt IsAbort abort_debt
abort_owed =
    record {
      there = λ s l ch body is.
          in_front (record { rank = 0; name = call_named ch (channel_at l ch).number; seq = 0; flags = 0; body = body })
          (owed_item (call_named ch (channel_at l ch).number) (abort_debt (channel_at l ch))) _
          (subst (λ (o : Option Body). In (record {
            rank = 0;
            name = call_named ch (channel_at l ch).number;
            seq = 0;
            flags = 0;
            body = body;
          }) (owed_item (call_named ch (channel_at l ch).number) o)) (sym is) (inl refl));
      kept = kept;
      test = test;
      latest = λ no. no;
    }
  where
    kept : (d : CallName) (m : Message) (body : Body) (l : Looks) (ch : Channel)
        → (IsAbort body → same_channel ch (channel_of d) ≡ false)
        → abort_debt (channel_at (given_body d m body l) ch) ≡ abort_debt (channel_at l ch)
    kept d m (bodies.Chunk payload) l ch apart = refl
    kept d m (bodies.Ack a) l ch apart = refl
    kept d m (bodies.Abort code) l ch apart =
        ap abort_debt (channel_apart l (channel_of d) ch (λ q. record q { owed_abort = None }) (apart tt))
    kept d m bodies.Busy l ch apart =
        channel_keeps abort_debt l (channel_of d) ch (λ q. record q { owed_busy = None }) (λ q. refl)
    kept d m (bodies.Challenge bytes) l ch apart =
        channel_keeps abort_debt l (channel_of d) ch (λ q. record q { owed_challenge = false }) (λ q. refl)
    kept d m (bodies.Response bytes) l ch apart =
        channel_keeps abort_debt l (channel_of d) ch (λ q. record q { owed_response = None }) (λ q. refl)
    kept d m bodies.AckAll l ch apart =
        channel_keeps abort_debt l (channel_of d) ch (λ q. record q { owed_ackall = false }) (λ q. refl)

    test : (body : Body) → IsAbort body ⊎ (IsAbort body → ⊥)
    test (bodies.Abort code) = inl tt
    test _ = inr (λ no. no)

-- an ACKALL
abbrev pub IsAckAll : Body → Type 0
IsAckAll bodies.AckAll = Unit {0}
IsAckAll _ = ⊥

abbrev pub ackall_debt : ChannelLooks → Option Body
ackall_debt q = where_owed q.owed_ackall bodies.AckAll

pub ackall_owed : IsDebt IsAckAll ackall_debt
ackall_owed = record { there = there; kept = kept; test = test; latest = λ no. no }
  where
    there : (s : Setup) (l : Looks) (ch : Channel) (body : Body) → ackall_debt (channel_at l ch) ≡ Some body
        → In (record { rank = 0; name = call_named ch (channel_at l ch).number; seq = 0; flags = 0; body = body })
        (channel_items s l ch)
    there s l ch body is =
        in_behind i (owed_item c (option_map bodies.Abort q.owed_abort)) _
        (in_behind i (busy_items ch q.owed_busy) _
        (in_behind i (class_items s l c q (is_call (λ (k : CallRecord). is_live k.life) (latest l ch))) _
        (in_front i (owed_item c (ackall_debt q)) (items_of s l (latest l ch))
        (subst (λ (o : Option Body). In i (owed_item c o)) (sym is) (inl refl)))))
      where
        q : ChannelLooks
        q = channel_at l ch

        c : CallName
        c = call_named ch q.number

        i : Item
        i = record { rank = 0; name = c; seq = 0; flags = 0; body = body }

    kept : (d : CallName) (m : Message) (body : Body) (l : Looks) (ch : Channel)
        → (IsAckAll body → same_channel ch (channel_of d) ≡ false)
        → ackall_debt (channel_at (given_body d m body l) ch) ≡ ackall_debt (channel_at l ch)
    kept d m (bodies.Chunk payload) l ch apart = refl
    kept d m (bodies.Ack a) l ch apart = refl
    kept d m (bodies.Abort code) l ch apart =
        channel_keeps ackall_debt l (channel_of d) ch (λ q. record q { owed_abort = None }) (λ q. refl)
    kept d m bodies.Busy l ch apart =
        channel_keeps ackall_debt l (channel_of d) ch (λ q. record q { owed_busy = None }) (λ q. refl)
    kept d m (bodies.Challenge bytes) l ch apart =
        channel_keeps ackall_debt l (channel_of d) ch (λ q. record q { owed_challenge = false }) (λ q. refl)
    kept d m (bodies.Response bytes) l ch apart =
        channel_keeps ackall_debt l (channel_of d) ch (λ q. record q { owed_response = None }) (λ q. refl)
    kept d m bodies.AckAll l ch apart =
        ap ackall_debt (channel_apart l (channel_of d) ch (λ q. record q { owed_ackall = false }) (apart tt))

    test : (body : Body) → IsAckAll body ⊎ (IsAckAll body → ⊥)
    test bodies.AckAll = inl tt
    test _ = inr (λ no. no)

-- ---- its channel is one of the node's

channel_known : (s : Setup) (h : List Event) (c : CallName) → Legal s h
    → (channel_at (looks s h) (channel_of c)).number ≡ c.number → 1 ≤ c.number
    → In (channel_of c) (all_channels (looks s h).conns)
channel_known s h c legal number some =
    of (conn_at (looks s h) (connection_of c)) refl (sym (channel_number (looks s h) (channel_of c)) ∙ number)
  where
    of : (q : Option ConnLooks) → conn_at (looks s h) (connection_of c) ≡ q → number_of q c.chan ≡ c.number
        → In (channel_of c) (all_channels (looks s h).conns)
    of None there is = absurd (omega arith)
    of (Some r) there is =
        (let own : r.connection ≡ connection_of c =
        connection_is r.connection (connection_of c)
        (find_passes (λ (p : ConnLooks). same_connection p.connection (connection_of c)) (looks s h).conns r there) in
        let four : HasFour r =
        every_found HasFour (λ (p : ConnLooks). same_connection p.connection (connection_of c)) (looks s h).conns r
        (orderly_history s h legal).conns.fours there in
        let low : c.chan < 4 =
        (let slice = low_slice r.channels c.chan (subst (λ (n : ℕ). 1 ≤ n) (sym is) some) in
        omega arith) in
        subst (λ (x : Connection). In (record { connection = x; chan = c.chan }) (all_channels (looks s h).conns)) own
        (in_all (looks s h).conns r c.chan low
        (found_in (λ (p : ConnLooks). same_connection p.connection (connection_of c)) (looks s h).conns r there)))

-- ---- polls of a client

-- a client's message of a call, of this kind, as it gives it
pub record SaysDebt (s : Setup) (c : CallName) (Kind : Body → Type 0) (peer : Host) (service : ℕ)
    (d : Datagram) : Type 0 where
  pub message : Message
  pub reads : reading_of d.bytes ≡ Ok message
  pub kind : Kind message.body
  pub name : named s d.to message ≡ c
  pub flag : has_flag CLIENT_INITIATED message.flags ≡ is_client s.kind
  pub index : message.index ≡ s.class.index
  pub to : d.to ≡ peer
  pub for_it : message.service ≡ service

-- a channel owes it of its latest call, and each connection is with that host, for that service
pub record IsOwing (debt : ChannelLooks → Option Body) (c : CallName) (peer : Host) (service : ℕ)
    (l : Looks) : Type 0 where
  pub owed : is_some (debt (channel_at l (channel_of c))) ≡ true
  pub number : (channel_at l (channel_of c)).number ≡ c.number
  pub some : 1 ≤ c.number
  pub conns : Every (IsSo (λ host its. (host ≡ peer) × (its ≡ service))) l.conns

number_given : (d : CallName) (m : Message) (body : Body) (l : Looks) (ch : Channel)
    → (channel_at (given_body d m body l) ch).number ≡ (channel_at l ch).number
number_given d m (bodies.Chunk payload) l ch = refl
number_given d m (bodies.Ack a) l ch = refl
number_given d m (bodies.Abort code) l ch =
    channel_keeps (λ q. q.number) l (channel_of d) ch (λ q. record q { owed_abort = None }) (λ q. refl)
number_given d m bodies.Busy l ch =
    channel_keeps (λ q. q.number) l (channel_of d) ch (λ q. record q { owed_busy = None }) (λ q. refl)
number_given d m (bodies.Challenge bytes) l ch =
    channel_keeps (λ q. q.number) l (channel_of d) ch (λ q. record q { owed_challenge = false }) (λ q. refl)
number_given d m (bodies.Response bytes) l ch =
    channel_keeps (λ q. q.number) l (channel_of d) ch (λ q. record q { owed_response = None }) (λ q. refl)
number_given d m bodies.AckAll l ch =
    channel_keeps (λ q. q.number) l (channel_of d) ch (λ q. record q { owed_ackall = false }) (λ q. refl)

module _ (s : Setup) (host : Host) (epoch : ℕ) (client : s.kind ≡ Client host epoch) (fits : FitsSetup s)
    (Kind : Body → Type 0) (debt : ChannelLooks → Option Body) (is : IsDebt Kind debt) (c : CallName) (peer : Host)
    (service : ℕ) where
  abbrev Owes : Looks → Type 0
  Owes l = IsOwing debt c peer service l

  -- a node that gives nothing owes none
  pub debt_none : (h : List Event) → Legal s h → Owes (looks s h) → poll_answer s (looks s h) ≡ None → ⊥
  debt_none h legal o none = of (debt (channel_at l (channel_of c))) refl o.owed
    where
      l : Looks
      l = silenced (looks s h)

      ch : Channel
      ch = channel_of c

      of : (owed : Option Body) → debt (channel_at l ch) ≡ owed → is_some owed ≡ true → ⊥
      of None at some = absurd cc
      of (Some body) at some =
          let i : Item = record {
            rank = 0;
            name = call_named ch (channel_at l ch).number;
            seq = 0;
            flags = 0;
            body = body;
          } in
          let there : In i (items s l) =
          in_items s l i ch (all_channels l.conns) (channel_known s h c legal o.number o.some)
          (is.there s l ch body at) in
          let due : In i (filter (is_due l) (items s l)) =
          in_filter (is_due l) i (items s l) there (le-leb 0 l.now (omega arith)) in
          subst (λ (xs : List Item). In i xs)
          (least_none (λ (j : Item). j.rank) (filter (is_due l) (items s l)) (polled_out s (looks s h) none).items) due

  -- a poll that gives something gives it, or leaves it owed
  pub debt_gives : (from : Host) (h : List Event) (to : Host) (bytes : List ℕ)
      → Legal s (events.Polled (Some (to, bytes)) ∷ h) → Owes (looks s h)
      → poll_answer s (looks s h) ≡ Some (to, bytes)
      → SaysDebt s c Kind peer service (sent from to bytes)
      ⊎ Owes (looks s (events.Polled (Some (to, bytes)) ∷ h))
  debt_gives from h to bytes legal o answer =
      (let p = poll_gives s h fits legal.1 to bytes answer in by p.message p.read p.owed)
    where
      l : Looks
      l = silenced (looks s h)

      e : Event
      e = events.Polled (Some (to, bytes))

      conns : Every (IsSo (λ a its. (a ≡ peer) × (its ≡ service))) (looks s (e ∷ h)).conns
      conns = conns_after s host epoch client (λ a its. (a ≡ peer) × (its ≡ service)) (looks s h) e tt o.conns

      of_item : (m : Message) → reading_of bytes ≡ Ok m → (g : GivesItem s (looks s h) to m)
          → SaysDebt s c Kind peer service (sent from to bytes) ⊎ Owes (looks s (e ∷ h))
      of_item m reads g = part (is.test m.body)
        where
          x : Connection
          x = connection_of g.item.name

          behind : looks s (e ∷ h) ≡ given_body g.item.name m m.body (counted x l)
          behind = item_leaves s h fits legal.1 to bytes m g reads

          same_counted : channel_at (counted x l) (channel_of c) ≡ channel_at l (channel_of c)
          same_counted =
              conn_channel x (λ (r : ConnLooks). record r { given = suc r.given; last_use = l.now }) l (channel_of c)
              (λ r. refl) (λ r. refl)

          keeps : (Kind m.body → same_channel (channel_of c) (channel_of g.item.name) ≡ false)
              → SaysDebt s c Kind peer service (sent from to bytes) ⊎ Owes (looks s (e ∷ h))
          keeps apart =
              inr (record {
                owed =
                    ap (λ (m : Looks). is_some (debt (channel_at m (channel_of c)))) behind
                    ∙ ap (λ (o : Option Body). is_some o)
                    (is.kept g.item.name m m.body (counted x l) (channel_of c) apart)
                    ∙ ap (λ (q : ChannelLooks). is_some (debt q)) same_counted ∙ o.owed;
                number =
                    ap (λ (m : Looks). (channel_at m (channel_of c)).number) behind
                    ∙ number_given g.item.name m m.body (counted x l) (channel_of c)
                    ∙ ap (λ (q : ChannelLooks). q.number) same_counted ∙ o.number;
                some = o.some;
                conns = conns;
              })

          says : Kind m.body → (b : Bool) → same_channel (channel_of c) (channel_of g.item.name) ≡ b
              → SaysDebt s c Kind peer service (sent from to bytes) ⊎ Owes (looks s (e ∷ h))
          says kind false other = keeps (λ own. other)
          says kind true same =
              let channel : channel_of c ≡ channel_of g.item.name =
              channel_is (channel_of c) (channel_of g.item.name) same in
              let named_is : g.item.name ≡ c =
              ⊎_elim
              (λ (busy : g.item.body ≡ bodies.Busy).
              absurd (is.latest (subst Kind (ap (λ (n : Message). n.body) g.is ∙ busy) kind)))
              (λ (last : g.item.name ≡ latest_name (looks s h) (channel_of g.item.name)).
              last ∙ ap (latest_name (looks s h)) (sym channel)
              ∙ ap (call_named (channel_of c)) o.number)
              (item_latest s h fits legal.1 to m g) in
              let own : (g.conn.peer ≡ peer) × (g.conn.service ≡ service) =
              every_found (IsSo (λ a its. (a ≡ peer) × (its ≡ service)))
              (λ (r : ConnLooks). same_connection r.connection x) (looks s h).conns g.conn o.conns g.there in
              inl (record {
                message = m;
                reads = reads;
                kind = kind;
                name = item_name s h fits legal.1 to m g ∙ named_is;
                flag = (gave-mine s (e ∷ h) to bytes m fits legal (inl (refl, refl)) reads).flag;
                index = ap (λ (n : Message). n.index) g.is;
                to = g.host ∙ own.0;
                for_it = ap (λ (n : Message). n.service) g.is ∙ own.1;
              })

          part : Kind m.body ⊎ (Kind m.body → ⊥)
              → SaysDebt s c Kind peer service (sent from to bytes) ⊎ Owes (looks s (e ∷ h))
          part (inl kind) = says kind (same_channel (channel_of c) (channel_of g.item.name)) refl
          part (inr not) = keeps (λ kind. absurd (not kind))

      by : (m : Message) → reading_of bytes ≡ Ok m → GivesStray (looks s h) to m ⊎ GivesItem s (looks s h) to m
          → SaysDebt s c Kind peer service (sent from to bytes) ⊎ Owes (looks s (e ∷ h))
      by m reads (inl g) =
          inr (record {
            owed =
                ap (λ (m : Looks). is_some (debt (channel_at m (channel_of c))))
                (stray_leaves s (looks s h) to bytes m g reads) ∙ o.owed;
            number =
                ap (λ (m : Looks). (channel_at m (channel_of c)).number)
                (stray_leaves s (looks s h) to bytes m g reads) ∙ o.number;
            some = o.some;
            conns = conns;
          })
      by m reads (inr g) = of_item m reads g
