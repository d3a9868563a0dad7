-- A BUSY of a call that a channel of the server owes is given in the polls of the round.
use Rattle.std.proofs.Common.{◌≡◌, ◌⊎◌, ◌<◌, ◌++◌, not, ℕ, ℤ, zero, suc, Bool, true, false, List, [], ◌∷◌, Option, Some}
use Rattle.std.proofs.Common.{None, Ok, option_map, filter, refl, ◌∙◌, ap, sym, subst, inl, inr, ⊎_elim, length, arith}
use Rattle.std.proofs.lemmas.Bool.{le-leb}
use Rattle.std.specs.Prelude.{option_and_then, slice_get, unwrap_or}
use Rattle.rx_model.specs.declared.event.Event.{Event}
use Rattle.rx_model.specs.declared.event.Event.TheVariants as events
use Rattle.rx_model.specs.declared.names.CallName.{CallName}
use Rattle.rx_model.specs.declared.names.Host.{Host}
use Rattle.rx_model.specs.declared.wire.TheConstants.{CLIENT_INITIATED}
use Rattle.rx_model.specs.Body.{Body}
use Rattle.rx_model.specs.Body as bodies
use Rattle.rx_model.specs.Message.{Message, has_flag}
use Rattle.rx_model.specs.Names.{Channel, Connection, channel_of, connection_of, same_channel, same_connection}
use Rattle.rx_model.specs.Reading.{reading_of}
use Rattle.rx_model.proofs.NameLaws.{channel_is, connection_is}
use Rattle.rx_rules.specs.After.{counted, given_body, looks}
use Rattle.rx_rules.specs.Items.{Item, all_channels, busy_items, challenge_body, channel_items, class_items, items}
use Rattle.rx_rules.specs.Items.{items_of, items_on, next_item, owed_item, poll_answer, where_owed}
use Rattle.rx_rules.specs.Life.{is_live}
use Rattle.rx_rules.specs.Looks.{ChannelLooks, ConnLooks, Looks, call_named, channel_at, conn_at, fresh_channel}
use Rattle.rx_rules.specs.Looks.{is_call, latest}
use Rattle.rx_rules.specs.Records.{silenced}
use Rattle.rx_rules.specs.Rules.{Legal}
use Rattle.rx_rules.specs.Setup.{FitsSetup, Setup, is_client, named}
use Rattle.rx_rules.proofs.FindLaws.{find_passes}
use Rattle.rx_history.specs.Givings.{GivesItem, GivesStray}
use Rattle.rx_history.proofs.Differ.{every_found}
use Rattle.rx_history.proofs.Given.GivingItems.{item_leaves, item_name, stray_leaves}
use Rattle.rx_history.proofs.Given.Givings.{poll_gives}
use Rattle.rx_history.proofs.Order.Orderly.{HasFour}
use Rattle.rx_history.proofs.Order.OrderlyHistory.{orderly_history}
use Rattle.rx_law.proofs.World.{gave-mine}
use Rattle.rx_law.specs.Worlds.{Datagram}
use Rattle.rx_between.proofs.Each.EachItem.{In, in_behind, in_filter, in_front, in_items, is_due, least_in, least_none}
use Rattle.rx_rounds.proofs.Polls.PolledOut.{polled_out}
use Rattle.rx_rounds.proofs.Two.{sent}
use Rattle.rx_closing.proofs.Polls.Bare.{own_stream}
use Rattle.rx_closing.proofs.Telling.AbortOwed.{channel_apart, channel_keeps, conn_channel, found_in, in_all}
use Rattle.rx_between.proofs.Within.{in_either, in_filtered}
use Rattle.rx_history.proofs.Plain.PlainBodies.{IsSent}

-- ---- the item of a BUSY

not_stream : (body : Body) → body ≡ bodies.Busy → IsSent body → ⊥
not_stream body is stream = subst IsSent is stream

-- what is owed of other kinds is none
owed_other : (d : CallName) (o : Option Body) (i : Item) → (o ≡ Some bodies.Busy → ⊥) → In i (owed_item d o)
    → i.body ≡ bodies.Busy → ⊥
owed_other d None i not there busy = there
owed_other d (Some body) i not (inl same) busy =
    (let is : body ≡ bodies.Busy = sym (ap (λ (j : Item). j.body) same) ∙ busy in
    not (ap (λ (b : Body). Some b) is))
owed_other d (Some body) i not (inr never) busy = never

abort_other : (o : Option ℤ) → option_map bodies.Abort o ≡ Some bodies.Busy → ⊥
abort_other None is = (let no : ◌≡◌ {A = Option Body} None (Some bodies.Busy) = is in cc (no))
abort_other (Some code) is =
    (let no : ◌≡◌ {A = Option Body} (Some (bodies.Abort code)) (Some bodies.Busy) = is in cc (no))

response_other : (o : Option (List ℕ)) → option_map bodies.Response o ≡ Some bodies.Busy → ⊥
response_other None is = (let no : ◌≡◌ {A = Option Body} None (Some bodies.Busy) = is in cc (no))
response_other (Some bytes) is =
    (let no : ◌≡◌ {A = Option Body} (Some (bodies.Response bytes)) (Some bodies.Busy) = is in cc (no))

where_other : (b : Bool) (body : Body) → (body ≡ bodies.Busy → ⊥) → where_owed b body ≡ Some bodies.Busy → ⊥
where_other true body not is = not (some_one body bodies.Busy is)
  where
    some_one : (x y : Body) → ◌≡◌ {A = Option Body} (Some x) (Some y) → x ≡ y
    some_one x y same = cc
where_other false body not is = (let no : ◌≡◌ {A = Option Body} None (Some bodies.Busy) = is in cc (no))

module _ (s : Setup) (l : Looks) where
  -- the channel of a BUSY owes one of its number
  abbrev IsOwed : Item → Type 0
  IsOwed i = (channel_at l (channel_of i.name)).owed_busy ≡ Some i.name.number

  busy_owed : (ch : Channel) (i : Item) → In i (busy_items ch (channel_at l ch).owed_busy) → IsOwed i
  busy_owed ch i there = of (channel_at l ch).owed_busy refl there
    where
      of : (o : Option ℕ) → (channel_at l ch).owed_busy ≡ o → In i (busy_items ch o) → IsOwed i
      of None is there = absurd there
      of (Some n) is (inl same) =
          subst (λ (d : CallName). (channel_at l (channel_of d)).owed_busy ≡ Some d.number)
          (sym (ap (λ (j : Item). j.name) same)) is
      of (Some n) is (inr never) = absurd never

  class_other : (d : CallName) (q : ChannelLooks) (living : Bool) (i : Item) → In i (class_items s l d q living)
      → i.body ≡ bodies.Busy → ⊥
  class_other d q false i there busy = there
  class_other d q true i there busy =
      ⊎_elim
      (λ (h : In i (owed_item d (challenge_body s l d q.owed_challenge))).
      owed_other d (challenge_body s l d q.owed_challenge) i
      (λ is. where_other _ _ (λ same. (let no : bodies.Challenge _ ≡ bodies.Busy = same in cc (no))) is) h busy)
      (λ (h : In i (owed_item d (option_map bodies.Response q.owed_response))).
      owed_other d (option_map bodies.Response q.owed_response) i (response_other q.owed_response) h busy)
      (in_either i (owed_item d (challenge_body s l d q.owed_challenge))
      (owed_item d (option_map bodies.Response q.owed_response)) there)

  channel_owed : (ch : Channel) (i : Item) → In i (channel_items s l ch) → i.body ≡ bodies.Busy → IsOwed i
  channel_owed ch i there busy =
      (let q : ChannelLooks = channel_at l ch in
      let d : CallName = call_named ch q.number in
      let living : Bool = is_call (λ k. is_live k.life) (latest l ch) in
      let aborts : List Item = owed_item d (option_map bodies.Abort q.owed_abort) in
      let busies : List Item = busy_items ch q.owed_busy in
      let classes : List Item = class_items s l d q living in
      let acks : List Item = owed_item d (where_owed q.owed_ackall bodies.AckAll) in
      let own : List Item = items_of s l (latest l ch) in
      ⊎_elim
      (λ (h : In i aborts).
      absurd (owed_other d (option_map bodies.Abort q.owed_abort) i (abort_other q.owed_abort) h busy))
      (λ (h1 : In i (busies ++ (classes ++ (acks ++ own)))). ⊎_elim
      (λ (h : In i busies). busy_owed ch i h)
      (λ (h2 : In i (classes ++ (acks ++ own))). ⊎_elim
      (λ (h : In i classes). absurd (class_other d q living i h busy))
      (λ (h3 : In i (acks ++ own)). ⊎_elim
      (λ (h : In i acks).
      absurd (owed_other d (where_owed q.owed_ackall bodies.AckAll) i
      (where_other q.owed_ackall bodies.AckAll
      (λ same. (let no : bodies.AckAll ≡ bodies.Busy = same in cc (no)))) h busy))
      (λ (h : In i own). absurd (not_stream i.body busy (own_stream s l (latest l ch) i h)))
      (in_either i acks own h3))
      (in_either i classes (acks ++ own) h2))
      (in_either i busies (classes ++ (acks ++ own)) h1))
      (in_either i aborts (busies ++ (classes ++ (acks ++ own))) there))

  channels_owed : (chs : List Channel) (i : Item) → In i (items_on s l chs) → i.body ≡ bodies.Busy → IsOwed i
  channels_owed [] i there busy = absurd there
  channels_owed (ch ∷ chs) i there busy =
      ⊎_elim (λ (h : In i (channel_items s l ch)). channel_owed ch i h busy)
      (λ (h : In i (items_on s l chs)). channels_owed chs i h busy)
      (in_either i (channel_items s l ch) (items_on s l chs) there)

  next_owed : (i : Item) → next_item s l ≡ Some i → i.body ≡ bodies.Busy → IsOwed i
  next_owed i is busy =
      channels_owed (all_channels l.conns) i
      (in_filtered (is_due l) i (items s l)
      (least_in (λ (j : Item). j.rank) i (filter (is_due l) (items s l)) is)) busy

-- ---- its channel is one of the node's

slice_low : (qs : List ChannelLooks) (n : ℕ) (number : ℕ)
    → (unwrap_or (slice_get qs n) (fresh_channel 0)).owed_busy ≡ Some number → n < length qs
slice_low [] n number is = absurd (let no : ◌≡◌ {A = Option ℕ} None (Some number) = is in cc (no))
slice_low (q ∷ qs) zero number is = omega arith
slice_low (q ∷ qs) (suc n) number is = (let low = slice_low qs n number is in omega arith)

busy_known : (s : Setup) (h : List Event) (ch : Channel) (number : ℕ) → Legal s h
    → (channel_at (looks s h) ch).owed_busy ≡ Some number → In ch (all_channels (looks s h).conns)
busy_known s h ch number legal owes = of (conn_at (looks s h) ch.connection) refl owes
  where
    of : (o : Option ConnLooks) → conn_at (looks s h) ch.connection ≡ o
        → (unwrap_or (option_and_then (λ r. slice_get r.channels ch.chan) o) (fresh_channel 0)).owed_busy ≡ Some number
        → In ch (all_channels (looks s h).conns)
    of None there is = absurd (let no : ◌≡◌ {A = Option ℕ} None (Some number) = is in cc (no))
    of (Some r) there is =
        (let own : r.connection ≡ ch.connection =
        connection_is r.connection ch.connection
        (find_passes (λ (p : ConnLooks). same_connection p.connection ch.connection) (looks s h).conns r there) in
        let four : HasFour r =
        every_found HasFour (λ (p : ConnLooks). same_connection p.connection ch.connection) (looks s h).conns r
        (orderly_history s h legal).conns.fours there in
        let low : ch.chan < 4 = (let slice = slice_low r.channels ch.chan number is in omega arith) in
        subst (λ (x : Connection). In (record { connection = x; chan = ch.chan }) (all_channels (looks s h).conns)) own
        (in_all (looks s h).conns r ch.chan low
        (found_in (λ (p : ConnLooks). same_connection p.connection ch.connection) (looks s h).conns r there)))

-- ---- polls

-- a BUSY of a call, as its server gives it
pub record BusyOf (s : Setup) (c : CallName) (d : Datagram) : Type 0 where
  pub message : Message
  pub reads : reading_of d.bytes ≡ Ok message
  pub body : message.body ≡ bodies.Busy
  pub name : named s d.to message ≡ c
  pub flag : has_flag CLIENT_INITIATED message.flags ≡ is_client s.kind
  pub index : message.index ≡ s.class.index

module _ (s : Setup) (fits : FitsSetup s) (c : CallName) where
  abbrev pub Owes : Looks → Type 0
  Owes l = (channel_at l (channel_of c)).owed_busy ≡ Some c.number

  -- a node that gives nothing owes none
  pub busy_none_owed : (h : List Event) → Legal s h → Owes (looks s h) → poll_answer s (looks s h) ≡ None → ⊥
  busy_none_owed h legal o none =
      subst (λ (xs : List Item). In i xs)
      (least_none (λ (j : Item). j.rank) (filter (is_due l) (items s l)) (polled_out s (looks s h) none).items) due
    where
      l : Looks
      l = silenced (looks s h)

      i : Item
      i = record { rank = 0; name = c; seq = 0; flags = 0; body = bodies.Busy }

      own : In i (busy_items (channel_of c) (channel_at l (channel_of c)).owed_busy)
      own = subst (λ (q : Option ℕ). In i (busy_items (channel_of c) q)) (sym o) (inl refl)

      there : In i (items s l)
      there =
          in_items s l i (channel_of c) (all_channels l.conns) (busy_known s h (channel_of c) c.number legal o)
          (in_behind i (owed_item (call_named (channel_of c) (channel_at l (channel_of c)).number)
          (option_map bodies.Abort (channel_at l (channel_of c)).owed_abort)) _
          (in_front i (busy_items (channel_of c) (channel_at l (channel_of c)).owed_busy) _ own))

      due : In i (filter (is_due l) (items s l))
      due = in_filter (is_due l) i (items s l) there (le-leb 0 l.now (omega arith))

  -- a poll that gives something gives it, or leaves it owed
  pub busy_gives : (from : Host) (h : List Event) (to : Host) (bytes : List ℕ)
      → Legal s (events.Polled (Some (to, bytes)) ∷ h) → Owes (looks s h)
      → poll_answer s (looks s h) ≡ Some (to, bytes)
      → BusyOf s c (sent from to bytes) ⊎ Owes (looks s (events.Polled (Some (to, bytes)) ∷ h))
  busy_gives from h to bytes legal o answer =
      (let p = poll_gives s h fits legal.1 to bytes answer in by p.message p.read p.owed)
    where
      l : Looks
      l = silenced (looks s h)

      e : Event
      e = events.Polled (Some (to, bytes))

      of_item : (m : Message) → reading_of bytes ≡ Ok m → (g : GivesItem s (looks s h) to m)
          → BusyOf s c (sent from to bytes) ⊎ Owes (looks s (e ∷ h))
      of_item m reads g = part m.body refl
        where
          x : Connection
          x = connection_of g.item.name

          behind : looks s (e ∷ h) ≡ given_body g.item.name m m.body (counted x l)
          behind = item_leaves s h fits legal.1 to bytes m g reads

          same_counted : channel_at (counted x l) (channel_of c) ≡ channel_at l (channel_of c)
          same_counted =
              conn_channel x (λ (r : ConnLooks). record r { given = suc r.given; last_use = l.now }) l (channel_of c)
              (λ r. refl) (λ r. refl)

          leaves : (body : Body) → m.body ≡ body
              → (channel_at (given_body g.item.name m body (counted x l)) (channel_of c)).owed_busy
              ≡ (channel_at (counted x l) (channel_of c)).owed_busy
              → BusyOf s c (sent from to bytes) ⊎ Owes (looks s (e ∷ h))
          leaves body at kept =
              inr (ap (λ (n : Looks). (channel_at n (channel_of c)).owed_busy)
              (behind ∙ ap (λ (b : Body). given_body g.item.name m b (counted x l)) at)
              ∙ kept ∙ ap (λ (q : ChannelLooks). q.owed_busy) same_counted ∙ o)

          busy : m.body ≡ bodies.Busy → (b : Bool) → same_channel (channel_of c) (channel_of g.item.name) ≡ b
              → BusyOf s c (sent from to bytes) ⊎ Owes (looks s (e ∷ h))
          busy at false apart =
              leaves bodies.Busy at
              (ap (λ (q : ChannelLooks). q.owed_busy)
              (channel_apart (counted x l) (channel_of g.item.name) (channel_of c)
              (λ q. record q { owed_busy = None }) apart))
          busy at true same =
              let on : channel_of c ≡ channel_of g.item.name =
              channel_is (channel_of c) (channel_of g.item.name) same in
              let is_busy : g.item.body ≡ bodies.Busy = sym (ap (λ (n : Message). n.body) g.is) ∙ at in
              let its = next_owed s l g.item g.next is_busy in
              let number : g.item.name.number ≡ c.number =
              (let both : ◌≡◌ {A = Option ℕ} (Some g.item.name.number) (Some c.number) =
              sym its ∙ ap (λ (ch : Channel). (channel_at l ch).owed_busy) (sym on) ∙ o in cc (both)) in
              let named_is : g.item.name ≡ c = λ i. call_named (sym on i) (number i) in
              inl (record {
                message = m;
                reads = reads;
                body = at;
                name = item_name s h fits legal.1 to m g ∙ named_is;
                flag = (gave-mine s (e ∷ h) to bytes m fits legal (inl (refl, refl)) reads).flag;
                index = ap (λ (n : Message). n.index) g.is;
              })

          part : (body : Body) → m.body ≡ body → BusyOf s c (sent from to bytes) ⊎ Owes (looks s (e ∷ h))
          part (bodies.Chunk payload) at = leaves (bodies.Chunk payload) at refl
          part (bodies.Ack a) at = leaves (bodies.Ack a) at refl
          part (bodies.Abort code) at =
              leaves (bodies.Abort code) at
              (channel_keeps (λ (q : ChannelLooks). q.owed_busy) (counted x l) (channel_of g.item.name) (channel_of c)
              (λ q. record q { owed_abort = None }) (λ q. refl))
          part bodies.Busy at = busy at (same_channel (channel_of c) (channel_of g.item.name)) refl
          part (bodies.Challenge given) at =
              leaves (bodies.Challenge given) at
              (channel_keeps (λ (q : ChannelLooks). q.owed_busy) (counted x l) (channel_of g.item.name) (channel_of c)
              (λ q. record q { owed_challenge = false }) (λ q. refl))
          part (bodies.Response given) at =
              leaves (bodies.Response given) at
              (channel_keeps (λ (q : ChannelLooks). q.owed_busy) (counted x l) (channel_of g.item.name) (channel_of c)
              (λ q. record q { owed_response = None }) (λ q. refl))
          part bodies.AckAll at =
              leaves bodies.AckAll at
              (channel_keeps (λ (q : ChannelLooks). q.owed_busy) (counted x l) (channel_of g.item.name) (channel_of c)
              (λ q. record q { owed_ackall = false }) (λ q. refl))

      by : (m : Message) → reading_of bytes ≡ Ok m → GivesStray (looks s h) to m ⊎ GivesItem s (looks s h) to m
          → BusyOf s c (sent from to bytes) ⊎ Owes (looks s (e ∷ h))
      by m reads (inl g) =
          inr (ap (λ (n : Looks). (channel_at n (channel_of c)).owed_busy)
          (stray_leaves s (looks s h) to bytes m g reads) ∙ o)
      by m reads (inr g) = of_item m reads g
