-- A channel whose latest call is owed an ABORT: what leaves it so; a node that gives nothing has none; and a poll that
-- gives something gives the ABORT, or leaves it owed.
use Rattle.std.proofs.Common.{◌≡◌, ◌≢◌, ◌⊎◌, ◌<◌, ◌≤◌, ◌&&◌, ◌==◌, cond, ℕ, ℤ, zero, suc, Bool, true, false, List, []}
use Rattle.std.proofs.Common.{◌∷◌, Option, Some, None, Ok, option_map, filter, refl, ◌∙◌, ap, sym, subst, inl, inr}
use Rattle.std.proofs.Common.{⊎_elim, is_some, length, arith}
use Rattle.std.proofs.lemmas.Bool.{le-leb}
use Rattle.std.specs.Prelude.{option_and_then, slice_get, unwrap_or}
use Rattle.std.specs.List.{find}
use Rattle.rx_model.specs.declared.event.Event.{Event}
use Rattle.rx_model.specs.declared.event.Event.TheVariants as events
use Rattle.rx_model.specs.declared.names.CallName.{CallName}
use Rattle.rx_model.specs.declared.names.Host.{Host}
use Rattle.rx_model.specs.declared.wire.TheConstants.{CLIENT_INITIATED}
use Rattle.rx_model.specs.Body.{Body}
use Rattle.rx_model.specs.Body as bodies
use Rattle.rx_model.specs.Message.{Message, has_flag}
use Rattle.rx_model.specs.Names.{Channel, Connection, channel_of, channels_of, connection_of, same_channel}
use Rattle.rx_model.specs.Names.{same_connection}
use Rattle.rx_model.specs.Reading.{reading_of}
use Rattle.rx_model.proofs.NameLaws.{channel_is, connection_is, number_itself}
use Rattle.rx_rules.specs.After.{counted, given_body, looks}
use Rattle.rx_rules.specs.Items.{Item, all_channels, channel_items, items, owed_item, poll_answer}
use Rattle.rx_rules.specs.Looks.{ChannelLooks, ConnLooks, Looks, call_named, changed_at, channel_at, conn_at}
use Rattle.rx_rules.specs.Looks.{fresh_channel, latest_name, on_channel, on_conn}
use Rattle.rx_rules.specs.Records.{silenced}
use Rattle.rx_rules.specs.Rules.{Legal}
use Rattle.rx_rules.specs.Setup.{FitsSetup, Setup, is_client, named}
use Rattle.rx_rules.proofs.ConnsLaws.{KeepsConns, channel_number, conn_at-on_conn, conn_if, number_in, number_of}
use Rattle.rx_rules.proofs.FindLaws.{find_passes}
use Rattle.rx_history.specs.Givings.{GivesItem, GivesStray}
use Rattle.rx_history.proofs.Differ.{every_found}
use Rattle.rx_history.proofs.Given.GivingItems.{item_latest, item_leaves, item_name, stray_leaves}
use Rattle.rx_history.proofs.Given.Givings.{poll_gives}
use Rattle.rx_history.proofs.Order.Orderly.{HasFour}
use Rattle.rx_history.proofs.Order.OrderlyHistory.{orderly_history}
use Rattle.rx_law.proofs.World.{gave-mine}
use Rattle.rx_law.specs.Worlds.{Datagram}
use Rattle.rx_between.proofs.Each.EachItem.{In, in_behind, in_filter, in_front, in_items, is_due, least_none}
use Rattle.rx_rounds.proofs.Polls.PolledOut.{polled_out}
use Rattle.rx_rounds.proofs.Two.{sent}

-- ---- what changes of connections and channels leave of a channel

-- the channels of a connection that is looked for
abbrev pub channel_in : Option ConnLooks → ℕ → ChannelLooks
channel_in o n = unwrap_or (option_and_then (λ r. slice_get r.channels n) o) (fresh_channel 0)

changed_keeps : {X : Type 0} (g : ChannelLooks → X) (f : ChannelLooks → ChannelLooks)
    → ((q : ChannelLooks) → g (f q) ≡ g q) → (qs : List ChannelLooks) (n k : ℕ)
    → g (unwrap_or (slice_get (changed_at n f qs) k) (fresh_channel 0))
    ≡ g (unwrap_or (slice_get qs k) (fresh_channel 0))
changed_keeps g f same [] n k = refl
changed_keeps g f same (q ∷ qs) zero zero = same q
changed_keeps g f same (q ∷ qs) zero (suc k) = refl
changed_keeps g f same (q ∷ qs) (suc n) zero = refl
changed_keeps g f same (q ∷ qs) (suc n) (suc k) = changed_keeps g f same qs n k

changed_other : (f : ChannelLooks → ChannelLooks) (qs : List ChannelLooks) (n k : ℕ) → k ≢ n
    → slice_get (changed_at n f qs) k ≡ slice_get qs k
changed_other f [] n k apart = refl
changed_other f (q ∷ qs) zero zero apart = absurd (apart refl)
changed_other f (q ∷ qs) zero (suc k) apart = refl
changed_other f (q ∷ qs) (suc n) zero apart = refl
changed_other f (q ∷ qs) (suc n) (suc k) apart = changed_other f qs n k (λ is. apart (ap suc is))

-- a change of a connection that leaves its channels
pub conn_channel : (x : Connection) (f : ConnLooks → ConnLooks) (l : Looks) (d : Channel) → KeepsConns f
    → ((r : ConnLooks) → (f r).channels ≡ r.channels) → channel_at (on_conn x f l) d ≡ channel_at l d
conn_channel x f l d names same =
    ap (λ (o : Option ConnLooks). channel_in o d.chan) (conn_at-on_conn d.connection x f l names)
    ∙ of (conn_at l d.connection)
  where
    of : (o : Option ConnLooks) → channel_in (option_map (conn_if x f) o) d.chan ≡ channel_in o d.chan
    of None = refl
    of (Some r) = by (same_connection r.connection x)
      where
        by : (b : Bool) → unwrap_or (slice_get (cond b (f r) r).channels d.chan) (fresh_channel 0)
            ≡ unwrap_or (slice_get r.channels d.chan) (fresh_channel 0)
        by true = ap (λ (qs : List ChannelLooks). unwrap_or (slice_get qs d.chan) (fresh_channel 0)) (same r)
        by false = refl

-- what no change of a channel touches
pub channel_keeps : {X : Type 0} (g : ChannelLooks → X) (l : Looks) (ch d : Channel) (f : ChannelLooks → ChannelLooks)
    → ((q : ChannelLooks) → g (f q) ≡ g q) → g (channel_at (on_channel ch f l) d) ≡ g (channel_at l d)
channel_keeps g l ch d f same =
    ap (λ (o : Option ConnLooks). g (channel_in o d.chan))
    (conn_at-on_conn d.connection ch.connection change l (λ r. refl))
    ∙ of (conn_at l d.connection)
  where
    change : ConnLooks → ConnLooks
    change r = record r { channels = changed_at ch.chan f r.channels }

    of : (o : Option ConnLooks)
        → g (channel_in (option_map (conn_if ch.connection change) o) d.chan) ≡ g (channel_in o d.chan)
    of None = refl
    of (Some r) = by (same_connection r.connection ch.connection)
      where
        by : (b : Bool) → g (unwrap_or (slice_get (cond b (change r) r).channels d.chan) (fresh_channel 0))
            ≡ g (unwrap_or (slice_get r.channels d.chan) (fresh_channel 0))
        by true = changed_keeps g f same r.channels ch.chan d.chan
        by false = refl

-- another channel
pub channel_apart : (l : Looks) (ch d : Channel) (f : ChannelLooks → ChannelLooks) → same_channel d ch ≡ false
    → channel_at (on_channel ch f l) d ≡ channel_at l d
channel_apart l ch d f apart =
    ap (λ (o : Option ConnLooks). channel_in o d.chan) (conn_at-on_conn d.connection ch.connection change l (λ r. refl))
    ∙ of (conn_at l d.connection) refl
  where
    change : ConnLooks → ConnLooks
    change r = record r { channels = changed_at ch.chan f r.channels }

    of : (o : Option ConnLooks) → conn_at l d.connection ≡ o
        → channel_in (option_map (conn_if ch.connection change) o) d.chan ≡ channel_in o d.chan
    of None there = refl
    of (Some r) there = by (same_connection r.connection ch.connection) refl
      where
        own : r.connection ≡ d.connection
        own = connection_is r.connection d.connection
            (find_passes (λ (q : ConnLooks). same_connection q.connection d.connection) l.conns r there)

        by : (b : Bool) → same_connection r.connection ch.connection ≡ b
            → unwrap_or (slice_get (cond b (change r) r).channels d.chan) (fresh_channel 0)
            ≡ unwrap_or (slice_get r.channels d.chan) (fresh_channel 0)
        by false other = refl
        by true same =
            (let same_d : same_connection d.connection ch.connection ≡ true =
            ap (λ (x : Connection). same_connection x ch.connection) (sym own) ∙ same in
            let chans : (d.chan == ch.chan) ≡ false =
            sym (ap (λ (b : Bool). b && (d.chan == ch.chan)) same_d) ∙ apart in
            ap (λ (o : Option ChannelLooks). unwrap_or o (fresh_channel 0))
            (changed_other f r.channels ch.chan d.chan (λ is.
            (let yes : (d.chan == ch.chan) ≡ true = ap (λ (n : ℕ). n == ch.chan) is ∙ number_itself ch.chan in
            let never : true ≡ false = sym yes ∙ chans in cc))))

-- ---- a channel that owes an ABORT

-- the channel of a call, which is its latest, owes an ABORT
pub record Owing (c : CallName) (l : Looks) : Type 0 where
  pub owed : is_some (channel_at l (channel_of c)).owed_abort ≡ true
  pub number : (channel_at l (channel_of c)).number ≡ c.number
  pub some : 1 ≤ c.number

pub owing_same : (c : CallName) (l m : Looks) → channel_at m (channel_of c) ≡ channel_at l (channel_of c) → Owing c l
    → Owing c m
owing_same c l m same o =
    record {
      owed = ap (λ (q : ChannelLooks). is_some q.owed_abort) same ∙ o.owed;
      number = ap (λ (q : ChannelLooks). q.number) same ∙ o.number;
      some = o.some;
    }

-- a change of a channel that leaves both
pub owing_kept : (c : CallName) (ch : Channel) (f : ChannelLooks → ChannelLooks) (l : Looks)
    → ((q : ChannelLooks) → is_some (f q).owed_abort ≡ is_some q.owed_abort)
    → ((q : ChannelLooks) → (f q).number ≡ q.number) → Owing c l → Owing c (on_channel ch f l)
owing_kept c ch f l owes numbers o =
    record {
      owed = channel_keeps (λ (q : ChannelLooks). is_some q.owed_abort) l ch (channel_of c) f owes ∙ o.owed;
      number = channel_keeps (λ (q : ChannelLooks). q.number) l ch (channel_of c) f numbers ∙ o.number;
      some = o.some;
    }

-- what was given is no ABORT of the channel
owing_given : (c d : CallName) (m : Message) (body : Body) (l : Looks)
    → ((code : ℤ) → body ≡ bodies.Abort code → same_channel (channel_of c) (channel_of d) ≡ false) → Owing c l
    → Owing c (given_body d m body l)
owing_given c d m (bodies.Chunk payload) l other o = record { owed = o.owed; number = o.number; some = o.some }
owing_given c d m (bodies.Ack a) l other o = record { owed = o.owed; number = o.number; some = o.some }
owing_given c d m (bodies.Abort code) l other o =
    owing_same c l (on_channel (channel_of d) (λ q. record q { owed_abort = None }) l)
    (channel_apart l (channel_of d) (channel_of c) (λ q. record q { owed_abort = None }) (other code refl)) o
owing_given c d m bodies.Busy l other o =
    owing_kept c (channel_of d) (λ q. record q { owed_busy = None }) l (λ q. refl) (λ q. refl) o
owing_given c d m (bodies.Challenge bytes) l other o =
    owing_kept c (channel_of d) (λ q. record q { owed_challenge = false }) l (λ q. refl) (λ q. refl) o
owing_given c d m (bodies.Response bytes) l other o =
    owing_kept c (channel_of d) (λ q. record q { owed_response = None }) l (λ q. refl) (λ q. refl) o
owing_given c d m bodies.AckAll l other o =
    owing_kept c (channel_of d) (λ q. record q { owed_ackall = false }) l (λ q. refl) (λ q. refl) o

-- ---- its item

-- what is found in a list is in it
pub found_in : {X : Type 0} (p : X → Bool) (xs : List X) (x : X) → find p xs ≡ Some x → In x xs
found_in p [] x found = absurd cc
found_in {X = X} p (y ∷ ys) x found =
    (elim (p y) as (λ b. cond b (Some y) (find p ys) ≡ Some x → In x (y ∷ ys)) [
      | true ↦ λ is. (let same : y ≡ x = cc (is) in inl (sym same))
      | false ↦ λ rest. inr (found_in p ys x rest)
    ]) found

pub in_four : (x : Connection) (n : ℕ) → n < 4 → In (record { connection = x; chan = n }) (channels_of x)
in_four x zero low = inl refl
in_four x (suc zero) low = inr (inl refl)
in_four x (suc (suc zero)) low = inr (inr (inl refl))
in_four x (suc (suc (suc zero))) low = inr (inr (inr (inl refl)))
in_four x (suc (suc (suc (suc n)))) low = absurd (omega arith)

-- each of the four channels of a connection is among all channels
pub in_all : (rs : List ConnLooks) (r : ConnLooks) (n : ℕ) → n < 4 → In r rs
    → In (record { connection = r.connection; chan = n }) (all_channels rs)
in_all [] r n low there = absurd there
in_all (q ∷ rs) r n low (inl same) =
    in_front (record { connection = r.connection; chan = n }) (channels_of q.connection) (all_channels rs)
    (subst (λ (x : Connection). In (record { connection = r.connection; chan = n }) (channels_of x))
    (ap (λ (p : ConnLooks). p.connection) same) (in_four r.connection n low))
in_all (q ∷ rs) r n low (inr rest) =
    in_behind (record { connection = r.connection; chan = n }) (channels_of q.connection) (all_channels rs)
    (in_all rs r n low rest)

-- a place of a list with a number is one of its places
pub low_slice : (qs : List ChannelLooks) (n : ℕ) → 1 ≤ number_in qs n → n < length qs
low_slice [] n some = absurd (omega arith)
low_slice (q ∷ qs) zero some = omega arith
low_slice (q ∷ qs) (suc n) some = (let low = low_slice qs n some in omega arith)

-- its channel is one of the node's
owing_known : (s : Setup) (h : List Event) (c : CallName) → Legal s h → Owing c (looks s h)
    → In (channel_of c) (all_channels (looks s h).conns)
owing_known s h c legal o =
    of (conn_at (looks s h) (connection_of c)) refl (sym (channel_number (looks s h) (channel_of c)) ∙ o.number)
  where
    of : (q : Option ConnLooks) → conn_at (looks s h) (connection_of c) ≡ q → number_of q c.chan ≡ c.number
        → In (channel_of c) (all_channels (looks s h).conns)
    of None there is = absurd (let some = o.some in omega arith)
    of (Some r) there is =
        (let own : r.connection ≡ connection_of c =
        connection_is r.connection (connection_of c)
        (find_passes (λ (p : ConnLooks). same_connection p.connection (connection_of c)) (looks s h).conns r there) in
        let four : HasFour r =
        every_found HasFour (λ (p : ConnLooks). same_connection p.connection (connection_of c)) (looks s h).conns r
        (orderly_history s h legal).conns.fours there in
        let low : c.chan < 4 =
        (let some = o.some in let slice = low_slice r.channels c.chan (subst (λ (n : ℕ). 1 ≤ n) (sym is) some) in
        omega arith) in
        subst (λ (x : Connection). In (record { connection = x; chan = c.chan }) (all_channels (looks s h).conns)) own
        (in_all (looks s h).conns r c.chan low
        (found_in (λ (p : ConnLooks). same_connection p.connection (connection_of c)) (looks s h).conns r there)))

-- so a node that gives nothing owes none
pub owes_none : (s : Setup) (h : List Event) (c : CallName) → Legal s h → poll_answer s (looks s h) ≡ None
    → Owing c (looks s h) → ⊥
owes_none s h c legal none o = of (channel_at l ch).owed_abort refl o.owed
  where
    l : Looks
    l = silenced (looks s h)

    ch : Channel
    ch = channel_of c

    of : (owed : Option ℤ) → (channel_at l ch).owed_abort ≡ owed → is_some owed ≡ true → ⊥
    of None is some = absurd cc
    of (Some code) is some =
        let i : Item = record {
          rank = 0;
          name = call_named ch (channel_at l ch).number;
          seq = 0;
          flags = 0;
          body = bodies.Abort code;
        } in
        let own : In i (channel_items s l ch) =
        in_front i
        (owed_item (call_named ch (channel_at l ch).number) (option_map bodies.Abort (channel_at l ch).owed_abort)) _
        (subst (λ (q : Option ℤ). In i (owed_item (call_named ch (channel_at l ch).number) (option_map bodies.Abort q)))
        (sym is) (inl refl)) in
        let there : In i (items s l) = in_items s l i ch (all_channels l.conns) (owing_known s h c legal o) own in
        let due : In i (filter (is_due l) (items s l)) =
        in_filter (is_due l) i (items s l) there (le-leb 0 l.now (omega arith)) in
        subst (λ (xs : List Item). In i xs)
        (least_none (λ (j : Item). j.rank) (filter (is_due l) (items s l)) (polled_out s (looks s h) none).items) due

-- ---- a poll

-- an ABORT of a call, as a node gives it
pub record AbortOf (s : Setup) (c : CallName) (d : Datagram) : Type 0 where
  pub message : Message
  pub reads : reading_of d.bytes ≡ Ok message
  pub code : ℤ
  pub body : message.body ≡ bodies.Abort code
  pub name : named s d.to message ≡ c
  pub flag : has_flag CLIENT_INITIATED message.flags ≡ is_client s.kind
  pub index : message.index ≡ s.class.index

-- where one is owed and a poll gives something, it is the ABORT, or that is owed still
pub poll_owes : (s : Setup) (h : List Event) (c : CallName) (from to : Host) (bytes : List ℕ) → FitsSetup s
    → Legal s (events.Polled (Some (to, bytes)) ∷ h) → poll_answer s (looks s h) ≡ Some (to, bytes)
    → Owing c (looks s h)
    → AbortOf s c (sent from to bytes) ⊎ Owing c (looks s (events.Polled (Some (to, bytes)) ∷ h))
poll_owes s h c from to bytes fits legal answer o =
    (let p = poll_gives s h fits legal.1 to bytes answer in by p.message p.read p.owed)
  where
    l : Looks
    l = silenced (looks s h)

    flagged : (m : Message) → reading_of bytes ≡ Ok m → has_flag CLIENT_INITIATED m.flags ≡ is_client s.kind
    flagged m reads =
        (gave-mine s (events.Polled (Some (to, bytes)) ∷ h) to bytes m fits legal (inl (refl, refl)) reads).flag

    of_item : (m : Message) → reading_of bytes ≡ Ok m → (g : GivesItem s (looks s h) to m) → (body : Body)
        → m.body ≡ body
        → AbortOf s c (sent from to bytes) ⊎ Owing c (looks s (events.Polled (Some (to, bytes)) ∷ h))
    of_item m reads g body at = part body at
      where
        x : Connection
        x = connection_of g.item.name

        behind : looks s (events.Polled (Some (to, bytes)) ∷ h) ≡ given_body g.item.name m m.body (counted x l)
        behind = item_leaves s h fits legal.1 to bytes m g reads

        counts : Owing c (counted x l)
        counts =
            owing_same c l (counted x l)
            (conn_channel x (λ (r : ConnLooks). record r { given = suc r.given; last_use = l.now }) l (channel_of c)
            (λ r. refl) (λ r. refl))
            (record { owed = o.owed; number = o.number; some = o.some })

        keeps : ((code : ℤ) → m.body ≡ bodies.Abort code → same_channel (channel_of c) (channel_of g.item.name) ≡ false)
            → AbortOf s c (sent from to bytes) ⊎ Owing c (looks s (events.Polled (Some (to, bytes)) ∷ h))
        keeps other =
            inr (subst (Owing c) (sym behind) (owing_given c g.item.name m m.body (counted x l) other counts))

        aborts : (code : ℤ) → m.body ≡ bodies.Abort code → (b : Bool)
            → same_channel (channel_of c) (channel_of g.item.name) ≡ b
            → AbortOf s c (sent from to bytes) ⊎ Owing c (looks s (events.Polled (Some (to, bytes)) ∷ h))
        aborts code at false other = keeps (λ told is. other)
        aborts code at true same =
            let channel : channel_of c ≡ channel_of g.item.name =
            channel_is (channel_of c) (channel_of g.item.name) same in
            let named_is : g.item.name ≡ c =
            ⊎_elim
            (λ (busy : g.item.body ≡ bodies.Busy).
            absurd (let never : bodies.Abort code ≡ bodies.Busy =
            sym at ∙ ap (λ (n : Message). n.body) g.is ∙ busy in
            (let none : ⊥ = cc in none)))
            (λ (last : g.item.name ≡ latest_name (looks s h) (channel_of g.item.name)).
            last ∙ ap (latest_name (looks s h)) (sym channel)
            ∙ ap (call_named (channel_of c)) o.number)
            (item_latest s h fits legal.1 to m g) in
            inl (record {
              message = m;
              reads = reads;
              code = code;
              body = at;
              name = item_name s h fits legal.1 to m g ∙ named_is;
              flag = flagged m reads;
              index = ap (λ (n : Message). n.index) g.is;
            })

        other_body : (b : Body) → m.body ≡ b → ((code : ℤ) → b ≡ bodies.Abort code → ⊥)
            → AbortOf s c (sent from to bytes) ⊎ Owing c (looks s (events.Polled (Some (to, bytes)) ∷ h))
        other_body b at none = keeps (λ code is. absurd (none code (sym at ∙ is)))

        part : (b : Body) → m.body ≡ b
            → AbortOf s c (sent from to bytes) ⊎ Owing c (looks s (events.Polled (Some (to, bytes)) ∷ h))
        part (bodies.Abort code) at =
            aborts code at (same_channel (channel_of c) (channel_of g.item.name)) refl
        part (bodies.Chunk payload) at = other_body (bodies.Chunk payload) at (λ code is. cc)
        part bodies.Busy at = other_body bodies.Busy at (λ code is. cc)
        part (bodies.Ack a) at = other_body (bodies.Ack a) at (λ code is. cc)
        part bodies.AckAll at = other_body bodies.AckAll at (λ code is. cc)
        part (bodies.Challenge given) at = other_body (bodies.Challenge given) at (λ code is. cc)
        part (bodies.Response given) at = other_body (bodies.Response given) at (λ code is. cc)

    by : (m : Message) → reading_of bytes ≡ Ok m → GivesStray (looks s h) to m ⊎ GivesItem s (looks s h) to m
        → AbortOf s c (sent from to bytes) ⊎ Owing c (looks s (events.Polled (Some (to, bytes)) ∷ h))
    by m reads (inl g) =
        inr (subst (Owing c) (sym (stray_leaves s (looks s h) to bytes m g reads))
        (record { owed = o.owed; number = o.number; some = o.some }))
    by m reads (inr g) = of_item m reads g m.body refl
