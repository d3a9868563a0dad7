-- What a DATA or an ACK that makes sense makes of the call that it is of, at a node without a key where the call is its
-- channel's latest.
use Rattle.std.proofs.Common.{◌≡◌, ◌&&◌, cond, if◌then◌else◌, not, ℕ, Bool, true, false, List, Option, Some, None}
use Rattle.std.proofs.Common.{option_map, refl, ◌∙◌, ap, sym, subst, is_some}
use Rattle.std.specs.List.{find}
use Rattle.rx_model.specs.declared.answers.Took.{Took}
use Rattle.rx_model.specs.declared.answers.Took.TheVariants as tooks
use Rattle.rx_model.specs.declared.names.CallName.{CallName}
use Rattle.rx_model.specs.declared.names.Host.{Host}
use Rattle.rx_model.specs.Body.{AckBody, Body}
use Rattle.rx_model.specs.Body as bodies
use Rattle.rx_model.specs.Message.{Message}
use Rattle.rx_model.specs.Names.{Channel, Connection, channel_of, connection_of, same_connection}
use Rattle.rx_model.proofs.NameLaws.{name_itself}
use Rattle.rx_rules.specs.After.{challenged, enters, prepared, settled, taken_at, taken_data, taken_heard, taken_with}
use Rattle.rx_rules.specs.After.{taken_stopped, with_first}
use Rattle.rx_rules.specs.CallLooks.{CallLooks, NodeView, after_taken, call_row, is_delivered}
use Rattle.rx_rules.specs.Classes.{Class, null}
use Rattle.rx_rules.specs.Judging.{is_peer, opened}
use Rattle.rx_rules.specs.Life.{Life, after_acks}
use Rattle.rx_rules.specs.Looks.{CallRecord, ChannelLooks, ConnLooks, Looks, call_at, channel_at, conn_at, is_proved}
use Rattle.rx_rules.specs.Looks.{on_call, on_channel}
use Rattle.rx_rules.specs.Records.{entered, used, with_conn}
use Rattle.rx_rules.specs.Sent.{is_strange_ack}
use Rattle.rx_rules.specs.Setup.{Setup, is_client}
use Rattle.rx_rules.specs.Slots.{node_view}
use Rattle.rx_rules.proofs.ConnsLaws.{conn_if, conn_at-on_conn}
use Rattle.rx_history.proofs.Calls.{call-changed}
use Rattle.rx_history.proofs.Events.{call-by, calls-prepared}
use Rattle.rx_history.proofs.Moments.{now-prepared}
use Rattle.rx_between.specs.Agreed.{MakesSense}
use Rattle.rx_between.proofs.Each.EachChange.{taken_alike}
use Rattle.rx_between.proofs.Prepared.{prepared_number}
use Rattle.rx_closing.proofs.Messages.Rows.{IsLast, known_by, opens_none}
use Rattle.rx_history.proofs.Plain.PlainBodies.{IsSent}

-- the life of a call behind a message, by what its end has then
abbrev pub lived : Body → CallLooks → Life → Life
lived (bodies.Ack a) b x = after_acks (is_delivered b) x
lived _ b x = x

-- the call behind a message of it
abbrev pub taken_record : NodeView → Took → Message → CallRecord → CallRecord
taken_record v got m k =
    record k { looks = after_taken v got m k.looks; life = lived m.body (after_taken v got m k.looks) k.life }

-- what is known of the call's record, its channel and its connection behind a message
pub record TookOwn (c : CallName) (l : Looks) (b : CallRecord) (m : Looks) : Type 0 where
  pub there : call_at m c ≡ Some b
  pub number : (channel_at m (channel_of c)).number ≡ (channel_at l (channel_of c)).number
  pub peer : (from : Host) → is_peer from (conn_at m (connection_of c)) ≡ is_peer from (conn_at l (connection_of c))
  pub now : m.now ≡ l.now

-- ---- nothing is challenged without a key

pub unchallenged : (s : Setup) (c : CallName) (l : Looks) → s.class ≡ null → challenged s c l ≡ l
unchallenged s c l open_ =
    ap (λ (q : Class). cond (not (is_client s.kind) && (q.challenges && not (is_proved l (connection_of c))))
    (on_channel (channel_of c) (λ r. record r { owed_challenge = true }) l) l) open_
    ∙ of (not (is_client s.kind))
  where
    of : (b : Bool)
        → cond (b && false) (on_channel (channel_of c) (λ r. record r { owed_challenge = true }) l) l ≡ l
    of true = refl
    of false = refl

-- ---- the call where its connection was prepared

-- a connection that is known is used, and nothing else is done for a message of it
pub known_prepared : (s : Setup) (got : Took) (l : Looks) (x : Connection) → is_some (conn_at l x) ≡ true
    → prepared s got x l ≡ used x l
known_prepared s got l x known = of (enters got)
  where
    of : (b : Bool) → used x (if b then entered s x l else l) ≡ used x l
    of true = ap (λ (b : Bool). used x (cond b l (with_conn s s.kind x l))) known
    of false = refl

-- its peer stays
pub used_peer : (x : Connection) (l : Looks) (from : Host)
    → is_peer from (conn_at (used x l) x) ≡ is_peer from (conn_at l x)
used_peer x l from =
    ap (is_peer from) (conn_at-on_conn x x (λ r. record r { last_use = l.now }) l (λ r. refl)) ∙ of (conn_at l x)
  where
    of : (o : Option ConnLooks)
        → is_peer from (option_map (conn_if x (λ r. record r { last_use = l.now })) o) ≡ is_peer from o
    of None = refl
    of (Some r) = by (same_connection r.connection x)
      where
        by : (b : Bool) → is_peer from (Some (cond b (record r { last_use = l.now }) r)) ≡ is_peer from (Some r)
        by true = refl
        by false = refl

-- look-ups with the same connections have the same channels
channels_same : (m l : Looks) (ch : Channel) → m.conns ≡ l.conns → channel_at m ch ≡ channel_at l ch
channels_same m l ch same = ap (λ (rs : List ConnLooks). channel_at (record l { conns = rs }) ch) same

conn_same : (m l : Looks) (x : Connection) → m.conns ≡ l.conns → conn_at m x ≡ conn_at l x
conn_same m l x same = ap (λ (rs : List ConnLooks). find (λ r. same_connection r.connection x) rs) same

-- ---- by the body of the message

module _ (s : Setup) (l : Looks) (c : CallName) (k : CallRecord) (m : Message) (got : Took) (open_ : s.class ≡ null)
    (last : IsLast l c k) where
  -- with its connection
  abbrev r : Looks
  r = prepared s got (connection_of c) l

  prepared_there : call_at r c ≡ Some k
  prepared_there = call-by c l r (calls-prepared s got (connection_of c) l) ∙ last.there

  abbrev v : NodeView
  v = node_view s l

  -- its end takes the message
  abbrev takes_it : CallRecord → CallRecord
  takes_it j = record j { looks = after_taken (node_view s r) got m j.looks }

  -- behind what its end takes
  at_there : call_at (taken_at s got c m r) c ≡ Some (record k { looks = after_taken v got m k.looks })
  at_there =
      call-changed c c takes_it r (λ j. refl)
      ∙ ap (λ (b : Bool). cond b (option_map takes_it (call_at r c)) (call_at r c)) (name_itself c)
      ∙ ap (λ (o : Option CallRecord). option_map takes_it o) prepared_there
      ∙ ap (λ (n : CallLooks). Some (record k { looks = n }))
      (taken_alike (node_view s r) v got m k.looks refl (now-prepared s got (connection_of c) l))

  -- what is left of the connection
  rest : (n : Looks) (b : CallRecord) → n.conns ≡ r.conns → n.now ≡ r.now → call_at n c ≡ Some b → TookOwn c l b n
  rest n b conns now there =
      record {
        there = there;
        number =
            ap (λ (q : ChannelLooks). q.number) (channels_same n r (channel_of c) conns)
            ∙ prepared_number s got l (channel_of c);
        peer = λ from.
            ap (is_peer from) (conn_same n r (connection_of c) conns)
            ∙ ap (λ (q : Looks). is_peer from (conn_at q (connection_of c)))
            (known_prepared s got l (connection_of c) (known_by l c last.number last.some))
            ∙ used_peer (connection_of c) l from;
        now = now ∙ now-prepared s got (connection_of c) l;
      }

  -- data
  data_leaves : (t : Looks) → t ≡ r
      → TookOwn c l (record k { looks = after_taken v got m k.looks }) (taken_data s got c m t)
  data_leaves t same =
      subst (λ (u : Looks). TookOwn c l (record k { looks = after_taken v got m k.looks }) (taken_data s got c m u))
      (sym same)
      (subst (TookOwn c l (record k { looks = after_taken v got m k.looks }))
      (sym (unchallenged s c (record (taken_at s got c m r) { firsts = with_first got c m.seq r.firsts }) open_))
      (rest (record (taken_at s got c m r) { firsts = with_first got c m.seq r.firsts })
      (record k { looks = after_taken v got m k.looks }) refl refl at_there))

  -- it starts nothing
  opens_same : opened s c r ≡ r
  opens_same = opens_none s r c (prepared_number s got l (channel_of c) ∙ last.number)

  -- an ACK
  settled_there : call_at (on_call c settled (taken_at s got c m r)) c
      ≡ Some (settled (record k { looks = after_taken v got m k.looks }))
  settled_there =
      call-changed c c settled (taken_at s got c m r) (λ j. refl)
      ∙ ap (λ (b : Bool). cond b (option_map settled (call_at (taken_at s got c m r) c))
      (call_at (taken_at s got c m r) c)) (name_itself c)
      ∙ ap (λ (o : Option CallRecord). option_map settled o) at_there

-- ---- by the answer

module _ (s : Setup) (l : Looks) (c : CallName) (k : CallRecord) (m : Message) (open_ : s.class ≡ null)
    (last : IsLast l c k) where
  data_behind : (got : Took) (payload : List ℕ) → m.body ≡ bodies.Chunk payload → MakesSense got
      → TookOwn c l (record k { looks = after_taken (node_view s l) got m k.looks })
      (taken_with s got c m (prepared s got (connection_of c) l))
  data_behind tooks.Kept payload at sense =
      data_leaves s l c k m tooks.Kept open_ last _ (opens_same s l c k m tooks.Kept open_ last)
  data_behind tooks.NoSlot payload at sense =
      data_leaves s l c k m tooks.NoSlot open_ last _ (opens_same s l c k m tooks.NoSlot open_ last)
  data_behind tooks.Repeat payload at sense = data_leaves s l c k m tooks.Repeat open_ last _ refl
  data_behind tooks.Heard payload at sense =
      subst (λ (b : Body). TookOwn c l (record k { looks = after_taken (node_view s l) tooks.Heard m k.looks })
      (taken_heard s c b (taken_at s tooks.Heard c m (prepared s tooks.Heard (connection_of c) l)))) (sym at)
      (rest s l c k m tooks.Heard open_ last
      (taken_at s tooks.Heard c m (prepared s tooks.Heard (connection_of c) l)) _ refl refl
      (at_there s l c k m tooks.Heard open_ last))
  data_behind tooks.Stopped payload at sense =
      subst (λ (b : Body). TookOwn c l k (taken_stopped c b (prepared s tooks.Stopped (connection_of c) l))) (sym at)
      (rest s l c k m tooks.Stopped open_ last (prepared s tooks.Stopped (connection_of c) l) _ refl refl
      (prepared_there s l c k m tooks.Stopped open_ last))
  data_behind _ payload at sense = absurd sense

  -- an ACK that makes sense is heard
  ack_heard : (v : NodeView) (a : AckBody) → MakesSense (call_row v m (bodies.Ack a) k.looks)
      → call_row v m (bodies.Ack a) k.looks ≡ tooks.Heard
  ack_heard v a sense = of (is_strange_ack a.first a.marks k.looks.sent) sense
    where
      of : (b : Bool) → MakesSense (if b then tooks.Strange else tooks.Heard)
          → (if b then tooks.Strange else tooks.Heard) ≡ tooks.Heard
      of true sense = absurd sense
      of false sense = refl

  ack_behind : (a : AckBody) → m.body ≡ bodies.Ack a
      → TookOwn c l (settled (record k { looks = after_taken (node_view s l) tooks.Heard m k.looks }))
      (taken_with s tooks.Heard c m (prepared s tooks.Heard (connection_of c) l))
  ack_behind a at =
      subst (λ (b : Body). TookOwn c l (settled
      (record k { looks = after_taken (node_view s l) tooks.Heard m k.looks }))
      (taken_heard s c b (taken_at s tooks.Heard c m (prepared s tooks.Heard (connection_of c) l)))) (sym at)
      (subst (TookOwn c l (settled (record k { looks = after_taken (node_view s l) tooks.Heard m k.looks })))
      (sym (unchallenged s c (on_call c settled
      (taken_at s tooks.Heard c m (prepared s tooks.Heard (connection_of c) l)))
      open_))
      (rest s l c k m tooks.Heard open_ last
      (on_call c settled (taken_at s tooks.Heard c m (prepared s tooks.Heard (connection_of c) l))) _ refl refl
      (settled_there s l c k m tooks.Heard open_ last)))

  -- of a DATA or an ACK
  pub took_own : (got : Took) → call_row (node_view s l) m m.body k.looks ≡ got → IsSent m.body → MakesSense got
      → TookOwn c l (taken_record (node_view s l) got m k) (taken_with s got c m (prepared s got (connection_of c) l))
  took_own got row stream sense = of m.body refl stream
    where
      lives_as : (body : Body) (b : CallRecord) → m.body ≡ body
          → b ≡ record k {
            looks = after_taken (node_view s l) got m k.looks;
            life = lived body (after_taken (node_view s l) got m k.looks) k.life;
          } → b ≡ taken_record (node_view s l) got m k
      lives_as body b at is =
          is ∙ ap (λ (o : Body). record k {
            looks = after_taken (node_view s l) got m k.looks;
            life = lived o (after_taken (node_view s l) got m k.looks) k.life;
          }) (sym at)

      of : (body : Body) → m.body ≡ body → IsSent body
          → TookOwn c l (taken_record (node_view s l) got m k)
          (taken_with s got c m (prepared s got (connection_of c) l))
      of (bodies.Chunk payload) at stream =
          subst (λ (b : CallRecord). TookOwn c l b (taken_with s got c m (prepared s got (connection_of c) l)))
          (lives_as (bodies.Chunk payload) _ at refl) (data_behind got payload at sense)
      of (bodies.Ack a) at stream =
          (let heard : tooks.Heard ≡ got =
          sym (ack_heard (node_view s l) a
          (subst MakesSense (sym row ∙ ap (λ (b : Body). call_row (node_view s l) m b k.looks) at) sense))
          ∙ sym (ap (λ (b : Body). call_row (node_view s l) m b k.looks) at) ∙ row in
          subst (λ (b : CallRecord). TookOwn c l b (taken_with s got c m (prepared s got (connection_of c) l)))
          (lives_as (bodies.Ack a) _ at refl)
          (subst (λ (g : Took). TookOwn c l (settled (record k { looks = after_taken (node_view s l) g m k.looks }))
          (taken_with s g c m (prepared s g (connection_of c) l))) heard (ack_behind a at)))
      of _ at stream = absurd stream
