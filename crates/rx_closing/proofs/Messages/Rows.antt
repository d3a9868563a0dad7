-- The rows of a DATA or an ACK of a call at a node where the call is its channel's latest, and what it makes of the
-- call.
use Rattle.std.proofs.Common.{◌≡◌, ◌≤◌, ◌&&◌, ◌==◌, cond, if◌then◌else◌, not, nat_lt, ℕ, ℤ, Bool, true, false, Option}
use Rattle.std.proofs.Common.{Some, None, refl, ◌∙◌, ap, sym, arith, is_some}
use Rattle.std.proofs.lemmas.Bool.{le-ltb}
use Rattle.rx_model.specs.declared.answers.Took.{Took}
use Rattle.rx_model.specs.declared.answers.Took.TheVariants as tooks
use Rattle.rx_model.specs.declared.names.CallName.{CallName}
use Rattle.rx_model.specs.declared.names.Host.{Host}
use Rattle.rx_model.specs.declared.wire.TheConstants.{CLIENT_INITIATED}
use Rattle.rx_model.specs.Body.{Body}
use Rattle.rx_model.specs.Body as bodies
use Rattle.rx_model.specs.Message.{Message, has_flag}
use Rattle.rx_model.specs.Names.{channel_of, connection_of}
use Rattle.rx_model.specs.Strays.{is_stray}
use Rattle.rx_model.specs.declared.event.Event.TheVariants as events
use Rattle.rx_model.proofs.NameLaws.{number_itself, same_number}
use Rattle.rx_rules.specs.CallLooks.{call_row}
use Rattle.rx_rules.specs.Judging.{Facts, client_row, facts_of, is_for_clients, is_for_servers, is_peer, live_row}
use Rattle.rx_rules.specs.Judging.{opened, outer_row, own_row, row_at, server_row, side_row, took_named}
use Rattle.rx_rules.specs.Life.{is_active}
use Rattle.rx_rules.specs.Looks.{CallRecord, ConnLooks, Looks, call_at, call_named, channel_at, conn_at, is_call}
use Rattle.rx_rules.specs.Looks.{latest}
use Rattle.rx_rules.specs.Records.{started_later}
use Rattle.rx_rules.specs.Setup.{Client, Kind, Server, Setup, named}
use Rattle.rx_rules.specs.Slots.{node_view}
use Rattle.rx_rules.proofs.ConnsLaws.{channel_number, number_of}
use Rattle.rx_history.proofs.Plain.PlainBodies.{IsSent}

-- ---- rows in front

-- a call that is its channel's latest
pub record IsLast (l : Looks) (c : CallName) (k : CallRecord) : Type 0 where
  pub there : call_at l c ≡ Some k
  pub number : (channel_at l (channel_of c)).number ≡ c.number
  pub some : 1 ≤ c.number

-- ---- what decides its rows

-- its connection has a record
pub known_by : (l : Looks) (c : CallName) → (channel_at l (channel_of c)).number ≡ c.number → 1 ≤ c.number
    → is_some (conn_at l (connection_of c)) ≡ true
known_by l c number some = of (conn_at l (connection_of c)) (sym (channel_number l (channel_of c)) ∙ number)
  where
    of : (o : Option ConnLooks) → number_of o c.chan ≡ c.number → is_some o ≡ true
    of None is = absurd (omega arith)
    of (Some r) is = refl

itself : (n : ℕ) → nat_lt n n ≡ false
itself n = le-ltb n n (omega arith)

-- as the rows in front of a live call ask
pub record PassesRows (f : Facts) : Type 0 where
  pub known : f.is_known ≡ true
  pub stops : f.stops_all ≡ false
  pub has : f.has_number ≡ true
  pub below : f.is_below ≡ false
  pub above : f.is_above ≡ false

some_is_none : (n : ℕ) → 1 ≤ n → not (n == 0) ≡ true
some_is_none n some = of (n == 0) refl
  where
    of : (b : Bool) → (n == 0) ≡ b → not b ≡ true
    of true zero = absurd (let is : n ≡ 0 = same_number n 0 zero in omega arith)
    of false other = refl

pub stray_none : (m : Message) (body : Body) → IsSent body → is_stray m body ≡ false
stray_none m (bodies.Chunk payload) stream = refl
stray_none m (bodies.Ack a) stream = refl
stray_none m _ stream = absurd stream

-- a message of the latest call of its channel, which isn't a stray one, passes the rows in front
pub passes_rows : (s : Setup) (l : Looks) (c : CallName) (m : Message) → (channel_at l (channel_of c)).number ≡ c.number
    → 1 ≤ c.number → m.number ≡ c.number → is_stray m m.body ≡ false → PassesRows (facts_of s l c m)
passes_rows s l c m number some own stray =
    record {
      known = known_by l c number some;
      stops = stray;
      has = ap (λ (n : ℕ). not (n == 0)) own ∙ some_is_none c.number some;
      below =
          ap (λ (n : ℕ). nat_lt m.number n) number ∙ ap (λ (n : ℕ). nat_lt n c.number) own ∙ itself c.number;
      above =
          ap (λ (n : ℕ). nat_lt n m.number) number ∙ ap (λ (n : ℕ). nat_lt c.number n) own ∙ itself c.number;
    }

-- the latest call of its channel is the call
pub latest_is : (l : Looks) (c : CallName) → (channel_at l (channel_of c)).number ≡ c.number
    → latest l (channel_of c) ≡ call_at l c
latest_is l c number = ap (λ (n : ℕ). call_at l (call_named (channel_of c) n)) number

-- where it starts nothing, a message finds the look-ups as they are
pub opens_none : (s : Setup) (l : Looks) (c : CallName) → (channel_at l (channel_of c)).number ≡ c.number
    → opened s c l ≡ l
opens_none s l c number =
    ap (λ (b : Bool). cond b (started_later s c l) l)
    (ap (λ (n : ℕ). nat_lt n c.number) number ∙ itself c.number)

-- ---- the row of an active call is that of its end

-- behind these rows a server judges what is for an active call by its end
pub server_past : (f : Facts) (call : Took) → PassesRows f → f.is_active ≡ true → server_row f call ≡ call
server_past f call p active = rw (p.known, p.stops, p.has, p.below, p.above, active) refl

pub client_past : (f : Facts) (call : Took) → PassesRows f → f.is_active ≡ true → client_row f call ≡ call
client_past f call p active = rw (p.stops, p.has, p.below, p.above, active) refl

side_past : (kind : Kind) (f : Facts) (call : Took) → PassesRows f → f.is_active ≡ true → side_row kind f call ≡ call
side_past (Server service nonces) f call p active = server_past f call p active
side_past (Client host epoch) f call p active = client_past f call p active

live_stream : (s : Setup) (l : Looks) (k : CallRecord) (m : Message) (body : Body) → IsSent body
    → live_row s l k m body ≡ call_row (node_view s l) m m.body k.looks
live_stream s l k m (bodies.Chunk payload) stream = refl
live_stream s l k m (bodies.Ack a) stream = refl
live_stream s l k m _ stream = absurd stream

pub own_took : (s : Setup) (l : Looks) (c : CallName) (k : CallRecord) (m : Message) → IsLast l c k
    → is_active k.life ≡ true → m.number ≡ c.number → IsSent m.body
    → took_named s l c m ≡ call_row (node_view s l) m m.body k.looks
own_took s l c k m last active own stream =
    side_past s.kind (facts_of s l c m) (own_row s (opened s c l) c m)
    (passes_rows s l c m last.number last.some own (stray_none m m.body stream))
    (ap (is_call (λ (r : CallRecord). is_active r.life)) (latest_is l c last.number ∙ last.there) ∙ active)
    ∙ ap (λ (n : Looks). own_row s n c m) (opens_none s l c last.number)
    ∙ ap (λ (o : Option CallRecord). row_at s l o m) last.there
    ∙ live_stream s l k m m.body stream

-- an ABORT stops it
pub abort_took : (s : Setup) (l : Looks) (c : CallName) (k : CallRecord) (m : Message) (code : ℤ) → IsLast l c k
    → is_active k.life ≡ true → m.number ≡ c.number → m.body ≡ bodies.Abort code → took_named s l c m ≡ tooks.Stopped
abort_took s l c k m code last active own at =
    side_past s.kind (facts_of s l c m) (own_row s (opened s c l) c m)
    (passes_rows s l c m last.number last.some own
    (ap (is_stray m) at ∙ ap (λ (n : ℕ). n == 0) own ∙ not_none (c.number == 0) (some_is_none c.number last.some)))
    (ap (is_call (λ (r : CallRecord). is_active r.life)) (latest_is l c last.number ∙ last.there) ∙ active)
    ∙ ap (λ (n : Looks). own_row s n c m) (opens_none s l c last.number)
    ∙ ap (λ (o : Option CallRecord). row_at s l o m) last.there
    ∙ ap (live_row s l k m) at ∙ ap (λ (b : Body). call_row (node_view s l) m b k.looks) at
  where
    not_none : (b : Bool) → not b ≡ true → b ≡ false
    not_none true is = absurd cc
    not_none false is = refl

-- ---- the row of a call that is over

server_past_over : (f : Facts) (call : Took) → PassesRows f → f.is_active ≡ false → server_row f call ≡ tooks.Over
server_past_over f call p active = rw (p.known, p.stops, p.has, p.below, p.above, active) refl

client_past_over : (f : Facts) (call : Took) → PassesRows f → f.is_active ≡ false → client_row f call ≡ tooks.Over
client_past_over f call p active = rw (p.stops, p.has, p.below, p.above, active) refl

side_past_over : (kind : Kind) (f : Facts) (call : Took) → PassesRows f → f.is_active ≡ false
    → side_row kind f call ≡ tooks.Over
side_past_over (Server service nonces) f call p active = server_past_over f call p active
side_past_over (Client host epoch) f call p active = client_past_over f call p active

pub over_took : (s : Setup) (l : Looks) (c : CallName) (k : CallRecord) (m : Message) → IsLast l c k
    → is_active k.life ≡ false → m.number ≡ c.number → is_stray m m.body ≡ false → took_named s l c m ≡ tooks.Over
over_took s l c k m last active own stray =
    side_past_over s.kind (facts_of s l c m) (own_row s (opened s c l) c m)
    (passes_rows s l c m last.number last.some own stray)
    (ap (is_call (λ (r : CallRecord). is_active r.life)) (latest_is l c last.number ∙ last.there) ∙ active)

-- ---- the rows in front

-- a client's DATA or ACK, of the service and the class
pub server_front : (s : Setup) (service nonces : ℕ) (l : Looks) (from : Host) (m : Message)
    → s.kind ≡ Server service nonces → has_flag CLIENT_INITIATED m.flags ≡ true → IsSent m.body
    → m.service ≡ service → m.index ≡ s.class.index → outer_row s s.kind l from m ≡ None
server_front s service nonces l from m kind flag stream serves index =
    ap (λ (k : Kind). outer_row s k l from m) kind
    ∙ of (has_flag CLIENT_INITIATED m.flags) (is_for_servers s.class.challenges m.body) (m.service == service)
    (m.index == s.class.index) flag (for_servers m.body stream)
    (ap (λ (n : ℕ). n == service) serves ∙ number_itself service)
    (ap (λ (n : ℕ). n == s.class.index) index ∙ number_itself s.class.index)
  where
    for_servers : (body : Body) → IsSent body → is_for_servers s.class.challenges body ≡ true
    for_servers (bodies.Chunk payload) stream = refl
    for_servers (bodies.Ack a) stream = refl
    for_servers _ stream = absurd stream

    of : (a b x y : Bool) → a ≡ true → b ≡ true → x ≡ true → y ≡ true
        → (if not a then Some tooks.Foreign else if not b then Some tooks.Strange
        else if not (x && y) then Some tooks.Unserved else None) ≡ None
    of a b x y p q u v = rw (p, q, u, v) refl

module _ (s : Setup) (host : Host) (epoch : ℕ) (l : Looks) (from : Host) (m : Message) (c : CallName) where
  -- a server's message of a kind for clients, on a connection with it, of the class
  pub client_front_by : s.kind ≡ Client host epoch → has_flag CLIENT_INITIATED m.flags ≡ false
      → is_for_clients s.class.challenges m.body ≡ true → named s from m ≡ c
      → is_peer from (conn_at l (connection_of c)) ≡ true → m.index ≡ s.class.index → outer_row s s.kind l from m ≡ None
  client_front_by kind flag for name peer index =
      ap (λ (k : Kind). outer_row s k l from m) kind
      ∙ of (has_flag CLIENT_INITIATED m.flags) (is_peer from (conn_at l (connection_of (named s from m))))
      (m.index == s.class.index) (is_for_clients s.class.challenges m.body) flag
      (ap (λ (n : CallName). is_peer from (conn_at l (connection_of n))) name ∙ peer)
      (ap (λ (n : ℕ). n == s.class.index) index ∙ number_itself s.class.index) for
    where
      of : (a b x y : Bool) → a ≡ false → b ≡ true → x ≡ true → y ≡ true
          → (if a then Some tooks.Foreign else if not b then Some tooks.Strange
          else if not (x && y) then Some tooks.Strange else None) ≡ None
      of a b x y p q u v = rw (p, q, u, v) refl

  -- its DATA or ACK
  pub client_front : s.kind ≡ Client host epoch → has_flag CLIENT_INITIATED m.flags ≡ false → IsSent m.body
      → named s from m ≡ c → is_peer from (conn_at l (connection_of c)) ≡ true → m.index ≡ s.class.index
      → outer_row s s.kind l from m ≡ None
  client_front kind flag stream name peer index =
      client_front_by kind flag (for_clients m.body stream) name peer index
    where
      for_clients : (body : Body) → IsSent body → is_for_clients s.class.challenges body ≡ true
      for_clients (bodies.Chunk payload) stream = refl
      for_clients (bodies.Ack a) stream = refl
      for_clients _ stream = absurd stream
