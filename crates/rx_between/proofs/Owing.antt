-- Changes of a node's records by which no channel comes to owe an ACKALL.
use Rattle.std.proofs.Common.{◌≡◌, ◌&&◌, ◌==◌, ℕ, ℤ, zero, suc, cond, if◌then◌else◌, not, Bool, true, false, List, []}
use Rattle.std.proofs.Common.{◌∷◌, drop}
use Rattle.std.proofs.Common.{Option, Some, None, option_map, Result, Ok, Err, refl, ◌∙◌, ap, sym, subst}
use Rattle.std.specs.List.{find}
use Rattle.std.specs.Prelude.{option_and_then, slice_get, unwrap_or}
use Rattle.rx_model.specs.declared.answers.BadMsg.{BadMsg}
use Rattle.rx_model.specs.declared.answers.ServeRefused.{ServeRefused}
use Rattle.rx_model.specs.declared.answers.ServeRefused.TheVariants as refusals
use Rattle.rx_model.specs.declared.answers.Took.{Took}
use Rattle.rx_model.specs.declared.answers.Took.TheVariants as tooks
use Rattle.rx_model.specs.declared.names.CallName.{CallName}
use Rattle.rx_model.specs.declared.names.Host.{Host}
use Rattle.rx_model.specs.declared.wire.TheConstants.{RX_CALL_DEAD, RX_PROTOCOL_ERROR}
use Rattle.rx_model.specs.Body.{Body}
use Rattle.rx_model.specs.Body as bodies
use Rattle.rx_model.specs.Message.{Message}
use Rattle.rx_model.specs.Names.{Channel, Connection, channel_of, connection_of, same_connection}
use Rattle.rx_rules.specs.After.{challenged, counted, finish_done, given_body, given_by, given_message, is_zero}
use Rattle.rx_rules.specs.After.{owing_abort}
use Rattle.rx_rules.specs.After.{owing_busy, settled, stopped_all, taken_at, taken_data}
use Rattle.rx_rules.specs.After.{taken_heard, taken_stopped, taken_unserved, taken_with}
use Rattle.rx_rules.specs.After.{turned_away, with_first}
use Rattle.rx_rules.specs.CallLooks.{after_shut}
use Rattle.rx_rules.specs.Judging.{opened}
use Rattle.rx_rules.specs.Life.{Life, after_code, after_finish, after_later}
use Rattle.rx_rules.specs.Life as lives
use Rattle.rx_rules.specs.Looks.{ChannelLooks, ConnLooks, Looks, changed_at, channel_at, conn_at}
use Rattle.rx_rules.specs.Looks.{fresh_channel, is_proved, latest_name, on_call, on_channel, on_conn, on_life, on_looks}
use Rattle.rx_model.specs.Reading.{reading_of}
use Rattle.rx_model.specs.Strays.{is_stray}
use Rattle.rx_rules.specs.Records.{silenced, started, started_later, used}
use Rattle.rx_rules.specs.Setup.{Setup, is_client, named}
use Rattle.rx_rules.proofs.ConnsLaws.{KeepsConns, conn_if, conn_at-on_conn, number_in, number_of}
use Rattle.rx_rules.proofs.EveryLaws.{Every}
use Rattle.rx_history.proofs.Differ.{every_map}

-- the n-th channel owes an ACKALL
abbrev pub owes_in : List ChannelLooks → ℕ → Bool
owes_in qs n = (unwrap_or (slice_get qs n) (fresh_channel 0)).owed_ackall

-- the same of a connection that is looked for
abbrev pub owes_of : Option ConnLooks → ℕ → Bool
owes_of None n = false
owes_of (Some r) n = owes_in r.channels n

-- it is the channel's
pub channel_owes : (l : Looks) (ch : Channel)
    → (channel_at l ch).owed_ackall ≡ owes_of (conn_at l ch.connection) ch.chan
channel_owes l ch = of (conn_at l ch.connection)
  where
    of : (o : Option ConnLooks)
        → (unwrap_or (option_and_then (λ r. slice_get r.channels ch.chan) o) (fresh_channel 0)).owed_ackall
        ≡ owes_of o ch.chan
    of None = refl
    of (Some r) = refl

-- no channel of a record does
abbrev pub OwesNone : ConnLooks → Type 0
OwesNone r = (n : ℕ) → owes_in r.channels n ≡ false

-- none comes to owe one, and where one is owed the channel has the same call
abbrev pub Quits : List ChannelLooks → List ChannelLooks → Type 0
Quits qs rs = (n : ℕ) → owes_in rs n ≡ true → (owes_in qs n ≡ true) × (number_in rs n ≡ number_in qs n)

-- what a change leaves of a connection, and of all records
pub record Calm (y : Connection) (l m : Looks) : Type 0 where
  pub here :
      (n : ℕ) → owes_of (conn_at m y) n ≡ true
      → (owes_of (conn_at l y) n ≡ true) × (number_of (conn_at m y) n ≡ number_of (conn_at l y) n)
  pub none : Every OwesNone l.conns → Every OwesNone m.conns

-- a change that leaves the connections
pub calm_same : (y : Connection) (l m : Looks) → m.conns ≡ l.conns → Calm y l m
calm_same y l m same =
    record {
      here = λ n is. (
          let at : conn_at m y ≡ conn_at l y =
          ap (λ (rs : List ConnLooks). find (λ r. same_connection r.connection y) rs) same in
          (ap (λ (o : Option ConnLooks). owes_of o n) (sym at) ∙ is, ap (λ (o : Option ConnLooks). number_of o n) at));
      none = λ all. subst (λ (rs : List ConnLooks). Every OwesNone rs) (sym same) all;
    }

-- one behind the other
pub calm_trans : (y : Connection) (l m n : Looks) → Calm y l m → Calm y m n → Calm y l n
calm_trans y l m n p q =
    record {
      here = λ k is. (let b = q.here k is in let a = p.here k b.0 in (a.0, b.1 ∙ a.1));
      none = λ all. q.none (p.none all);
    }

-- by a test
pub calm_if : (y : Connection) (test : Bool) (l m : Looks) → Calm y l m → Calm y l (if test then m else l)
calm_if y true l m calm = calm
calm_if y false l m calm = calm_same y l l refl

quits-none : (qs rs : List ChannelLooks) → Quits qs rs → ((n : ℕ) → owes_in qs n ≡ false) → (n : ℕ)
    → owes_in rs n ≡ false
quits-none qs rs quits none n =
    (elim (owes_in rs n) as (λ b. owes_in rs n ≡ b → b ≡ false) [
      | true ↦ λ owes. absurd (let was = (quits n owes).0 in let no' = none n in cc (was, no'))
      | false ↦ λ free. refl
    ]) refl

-- a change of the records of a connection
pub calm_conn : (y x : Connection) (f : ConnLooks → ConnLooks) (l : Looks) → KeepsConns f
    → ((r : ConnLooks) → Quits r.channels (f r).channels) → Calm y l (on_conn x f l)
calm_conn y x f l names quits =
    record {
      here = λ n is. (
          let at : conn_at (on_conn x f l) y ≡ option_map (conn_if x f) (conn_at l y) = conn_at-on_conn y x f l names in
          let c = of (conn_at l y) n (ap (λ (o : Option ConnLooks). owes_of o n) (sym at) ∙ is) in
          (c.0, ap (λ (o : Option ConnLooks). number_of o n) at ∙ c.1));
      none = λ all. every_map OwesNone OwesNone (conn_if x f) l.conns
          (λ r none. each (same_connection r.connection x) r none) all;
    }
  where
    one : (b : Bool) (r : ConnLooks) (n : ℕ) → owes_in (cond b (f r) r).channels n ≡ true
        → (owes_in r.channels n ≡ true) × (number_in (cond b (f r) r).channels n ≡ number_in r.channels n)
    one true r n is = quits r n is
    one false r n is = (is, refl)

    of : (o : Option ConnLooks) (n : ℕ) → owes_of (option_map (conn_if x f) o) n ≡ true
        → (owes_of o n ≡ true) × (number_of (option_map (conn_if x f) o) n ≡ number_of o n)
    of None n is = absurd cc
    of (Some r) n is = one (same_connection r.connection x) r n is

    each : (b : Bool) (r : ConnLooks) → OwesNone r → OwesNone (cond b (f r) r)
    each true r none = quits-none r.channels (f r).channels (quits r) none
    each false r none = none

quits-same : (qs : List ChannelLooks) → Quits qs qs
quits-same qs n is = (is, refl)

-- a change of one channel
abbrev pub Clears : (ChannelLooks → ChannelLooks) → Type 0
Clears f = (q : ChannelLooks) → (f q).owed_ackall ≡ true → (q.owed_ackall ≡ true) × ((f q).number ≡ q.number)

quits-changed : (qs : List ChannelLooks) (m : ℕ) (f : ChannelLooks → ChannelLooks) → Clears f
    → Quits qs (changed_at m f qs)
quits-changed [] m f clears n is = (is, refl)
quits-changed (q ∷ qs) zero f clears zero is = clears q is
quits-changed (q ∷ qs) zero f clears (suc n) is = (is, refl)
quits-changed (q ∷ qs) (suc m) f clears zero is = (is, refl)
quits-changed (q ∷ qs) (suc m) f clears (suc n) is = quits-changed qs m f clears n is

-- what a channel owes beside it
pub calm_channel : (y : Connection) (ch : Channel) (f : ChannelLooks → ChannelLooks) (l : Looks) → Clears f
    → Calm y l (on_channel ch f l)
calm_channel y ch f l clears =
    calm_conn y ch.connection (λ r. record r { channels = changed_at ch.chan f r.channels }) l (λ r. refl)
    (λ r. quits-changed r.channels ch.chan f clears)

-- ---- a taking

pub calm_used : (y x : Connection) (l : Looks) → Calm y l (used x l)
calm_used y x l = calm_conn y x (λ r. record r { last_use = l.now }) l (λ r. refl) (λ r. quits-same r.channels)

calm-challenged : (s : Setup) (y : Connection) (d : CallName) (l : Looks) → Calm y l (challenged s d l)
calm-challenged s y d l =
    calm_if y (not (is_client s.kind) && (s.class.challenges && not (is_proved l (connection_of d)))) l
    (on_channel (channel_of d) (λ q. record q { owed_challenge = true }) l)
    (calm_channel y (channel_of d) (λ q. record q { owed_challenge = true }) l (λ q is. (is, refl)))

-- a call starts: its channel owes nothing
pub calm_started : (s : Setup) (life : Life) (y : Connection) (d : CallName) (l : Looks)
    → Calm y l (started s life d l)
calm_started s life y d l =
    let c = calm_channel y (channel_of d) (λ q. fresh_channel d.number) l (λ q is. absurd cc) in
    record { here = c.here; none = c.none }

calm-opened : (s : Setup) (y : Connection) (d : CallName) (l : Looks) → Calm y l (opened s d l)
calm-opened s y d l =
    let ended : Looks = on_life (latest_name l (channel_of d)) after_later l in
    calm_if y _ l (started_later s d l)
    (calm_trans y l ended (started_later s d l) (calm_same y l ended refl)
    (calm_started s lives.Waiting y d ended))

calm-data : (s : Setup) (got : Took) (y : Connection) (d : CallName) (m : Message) (l : Looks)
    → Calm y l (taken_data s got d m l)
calm-data s got y d m l =
    let behind : Looks = record (taken_at s got d m l) { firsts = with_first got d m.seq l.firsts } in
    calm_trans y l behind _ (calm_same y l behind refl) (calm-challenged s y d behind)

calm-heard : (s : Setup) (y : Connection) (d : CallName) (body : Body) (l : Looks) → Calm y l (taken_heard s d body l)
calm-heard s y d (bodies.Ack a) l =
    calm_trans y l (on_call d settled l) _ (calm_same y l (on_call d settled l) refl)
    (calm-challenged s y d (on_call d settled l))
calm-heard s y d bodies.AckAll l = calm_same y l (on_call d settled l) refl
calm-heard s y d (bodies.Response bytes) l =
    calm_conn y (connection_of d) (λ r. record r { proved = true }) l (λ r. refl) (λ r. quits-same r.channels)
calm-heard s y d (bodies.Challenge bytes) l =
    calm_channel y (channel_of d) (λ q. record q { owed_response = s.class.respond d bytes }) l (λ q is. (is, refl))
calm-heard s y d _ l = calm_same y l l refl

abort-clears : (code : Option ℤ) → Clears (owing_abort code)
abort-clears None q is = (is, refl)
abort-clears (Some code) q is = (is, refl)

calm-stopped : (y : Connection) (d : CallName) (body : Body) (l : Looks) → Calm y l (taken_stopped d body l)
calm-stopped y d (bodies.Abort code) l = of (d.number == 0)
  where
    of : (b : Bool) → Calm y l (if b then stopped_all (connection_of d) code l else on_life d (after_code code) l)
    of true = calm_same y l (stopped_all (connection_of d) code l) refl
    of false = calm_same y l (on_life d (after_code code) l) refl
calm-stopped y d (bodies.Response bytes) l =
    let stopped : Looks = on_life d (after_code RX_PROTOCOL_ERROR) l in
    calm_trans y l stopped _ (calm_same y l stopped refl)
    (calm_channel y (channel_of d) (owing_abort (Some RX_PROTOCOL_ERROR)) stopped
    (abort-clears (Some RX_PROTOCOL_ERROR)))
calm-stopped y d _ l = calm_same y l l refl

calm-busy : (y : Connection) (d : CallName) (l : Looks)
    → Calm y l (on_channel (channel_of d) (owing_busy d.number) l)
calm-busy y d l = calm_channel y (channel_of d) (owing_busy d.number) l (λ q is. (is, refl))

-- any other answer
pub calm_with : (s : Setup) (got : Took) (y : Connection) (d : CallName) (m : Message) (l : Looks)
    → (got ≡ tooks.Over → ⊥) → Calm y l (taken_with s got d m l)
calm_with s tooks.Kept y d m l other =
    calm_trans y l (opened s d l) _ (calm-opened s y d l) (calm-data s tooks.Kept y d m (opened s d l))
calm_with s tooks.NoSlot y d m l other =
    calm_trans y l (opened s d l) _ (calm-opened s y d l) (calm-data s tooks.NoSlot y d m (opened s d l))
calm_with s tooks.Repeat y d m l other = calm-data s tooks.Repeat y d m l
calm_with s tooks.Beyond y d m l other = calm-data s tooks.Beyond y d m l
calm_with s tooks.Clash y d m l other = calm-data s tooks.Clash y d m l
calm_with s tooks.Heard y d m l other =
    calm_trans y l (taken_at s tooks.Heard d m l) _ (calm_same y l (taken_at s tooks.Heard d m l) refl)
    (calm-heard s y d m.body (taken_at s tooks.Heard d m l))
calm_with s tooks.Stopped y d m l other = calm-stopped y d m.body l
calm_with s tooks.Busy y d m l other =
    let told : Looks = on_life (latest_name l (channel_of d)) (after_code RX_CALL_DEAD) l in
    calm_trans y l told _ (calm_same y l told refl) (calm-busy y d told)
calm_with s tooks.NoRoom y d m l other = calm-busy y d l
calm_with s tooks.Over y d m l other = absurd (other refl)
calm_with s _ y d m l other = calm_same y l l refl

-- a message that a row in front answers
pub calm_turned : (y : Connection) (row : Took) (from : Host) (m : Message) (l : Looks)
    → Calm y l (turned_away row from m l)
calm_turned y tooks.Unserved from m l = of m.body
  where
    of : (body : Body) → Calm y l (taken_unserved from m body l)
    of (bodies.Chunk payload) = calm_same y l (taken_unserved from m (bodies.Chunk payload) l) refl
    of _ = calm_same y l l refl
calm_turned y _ from m l = calm_same y l l refl

-- ---- givings and the application's calls

-- one datagram more was given on a connection
pub calm_counted : (y x : Connection) (l : Looks) → Calm y l (counted x l)
calm_counted y x l =
    calm_conn y x (λ r. record r { given = suc r.given; last_use = l.now }) l (λ r. refl)
    (λ r. quits-same r.channels)

-- what was owed is given
pub calm_body : (y : Connection) (d : CallName) (m : Message) (body : Body) (l : Looks)
    → Calm y l (given_body d m body l)
calm_body y d m (bodies.Chunk payload) l = calm_same y l _ refl
calm_body y d m (bodies.Ack a) l = calm_same y l _ refl
calm_body y d m (bodies.Abort code) l =
    calm_channel y (channel_of d) (λ q. record q { owed_abort = None }) l (λ q is. (is, refl))
calm_body y d m bodies.Busy l =
    calm_channel y (channel_of d) (λ q. record q { owed_busy = None }) l (λ q is. (is, refl))
calm_body y d m (bodies.Challenge bytes) l =
    calm_channel y (channel_of d) (λ q. record q { owed_challenge = false }) l (λ q is. (is, refl))
calm_body y d m (bodies.Response bytes) l =
    calm_channel y (channel_of d) (λ q. record q { owed_response = None }) l (λ q is. (is, refl))
calm_body y d m bodies.AckAll l =
    calm_channel y (channel_of d) (λ q. record q { owed_ackall = false }) l (λ q is. absurd cc)

-- an ABORT is owed
pub calm_abort : (y : Connection) (d : CallName) (code : ℤ) (l : Looks)
    → Calm y l (on_channel (channel_of d) (owing_abort (Some code)) l)
calm_abort y d code l = calm_channel y (channel_of d) (owing_abort (Some code)) l (abort-clears (Some code))

-- a finish
pub calm_finish : (y : Connection) (d : CallName) (code : ℤ) (got : Result (Unit {0}) ServeRefused) (l : Looks)
    → Calm y l (finish_done d code got l)
calm_finish y d code (Ok done) l = of (is_zero code)
  where
    of : (b : Bool) → Calm y l (on_life d (λ x. after_finish b code x)
        (if b then on_looks d after_shut l else on_channel (channel_of d) (owing_abort (Some code)) l))
    of true = calm_same y l _ refl
    of false = (let c = calm_abort y d code l in record { here = c.here; none = c.none })
calm_finish y d code (Err (refusals.Gone told)) l = calm_same y l _ refl
calm_finish y d code (Err refusals.NotOpen) l = calm_same y l l refl
calm_finish y d code (Err refusals.Unread) l = calm_same y l l refl

-- a poll, whatever it gives
pub calm_polled : (s : Setup) (y : Connection) (got : Option (Host × List ℕ)) (l : Looks)
    → Calm y l (given_by s got (silenced l))
calm_polled s y None l = calm_same y l (silenced l) refl
calm_polled s y (Some (to, bytes)) l = of (reading_of bytes)
  where
    stray : (m : Message) (b : Bool) → Calm y l
        (if b then record (silenced l) { strays = drop 1 l.strays } else given_body (named s to m) m m.body
        (counted (connection_of (named s to m)) (silenced l)))
    stray m true = calm_same y l _ refl
    stray m false =
        calm_trans y l (silenced l) _ (calm_same y l (silenced l) refl)
        (calm_trans y (silenced l) (counted (connection_of (named s to m)) (silenced l)) _
        (calm_counted y (connection_of (named s to m)) (silenced l))
        (calm_body y (named s to m) m m.body (counted (connection_of (named s to m)) (silenced l))))

    of : (reading : Result Message BadMsg) → Calm y l (given_message s to reading (silenced l))
    of (Err bad) = calm_same y l (silenced l) refl
    of (Ok m) = stray m (is_stray m m.body)
