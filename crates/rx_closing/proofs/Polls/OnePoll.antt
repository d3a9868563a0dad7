-- What a poll leaves of a call and of its connection, and what the datagrams of its end's stream are.
use Rattle.std.proofs.Common.{◌≡◌, ◌+◌, ℕ, Bool, true, false, cond, refl, ap, sym, ◌∙◌, Option, Some, None, option_map}
use Rattle.std.proofs.Common.{filter, nat_le}
use Rattle.rx_model.specs.declared.names.CallName.{CallName}
use Rattle.rx_model.specs.declared.names.Host.{Host}
use Rattle.rx_model.specs.declared.wire.TheConstants.{CLIENT_INITIATED, REQUEST_ACK}
use Rattle.rx_model.specs.Body.{Body}
use Rattle.rx_model.specs.Body as bodies
use Rattle.rx_model.specs.Message.{Message, has_flag}
use Rattle.rx_model.specs.Names.{Connection, connection_of, same_connection}
use Rattle.rx_rules.specs.After.{counted, given_body}
use Rattle.rx_rules.specs.CallItems.{CallItem, Sending, Piece, Ack, after_sending, call_items, flags_of, next_sending}
use Rattle.rx_rules.specs.CallItems.{sending_body, sending_flags}
use Rattle.rx_rules.specs.CallLooks.{CallLooks, NodeView}
use Rattle.rx_rules.specs.Least.{least_by}
use Rattle.rx_rules.specs.Life.{after_silence, is_active}
use Rattle.rx_rules.specs.Life as lives
use Rattle.rx_rules.specs.Looks.{CallRecord, ConnLooks, Looks, call_at, conn_at, on_conn}
use Rattle.rx_rules.specs.Records.{is_silent, silence_of, silenced, unless_silent}
use Rattle.rx_rules.specs.Setup.{Kind, Server, Client, is_client, side_flag}
use Rattle.rx_rules.proofs.CallsLaws.{call_at-on_calls}
use Rattle.rx_rules.proofs.ConnsLaws.{KeepsConns, conn_at-on_conn, conn_if}
use Rattle.rx_between.proofs.Each.EachChange.{some_is as some_call}
use Rattle.rx_rounds.proofs.Polls.PolledOut.{quiet_life}
use Rattle.rx_history.proofs.Given.GivenLaws.{silent-name}
use Rattle.rx_history.proofs.Plain.PlainBodies.{IsSent}

-- ---- silence

-- what any call is once silent ones ended
pub silenced_at : (l : Looks) (c : CallName) → call_at (silenced l) c ≡ option_map (unless_silent l.now) (call_at l c)
silenced_at l c = call_at-on_calls c (unless_silent l.now) l (silent-name l.now)

-- one that is active then was so before, and wasn't silent
pub active_before : (l : Looks) (c : CallName) (k : CallRecord) → call_at (silenced l) c ≡ Some k
    → is_active k.life ≡ true → (call_at l c ≡ Some k) × (is_silent l.now k ≡ false)
active_before l c k there active = of (call_at l c) refl (sym (silenced_at l c) ∙ there)
  where
    by : (j : CallRecord) (b : Bool) → is_silent l.now j ≡ b
        → cond b (record j { life = after_silence (silence_of l.now j) j.life }) j ≡ k
        → (j ≡ k) × (is_silent l.now j ≡ false)
    by j true silent same =
        absurd (let dead : is_active k.life ≡ false =
        ap (λ (r : CallRecord). is_active r.life) (sym same) ∙ quiet_life (silence_of l.now j) j.life in
        let no : true ≡ false = sym active ∙ dead in cc)
    by j false awake same = (same, awake)

    of : (o : Option CallRecord) → call_at l c ≡ o → option_map (unless_silent l.now) o ≡ Some k
        → (call_at l c ≡ Some k) × (is_silent l.now k ≡ false)
    of None is same = absurd cc
    of (Some j) is same =
        let one = by j (is_silent l.now j) refl (some_call (unless_silent l.now j) k same) in (
          is ∙ ap (λ (r : CallRecord). Some r) one.0,
          ap (is_silent l.now) (sym one.0) ∙ one.1,
        )

-- ---- connections

-- where a call's connection is known, its datagrams are for this host and this service
pub record ConnIs (l : Looks) (x : Connection) (peer : Host) (service : ℕ) : Type 0 where
  pub is : (q : ConnLooks) → conn_at l x ≡ Some q → (q.peer ≡ peer) × (q.service ≡ service)

-- so they are behind a change that leaves each record its name, its peer and its service
pub conn_stays : (x y : Connection) (change : ConnLooks → ConnLooks) (l : Looks) (peer : Host) (service : ℕ)
    → KeepsConns change → ((q : ConnLooks) → ((change q).peer ≡ q.peer) × ((change q).service ≡ q.service))
    → ConnIs l x peer service → ConnIs (on_conn y change l) x peer service
conn_stays x y change l peer service keeps same old =
    record { is = λ q there. of q (conn_at l x) refl (sym (conn_at-on_conn x y change l keeps) ∙ there) }
  where
    some_conn : (a b : ConnLooks) → ◌≡◌ {A = Option ConnLooks} (Some a) (Some b) → a ≡ b
    some_conn a b is = cc

    by : (b : Bool) (r : ConnLooks)
        → ((cond b (change r) r).peer ≡ r.peer) × ((cond b (change r) r).service ≡ r.service)
    by true r = same r
    by false r = (refl, refl)

    of : (q : ConnLooks) (o : Option ConnLooks) → conn_at l x ≡ o → option_map (conn_if y change) o ≡ Some q
        → (q.peer ≡ peer) × (q.service ≡ service)
    of q None is none = absurd cc
    of q (Some r) is some =
        let one : conn_if y change r ≡ q = some_conn (conn_if y change r) q some in
        let keep = by (same_connection r.connection y) r in
        let before = old.is r is in (
          ap (λ (p : ConnLooks). p.peer) (sym one) ∙ keep.0 ∙ before.0,
          ap (λ (p : ConnLooks). p.service) (sym one) ∙ keep.1 ∙ before.1,
        )

-- and behind what a poll gave
pub conn_given : (x : Connection) (n : CallName) (m : Message) (body : Body) (l : Looks) (peer : Host) (service : ℕ)
    → ConnIs l x peer service → ConnIs (given_body n m body (counted (connection_of n) l)) x peer service
conn_given x n m body l peer service old = of body
  where
    count : ConnIs (counted (connection_of n) l) x peer service
    count = conn_stays x (connection_of n) _ l peer service (λ r. refl) (λ r. (refl, refl)) old

    of : (body : Body) → ConnIs (given_body n m body (counted (connection_of n) l)) x peer service
    of (bodies.Chunk payload) = record { is = count.is }
    of (bodies.Ack a) = record { is = count.is }
    of _ =
        conn_stays x (connection_of n) _ (counted (connection_of n) l) peer service (λ r. refl)
        (λ r. (refl, refl)) count

-- ---- a node at work, and one that rests

-- of each call that isn't silent
pub still_there : (l : Looks) (c : CallName) (r : CallRecord) → call_at l c ≡ Some r → is_silent l.now r ≡ false
    → call_at (silenced l) c ≡ Some r
still_there l c r there awake =
    silenced_at l c ∙ ap (option_map (unless_silent l.now)) there
    ∙ ap (λ (b : Bool). Some (cond b (record r { life = after_silence (silence_of l.now r) r.life }) r)) awake

-- ---- what it is that a node gives

-- whatever slots are left
pub next_same : (v w : NodeView) (k : CallLooks) → v.client ≡ w.client → v.now ≡ w.now
    → next_sending v k ≡ next_sending w k
next_same v w k client now = λ i. option_map (λ (j : CallItem). j.sending) (least_by (λ (j : CallItem). j.rank)
    (filter (λ (j : CallItem). nat_le j.rank (now i)) (call_items (client i) k)))

-- ---- flags

side_asks : (kind : Kind) (a b : Bool)
    → has_flag REQUEST_ACK (side_flag kind + flags_of a b) ≡ has_flag REQUEST_ACK (flags_of a b)
side_asks (Client host epoch) true true = refl
side_asks (Client host epoch) true false = refl
side_asks (Client host epoch) false true = refl
side_asks (Client host epoch) false false = refl
side_asks (Server service nonces) true true = refl
side_asks (Server service nonces) true false = refl
side_asks (Server service nonces) false true = refl
side_asks (Server service nonces) false false = refl

side_is : (kind : Kind) (a b : Bool) → has_flag CLIENT_INITIATED (side_flag kind + flags_of a b) ≡ is_client kind
side_is (Client host epoch) true true = refl
side_is (Client host epoch) true false = refl
side_is (Client host epoch) false true = refl
side_is (Client host epoch) false false = refl
side_is (Server service nonces) true true = refl
side_is (Server service nonces) true false = refl
side_is (Server service nonces) false true = refl
side_is (Server service nonces) false false = refl

pub sending_asks : (kind : Kind) (k : CallLooks) (x : Sending)
    → has_flag REQUEST_ACK (side_flag kind + sending_flags k x) ≡ has_flag REQUEST_ACK (sending_flags k x)
sending_asks kind k (Piece seq again) = side_asks kind _ _
sending_asks kind k (Ack reason serial) = side_asks kind _ false

pub sending_side : (kind : Kind) (k : CallLooks) (x : Sending)
    → has_flag CLIENT_INITIATED (side_flag kind + sending_flags k x) ≡ is_client kind
sending_side kind k (Piece seq again) = side_is kind _ _
sending_side kind k (Ack reason serial) = side_is kind _ false

pub sending_stream : (window : ℕ) (k : CallLooks) (x : Sending) → IsSent (sending_body window k x)
sending_stream window k (Piece seq again) = tt
sending_stream window k (Ack reason serial) = tt

-- what an end gives leaves the moment at which it was heard
pub sending_heard : (now : ℕ) (x : Sending) (k : CallLooks) → (after_sending now x k).heard ≡ k.heard
sending_heard now (Piece seq again) k = refl
sending_heard now (Ack reason serial) k = refl
