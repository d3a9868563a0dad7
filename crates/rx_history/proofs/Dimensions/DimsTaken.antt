-- A datagram that starts no call and enters no connection brings no call to life.
use Rattle.std.proofs.Common.{◌≡◌, ◌&&◌, ◌==◌, ℕ, ℤ, if◌then◌else◌, not, is_some, Bool, true, false, List, Option}
use Rattle.std.proofs.Common.{Some, None}
use Rattle.std.proofs.Common.{refl}
use Rattle.rx_model.specs.declared.answers.Took.{Took}
use Rattle.rx_model.specs.declared.answers.Took.TheVariants as tooks
use Rattle.rx_model.specs.declared.names.CallName.{CallName}
use Rattle.rx_model.specs.declared.names.Host.{Host}
use Rattle.rx_model.specs.declared.wire.TheConstants.{RX_CALL_DEAD, RX_PROTOCOL_ERROR}
use Rattle.rx_model.specs.Body.{Body}
use Rattle.rx_model.specs.Body as bodies
use Rattle.rx_model.specs.Message.{Message}
use Rattle.rx_model.specs.Names.{Connection, channel_of, connection_of, same_connection}
use Rattle.rx_rules.specs.After.{challenged}
use Rattle.rx_rules.specs.After.{owing_abort, owing_again, owing_busy, settled}
use Rattle.rx_rules.specs.After.{stopped_all}
use Rattle.rx_rules.specs.After.{taken_at, taken_busy, taken_data, taken_heard, taken_over, taken_stopped}
use Rattle.rx_rules.specs.After.{taken_unserved, taken_with}
use Rattle.rx_rules.specs.After.{turned_away}
use Rattle.rx_rules.specs.CallLooks.{NodeView, after_body, after_chunk, after_taken, is_delivered}
use Rattle.rx_rules.specs.Life.{after_acks, after_code}
use Rattle.rx_rules.specs.Looks.{CallRecord, Looks, call_at, is_proved, latest_name, on_call, on_channel}
use Rattle.rx_rules.specs.Looks.{on_life}
use Rattle.rx_rules.specs.Records.{used}
use Rattle.rx_rules.specs.Received.{Packet, packet_at, with_packet}
use Rattle.rx_rules.specs.Setup.{Setup, is_client}
use Rattle.rx_rules.specs.Slots.{node_view}
use Rattle.rx_history.proofs.Dimensions.Dims.{Dims, dims_all, dims_call, dims_channel, dims_conn, dims_if, dims_life}
use Rattle.rx_history.proofs.Dimensions.Dims.{dims_looks}
use Rattle.rx_history.proofs.Dimensions.Dims.{KeepsFirst, dims_refl, dims_trans, fades_if, fades_life}
use Rattle.rx_history.proofs.LifeFalls.{acks_falls, code_falls}
use Rattle.rx_history.proofs.Rows.RowsInFront.{may_start}
use Rattle.rx_history.proofs.Laws.TakenLaws.{abort-number, again-number}

-- what was kept stays kept
kept-stays : (got : Took) (p : Packet) (ps : List Packet) → is_some (packet_at ps 1) ≡ true
    → is_some (packet_at (with_packet got p ps) 1) ≡ true
kept-stays tooks.Kept p ps is = of (p.seq == 1)
  where
    of : (b : Bool) → is_some (if b then Some p.piece else packet_at ps 1) ≡ true
    of true = refl
    of false = is
kept-stays _ p ps is = is

chunk-first : (v : NodeView) (got : Took) (m : Message) (body : Body) → KeepsFirst (after_chunk v got m body)
chunk-first v got m (bodies.Chunk payload) k is = kept-stays got _ k.received.kept is
chunk-first v got m _ k is = is

body-first : (now : ℕ) (m : Message) (body : Body) → KeepsFirst (after_body now m body)
body-first now m (bodies.Ack a) k is = is
body-first now m bodies.AckAll k is = is
body-first now m _ k is = is

-- a message leaves what was kept
pub taken_first : (v : NodeView) (got : Took) (m : Message) → KeepsFirst (after_taken v got m)
taken_first v tooks.Kept m k is = chunk-first v tooks.Kept m m.body k is
taken_first v tooks.Repeat m k is = chunk-first v tooks.Repeat m m.body k is
taken_first v tooks.Beyond m k is = chunk-first v tooks.Beyond m m.body k is
taken_first v tooks.Clash m k is = chunk-first v tooks.Clash m m.body k is
taken_first v tooks.NoSlot m k is = chunk-first v tooks.NoSlot m m.body k is
taken_first v tooks.Heard m k is = body-first v.now m m.body k is
taken_first v _ m k is = is

challenged-dims : (s : Setup) (c : CallName) (l : Looks) → Dims l (challenged s c l)
challenged-dims s c l =
    dims_if (not (is_client s.kind) && (s.class.challenges && not (is_proved l (connection_of c)))) l
    (on_channel (channel_of c) (λ q. record q { owed_challenge = true }) l) l
    (dims_channel (channel_of c) (λ q. record q { owed_challenge = true }) l (λ q. refl)) (dims_refl l)

-- data is judged
pub data_dims : (s : Setup) (got : Took) (c : CallName) (m : Message) (l : Looks) → Dims l (taken_data s got c m l)
data_dims s got c m l =
    let heard = dims_looks c (after_taken (node_view s l) got m) l (taken_first (node_view s l) got m) in
    dims_trans l _ (taken_data s got c m l) (record { calls = heard.calls; conns = heard.conns })
    (challenged-dims s c _)

settled-dims : (c : CallName) (l : Looks) → Dims l (on_call c settled l)
settled-dims c l =
    dims_call c settled l
    (λ k. fades_life k (after_acks (is_delivered k.looks) k.life) (acks_falls (is_delivered k.looks) k.life))

heard-dims : (s : Setup) (c : CallName) (body : Body) (l : Looks) → Dims l (taken_heard s c body l)
heard-dims s c (bodies.Ack a) l =
    dims_trans l (on_call c settled l) (challenged s c (on_call c settled l)) (settled-dims c l)
    (challenged-dims s c (on_call c settled l))
heard-dims s c bodies.AckAll l = settled-dims c l
heard-dims s c (bodies.Response bytes) l =
    dims_conn (connection_of c) (λ r. record r { proved = true }) l
    (λ r. record { alike = record { connection = refl; length = refl }; numbers = λ n. refl })
heard-dims s c (bodies.Challenge bytes) l =
    dims_channel (channel_of c) (λ q. record q { owed_response = s.class.respond c bytes }) l (λ q. refl)
heard-dims s c (bodies.Chunk payload) l = dims_refl l
heard-dims s c bodies.Busy l = dims_refl l
heard-dims s c (bodies.Abort code) l = dims_refl l

all-stopped-dims : (x : Connection) (code : ℤ) (l : Looks) → Dims l (stopped_all x code l)
all-stopped-dims x code l =
    dims_all (λ k. if same_connection (connection_of k.name) x then record k { life = after_code code k.life } else k) l
    (λ k. fades_if (same_connection (connection_of k.name) x) k (record k { life = after_code code k.life })
    (fades_life k (after_code code k.life) (code_falls code k.life)))

stopped-dims : (c : CallName) (body : Body) (l : Looks) → Dims l (taken_stopped c body l)
stopped-dims c (bodies.Abort code) l =
    dims_if (c.number == 0) l (stopped_all (connection_of c) code l) (on_life c (after_code code) l)
    (all-stopped-dims (connection_of c) code l) (dims_life c (after_code code) l (code_falls code))
stopped-dims c (bodies.Response bytes) l =
    let broken : Looks = on_life c (after_code RX_PROTOCOL_ERROR) l in
    dims_trans l broken (taken_stopped c (bodies.Response bytes) l)
    (dims_life c (after_code RX_PROTOCOL_ERROR) l (code_falls RX_PROTOCOL_ERROR))
    (dims_channel (channel_of c) (owing_abort (Some RX_PROTOCOL_ERROR)) broken (abort-number (Some RX_PROTOCOL_ERROR)))
stopped-dims c (bodies.Chunk payload) l = dims_refl l
stopped-dims c bodies.Busy l = dims_refl l
stopped-dims c (bodies.Ack a) l = dims_refl l
stopped-dims c bodies.AckAll l = dims_refl l
stopped-dims c (bodies.Challenge bytes) l = dims_refl l

over-dims : (c : CallName) (body : Body) (o : Option CallRecord) (l : Looks) → Dims l (taken_over c body o l)
over-dims c body None l = dims_refl l
over-dims c body (Some k) l = dims_channel (channel_of c) (owing_again body k.life) l (again-number body k.life)

busy-dims : (c : CallName) (l : Looks) → Dims l (taken_busy c l)
busy-dims c l =
    let broken : Looks = on_life (latest_name l (channel_of c)) (after_code RX_CALL_DEAD) l in
    dims_trans l broken (taken_busy c l)
    (dims_life (latest_name l (channel_of c)) (after_code RX_CALL_DEAD) l (code_falls RX_CALL_DEAD))
    (dims_channel (channel_of c) (owing_busy c.number) broken (λ q. refl))

-- an answer that starts no call
pub with_dims : (s : Setup) (got : Took) (c : CallName) (m : Message) (l : Looks) → may_start got ≡ false
    → Dims l (taken_with s got c m l)
with_dims s tooks.Kept c m l other = absurd cc
with_dims s tooks.NoSlot c m l other = absurd cc
with_dims s tooks.Repeat c m l other = data_dims s tooks.Repeat c m l
with_dims s tooks.Beyond c m l other = data_dims s tooks.Beyond c m l
with_dims s tooks.Clash c m l other = data_dims s tooks.Clash c m l
with_dims s tooks.Heard c m l other =
    dims_trans l (taken_at s tooks.Heard c m l) (taken_with s tooks.Heard c m l)
    (dims_looks c (after_taken (node_view s l) tooks.Heard m) l (taken_first (node_view s l) tooks.Heard m))
    (heard-dims s c m.body (taken_at s tooks.Heard c m l))
with_dims s tooks.Stopped c m l other = stopped-dims c m.body l
with_dims s tooks.Busy c m l other = busy-dims c l
with_dims s tooks.NoRoom c m l other = dims_channel (channel_of c) (owing_busy c.number) l (λ q. refl)
with_dims s tooks.Over c m l other = over-dims c m.body (call_at l c) l
with_dims s tooks.Full c m l other = dims_refl l
with_dims s tooks.Old c m l other = dims_refl l
with_dims s tooks.Unserved c m l other = dims_refl l
with_dims s tooks.Foreign c m l other = dims_refl l
with_dims s tooks.Strange c m l other = dims_refl l
with_dims s (tooks.Bad bad) c m l other = dims_refl l

-- a row in front
pub turned_dims : (row : Took) (from : Host) (m : Message) (l : Looks) → Dims l (turned_away row from m l)
turned_dims tooks.Unserved from m l = of m.body
  where
    of : (body : Body) → Dims l (taken_unserved from m body l)
    of (bodies.Chunk payload) = (let same = dims_refl l in record { calls = same.calls; conns = same.conns })
    of _ = dims_refl l
turned_dims _ from m l = dims_refl l

-- a connection is used
pub used_dims : (x : Connection) (l : Looks) → Dims l (used x l)
used_dims x l =
    dims_conn x (λ r. record r { last_use = l.now }) l
    (λ r. record { alike = record { connection = refl; length = refl }; numbers = λ n. refl })
