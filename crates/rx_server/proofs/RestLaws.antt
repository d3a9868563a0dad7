-- What a server's events leave: how many connections were entered, the calls whose packet 1 was kept, and which clients
-- are proved.
use Rattle.std.proofs.Common.{◌≡◌, ◌&&◌, ◌==◌, ℕ, ℤ, cond, not, drop, suc, Bool, true, false}
use Rattle.std.proofs.Common.{List}
use Rattle.std.proofs.Common.{Option, Some, None, Result, Ok, Err, refl, ◌∙◌}
use Rattle.rx_model.specs.declared.answers.BadMsg.{BadMsg}
use Rattle.rx_model.specs.declared.answers.ServeRefused.{ServeRefused}
use Rattle.rx_model.specs.declared.answers.ServeRefused.TheVariants as refusals
use Rattle.rx_model.specs.declared.answers.Took.{Took}
use Rattle.rx_model.specs.declared.answers.Took.TheVariants as tooks
use Rattle.rx_model.specs.declared.names.CallName.{CallName}
use Rattle.rx_model.specs.declared.names.Host.{Host}
use Rattle.rx_model.specs.Body.{Body}
use Rattle.rx_model.specs.Body as bodies
use Rattle.rx_model.specs.Message.{Message}
use Rattle.rx_model.specs.declared.wire.TheConstants.{RX_CALL_DEAD, RX_PROTOCOL_ERROR}
use Rattle.rx_model.specs.Names.{Channel, channel_of, connection_of}
use Rattle.rx_model.specs.Reading.{reading_of}
use Rattle.rx_model.specs.Strays.{is_stray}
use Rattle.rx_rules.specs.After.{challenged, counted, finish_done, given_body, given_by, given_message, is_zero}
use Rattle.rx_rules.specs.After.{owing_abort, owing_ackall, owing_again, owing_busy, read_done, settled}
use Rattle.rx_rules.specs.After.{stopped_all, taken_at, taken_data, taken_heard, taken_over, taken_stopped}
use Rattle.rx_rules.specs.After.{taken_with, with_first}
use Rattle.rx_rules.specs.Life.{after_code, is_calling}
use Rattle.rx_rules.specs.CallLooks.{after_shut}
use Rattle.rx_rules.specs.Looks.{CallRecord, ChannelLooks, Looks, call_at, is_call, is_proved, latest_name, on_call}
use Rattle.rx_rules.specs.Looks.{on_channel}
use Rattle.rx_rules.specs.Looks.{on_life, on_looks}
use Rattle.rx_rules.specs.Records.{silenced}
use Rattle.rx_rules.specs.Setup.{Setup, is_client, named}
use Rattle.rx_history.proofs.Rows.RowsInFront.{may_start}
use Rattle.rx_node.specs.Steps.{is_response}
use Rattle.rx_books.specs.Polled.{proofs_of}
use Rattle.rx_books.proofs.ProvedClients.{proofs_channel, proofs_conn}
use Rattle.rx_server.specs.Taking.{proves_client}

-- they stay
pub record Rests (l m : Looks) : Type 0 where
  pub firsts : m.firsts ≡ l.firsts
  pub entered : m.entered ≡ l.entered
  pub proved : proofs_of m ≡ proofs_of l

pub rests_refl : (l : Looks) → Rests l l
rests_refl l = record { firsts = refl; entered = refl; proved = refl }

-- where a channel changes
pub rests_channel : (ch : Channel) (f : ChannelLooks → ChannelLooks) (l : Looks) → Rests l (on_channel ch f l)
rests_channel ch f l = record { firsts = refl; entered = refl; proved = proofs_channel ch f l }

-- by a test
rests-if : (b : Bool) (l m n : Looks) → Rests l m → Rests l n → Rests l (cond b m n)
rests-if true l m n p q = p
rests-if false l m n p q = q

rests-challenged : (s : Setup) (c : CallName) (l : Looks) → Rests l (challenged s c l)
rests-challenged s c l =
    rests-if (not (is_client s.kind) && (s.class.challenges && not (is_proved l (connection_of c)))) l
    (on_channel (channel_of c) (λ q. record q { owed_challenge = true }) l) l
    (rests_channel (channel_of c) (λ q. record q { owed_challenge = true }) l) (rests_refl l)

-- data enters none, and its call waits behind the others where its packet 1 is kept
pub data_rests : (s : Setup) (got : Took) (c : CallName) (m : Message) (l : Looks)
    → Rests (record l { firsts = with_first got c m.seq l.firsts }) (taken_data s got c m l)
data_rests s got c m l =
    let p = rests-challenged s c (record (taken_at s got c m l) { firsts = with_first got c m.seq l.firsts }) in
    record { firsts = p.firsts; entered = p.entered; proved = p.proved }

-- what is heard and isn't a right RESPONSE proves none
rests-heard : (s : Setup) (c : CallName) (body : Body) (l : Looks) → is_response body ≡ false
    → Rests l (taken_heard s c body l)
rests-heard s c (bodies.Ack a) l other =
    (let p = rests-challenged s c (on_call c settled l) in
    record { firsts = p.firsts; entered = p.entered; proved = p.proved })
rests-heard s c bodies.AckAll l other = record { firsts = refl; entered = refl; proved = refl }
rests-heard s c (bodies.Response bytes) l other = absurd (cc (other))
rests-heard s c (bodies.Challenge bytes) l other =
    rests_channel (channel_of c) (λ q. record q { owed_response = s.class.respond c bytes }) l
rests-heard s c (bodies.Chunk payload) l other = rests_refl l
rests-heard s c bodies.Busy l other = rests_refl l
rests-heard s c (bodies.Abort code) l other = rests_refl l

rests-stopped : (c : CallName) (body : Body) (l : Looks) → Rests l (taken_stopped c body l)
rests-stopped c (bodies.Abort code) l =
    rests-if (c.number == 0) l (stopped_all (connection_of c) code l) (on_life c (after_code code) l)
    (record { firsts = refl; entered = refl; proved = refl }) (record { firsts = refl; entered = refl; proved = refl })
rests-stopped c (bodies.Response bytes) l =
    (let p = rests_channel (channel_of c) (owing_abort (Some RX_PROTOCOL_ERROR))
    (on_life c (after_code RX_PROTOCOL_ERROR) l) in
    record { firsts = p.firsts; entered = p.entered; proved = p.proved })
rests-stopped c (bodies.Chunk payload) l = rests_refl l
rests-stopped c bodies.Busy l = rests_refl l
rests-stopped c (bodies.Ack a) l = rests_refl l
rests-stopped c bodies.AckAll l = rests_refl l
rests-stopped c (bodies.Challenge bytes) l = rests_refl l

rests-over : (c : CallName) (body : Body) (o : Option CallRecord) (l : Looks) → Rests l (taken_over c body o l)
rests-over c body None l = rests_refl l
rests-over c body (Some k) l = rests_channel (channel_of c) (owing_again body k.life) l

rests-data : (s : Setup) (got : Took) (c : CallName) (m : Message) (l : Looks)
    → with_first got c m.seq l.firsts ≡ l.firsts
    → Rests l (taken_data s got c m l)
rests-data s got c m l same =
    (let p = data_rests s got c m l in record { firsts = p.firsts ∙ same; entered = p.entered; proved = p.proved })

-- an answer that starts no call and proves no client
pub with_rests : (s : Setup) (got : Took) (c : CallName) (m : Message) (l : Looks) → may_start got ≡ false
    → proves_client got m.body ≡ false → Rests l (taken_with s got c m l)
with_rests s tooks.Kept c m l other none = absurd (cc (other))
with_rests s tooks.NoSlot c m l other none = absurd (cc (other))
with_rests s tooks.Repeat c m l other none = rests-data s tooks.Repeat c m l refl
with_rests s tooks.Beyond c m l other none = rests-data s tooks.Beyond c m l refl
with_rests s tooks.Clash c m l other none = rests-data s tooks.Clash c m l refl
with_rests s tooks.Heard c m l other none =
    (let p = rests-heard s c m.body (taken_at s tooks.Heard c m l) none in
    record { firsts = p.firsts; entered = p.entered; proved = p.proved })
with_rests s tooks.Stopped c m l other none = rests-stopped c m.body l
with_rests s tooks.Busy c m l other none =
    (let p = rests_channel (channel_of c) (owing_busy c.number)
    (on_life (latest_name l (channel_of c)) (after_code RX_CALL_DEAD) l) in
    record { firsts = p.firsts; entered = p.entered; proved = p.proved })
with_rests s tooks.NoRoom c m l other none = rests_channel (channel_of c) (owing_busy c.number) l
with_rests s tooks.Over c m l other none = rests-over c m.body (call_at l c) l
with_rests s tooks.Full c m l other none = rests_refl l
with_rests s tooks.Old c m l other none = rests_refl l
with_rests s tooks.Unserved c m l other none = rests_refl l
with_rests s tooks.Foreign c m l other none = rests_refl l
with_rests s tooks.Strange c m l other none = rests_refl l
with_rests s (tooks.Bad bad) c m l other none = rests_refl l

rests-body : (c : CallName) (m : Message) (body : Body) (l : Looks) → Rests l (given_body c m body l)
rests-body c m (bodies.Chunk payload) l = record { firsts = refl; entered = refl; proved = refl }
rests-body c m (bodies.Ack a) l = record { firsts = refl; entered = refl; proved = refl }
rests-body c m (bodies.Abort code) l = rests_channel (channel_of c) (λ q. record q { owed_abort = None }) l
rests-body c m bodies.Busy l = rests_channel (channel_of c) (λ q. record q { owed_busy = None }) l
rests-body c m (bodies.Challenge bytes) l = rests_channel (channel_of c) (λ q. record q { owed_challenge = false }) l
rests-body c m (bodies.Response bytes) l = rests_channel (channel_of c) (λ q. record q { owed_response = None }) l
rests-body c m bodies.AckAll l = rests_channel (channel_of c) (λ q. record q { owed_ackall = false }) l

rests-given : (s : Setup) (to : Host) (reading : Result Message BadMsg) (l : Looks)
    → Rests l (given_message s to reading l)
rests-given s to (Err bad) l = rests_refl l
rests-given s to (Ok m) l =
    (let p = rests-body (named s to m) m m.body (counted (connection_of (named s to m)) l) in
    rests-if (is_stray m m.body) l (record l { strays = drop 1 l.strays })
    (given_body (named s to m) m m.body (counted (connection_of (named s to m)) l))
    (record { firsts = refl; entered = refl; proved = refl })
    (record {
      firsts = p.firsts;
      entered = p.entered;
      proved = p.proved
          ∙ proofs_conn (connection_of (named s to m)) (λ r. record r { given = suc r.given; last_use = l.now }) l
          (λ r. refl);
    }))

-- whatever a poll gives
pub polled_rests : (s : Setup) (got : Option (Host × List ℕ)) (l : Looks) → Rests l (given_by s got (silenced l))
polled_rests s None l = record { firsts = refl; entered = refl; proved = refl }
polled_rests s (Some (to, bytes)) l =
    (let p = rests-given s to (reading_of bytes) (silenced l) in
    record { firsts = p.firsts; entered = p.entered; proved = p.proved })

-- a read
pub read_rests : (c : CallName) (end : Bool) (bytes : List ℕ) (l : Looks) → Rests l (read_done c end bytes l)
read_rests c end bytes l =
    (let p = rests_channel (channel_of c) (owing_ackall (end && is_call (λ k. is_calling k.life) (call_at l c))) l in
    record { firsts = p.firsts; entered = p.entered; proved = p.proved })

-- a finish
pub finish_rests : (c : CallName) (code : ℤ) (got : Result (Unit {0}) ServeRefused) (l : Looks)
    → Rests l (finish_done c code got l)
finish_rests c code (Ok done) l =
    (let p = rests-if (is_zero code) l (on_looks c after_shut l) (on_channel (channel_of c) (owing_abort (Some code)) l)
    (record { firsts = refl; entered = refl; proved = refl })
    (rests_channel (channel_of c) (owing_abort (Some code)) l) in
    record { firsts = p.firsts; entered = p.entered; proved = p.proved })
finish_rests c code (Err (refusals.Gone told)) l = record { firsts = refl; entered = refl; proved = refl }
finish_rests c code (Err refusals.NotOpen) l = rests_refl l
finish_rests c code (Err refusals.Unread) l = rests_refl l
