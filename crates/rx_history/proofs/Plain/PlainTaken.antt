-- Of the messages that a server takes, only a RESPONSE that is heard proves a connection.
use Rattle.std.proofs.Common.{◌&&◌, ◌==◌, if◌then◌else◌, not, nat_lt, Bool, true, false}
use Rattle.std.proofs.Common.{Option, Some, None}
use Rattle.rx_model.specs.declared.answers.Took.{Took}
use Rattle.rx_model.specs.declared.answers.Took.TheVariants as tooks
use Rattle.rx_model.specs.declared.names.CallName.{CallName}
use Rattle.rx_model.specs.declared.wire.TheConstants.{RX_PROTOCOL_ERROR}
use Rattle.rx_rules.specs.After.{challenged, owing_abort, owing_again, owing_busy, settled, stopped_all, taken_at}
use Rattle.rx_rules.specs.After.{taken_data}
use Rattle.rx_rules.specs.After.{taken_heard, taken_over, taken_stopped, taken_with, with_first}
use Rattle.rx_model.specs.Body.{Body}
use Rattle.rx_model.specs.Body as bodies
use Rattle.rx_rules.specs.Judging.{opened}
use Rattle.rx_rules.specs.Life.{after_code}
use Rattle.rx_rules.specs.Looks.{CallRecord, Looks, call_at, channel_at, conn_at, is_proved, on_call, on_channel}
use Rattle.rx_rules.specs.Looks.{on_life}
use Rattle.rx_model.specs.Message.{Message}
use Rattle.rx_model.specs.Names.{Connection, channel_of, connection_of}
use Rattle.rx_rules.specs.Looks.{fresh_channel}
use Rattle.rx_rules.specs.Records.{started_later}
use Rattle.rx_rules.specs.Setup.{Setup, is_client}
use Rattle.rx_history.proofs.Laws.ShownLaws.{Plain, fine-refl, plain-on_channel, plain-trans}

plain-if : (y : Connection) (test : Bool) (l m n : Looks) → Plain y l m → Plain y l n
    → Plain y l (if test then m else n)
plain-if y true l m n here there = here
plain-if y false l m n here there = there

plain-challenged : (s : Setup) (y : Connection) (d : CallName) (l : Looks) → Plain y l (challenged s d l)
plain-challenged s y d l =
    plain-if y (not (is_client s.kind) && (s.class.challenges && not (is_proved l (connection_of d)))) l
    (on_channel (channel_of d) (λ q. record q { owed_challenge = true }) l) l
    (plain-on_channel y (channel_of d) (λ q. record q { owed_challenge = true }) l) (fine-refl (conn_at l y))

plain-opened : (s : Setup) (y : Connection) (d : CallName) (l : Looks) → Plain y l (opened s d l)
plain-opened s y d l =
    plain-if y (nat_lt (channel_at l (channel_of d)).number d.number) l (started_later s d l) l
    (plain-on_channel y (channel_of d) (λ q. fresh_channel d.number) l) (fine-refl (conn_at l y))

plain-data : (s : Setup) (got : Took) (y : Connection) (d : CallName) (m : Message) (l : Looks)
    → Plain y l (taken_data s got d m l)
plain-data s got y d m l =
    plain-challenged s y d (record (taken_at s got d m l) { firsts = with_first got d m.seq l.firsts })

-- the message is a RESPONSE that was heard
abbrev pub IsProof : Took → Body → Type 0
IsProof tooks.Heard (bodies.Response bytes) = Unit {0}
IsProof _ _ = ⊥

plain-heard : (s : Setup) (y : Connection) (d : CallName) (body : Body) (l : Looks)
    → (IsProof tooks.Heard body → ⊥) → Plain y l (taken_heard s d body l)
plain-heard s y d (bodies.Ack a) l other = plain-challenged s y d (on_call d settled l)
plain-heard s y d bodies.AckAll l other = fine-refl (conn_at l y)
plain-heard s y d (bodies.Response bytes) l other = absurd (other tt)
plain-heard s y d (bodies.Challenge bytes) l other =
    plain-on_channel y (channel_of d) (λ q. record q { owed_response = s.class.respond d bytes }) l
plain-heard s y d (bodies.Chunk payload) l other = fine-refl (conn_at l y)
plain-heard s y d bodies.Busy l other = fine-refl (conn_at l y)
plain-heard s y d (bodies.Abort code) l other = fine-refl (conn_at l y)

plain-stopped : (y : Connection) (d : CallName) (body : Body) (l : Looks) → Plain y l (taken_stopped d body l)
plain-stopped y d (bodies.Abort code) l =
    plain-if y (d.number == 0) l (stopped_all (connection_of d) code l) (on_life d (after_code code) l)
    (fine-refl (conn_at l y)) (fine-refl (conn_at l y))
plain-stopped y d (bodies.Response bytes) l =
    plain-on_channel y (channel_of d) (owing_abort (Some RX_PROTOCOL_ERROR))
    (on_life d (after_code RX_PROTOCOL_ERROR) l)
plain-stopped y d (bodies.Chunk payload) l = fine-refl (conn_at l y)
plain-stopped y d bodies.Busy l = fine-refl (conn_at l y)
plain-stopped y d (bodies.Ack a) l = fine-refl (conn_at l y)
plain-stopped y d bodies.AckAll l = fine-refl (conn_at l y)
plain-stopped y d (bodies.Challenge bytes) l = fine-refl (conn_at l y)

plain-over : (y : Connection) (d : CallName) (body : Body) (o : Option CallRecord) (l : Looks)
    → Plain y l (taken_over d body o l)
plain-over y d body None l = fine-refl (conn_at l y)
plain-over y d body (Some k) l = plain-on_channel y (channel_of d) (owing_again body k.life) l

-- any other proves none
pub plain-with : (s : Setup) (got : Took) (y : Connection) (d : CallName) (m : Message) (l : Looks)
    → (IsProof got m.body → ⊥) → Plain y l (taken_with s got d m l)
plain-with s tooks.Kept y d m l other =
    plain-trans y l (opened s d l) (taken_data s tooks.Kept d m (opened s d l)) (plain-opened s y d l)
    (plain-data s tooks.Kept y d m (opened s d l))
plain-with s tooks.NoSlot y d m l other =
    plain-trans y l (opened s d l) (taken_data s tooks.NoSlot d m (opened s d l)) (plain-opened s y d l)
    (plain-data s tooks.NoSlot y d m (opened s d l))
plain-with s tooks.Repeat y d m l other = plain-data s tooks.Repeat y d m l
plain-with s tooks.Beyond y d m l other = plain-data s tooks.Beyond y d m l
plain-with s tooks.Clash y d m l other = plain-data s tooks.Clash y d m l
plain-with s tooks.Heard y d m l other = plain-heard s y d m.body (taken_at s tooks.Heard d m l) other
plain-with s tooks.Stopped y d m l other = plain-stopped y d m.body l
plain-with s tooks.Busy y d m l other = plain-on_channel y (channel_of d) (owing_busy d.number) l
plain-with s tooks.NoRoom y d m l other = plain-on_channel y (channel_of d) (owing_busy d.number) l
plain-with s tooks.Over y d m l other = plain-over y d m.body (call_at l d) l
plain-with s tooks.Full y d m l other = fine-refl (conn_at l y)
plain-with s tooks.Old y d m l other = fine-refl (conn_at l y)
plain-with s tooks.Unserved y d m l other = fine-refl (conn_at l y)
plain-with s tooks.Foreign y d m l other = fine-refl (conn_at l y)
plain-with s tooks.Strange y d m l other = fine-refl (conn_at l y)
plain-with s (tooks.Bad bad) y d m l other = fine-refl (conn_at l y)
