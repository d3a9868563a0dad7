-- What takings, givings and the application's calls leave of a node's records of connections.
use Rattle.std.proofs.Common.{◌≡◌, ◌&&◌, ◌==◌, ℕ, ℤ, if◌then◌else◌, not, Bool, true, false, List}
use Rattle.std.proofs.Common.{Option, Some, None, Result, Ok, Err, refl, ◌∙◌, sym}
use Rattle.rx_model.specs.declared.answers.ServeRefused.{ServeRefused}
use Rattle.rx_model.specs.declared.answers.ServeRefused.TheVariants as refusals
use Rattle.rx_model.specs.declared.answers.Took.{Took}
use Rattle.rx_model.specs.declared.answers.Took.TheVariants as tooks
use Rattle.rx_model.specs.declared.names.CallName.{CallName}
use Rattle.rx_model.specs.declared.names.Host.{Host}
use Rattle.rx_model.specs.declared.wire.TheConstants.{RX_PROTOCOL_ERROR}
use Rattle.rx_rules.specs.After.{challenged, finish_done, given_body, is_ok_end, is_zero, owing_abort}
use Rattle.rx_rules.specs.After.{owing_ackall, owing_again, read_done, served_code, settled, stopped_all, taken_at}
use Rattle.rx_rules.specs.After.{taken_data, taken_heard, taken_over}
use Rattle.rx_rules.specs.After.{taken_stopped, taken_unserved, told_code, turned_away, with_first}
use Rattle.rx_model.specs.Body.{Body}
use Rattle.rx_model.specs.Body as bodies
use Rattle.rx_rules.specs.CallLooks.{after_shut}
use Rattle.rx_rules.specs.Life.{Life, after_code, after_finish, is_calling}
use Rattle.rx_rules.specs.Looks.{CallRecord, ChannelLooks, Looks, call_at, fresh_channel, is_call}
use Rattle.rx_rules.specs.Looks.{is_proved, on_call, on_channel, on_life, on_looks}
use Rattle.rx_model.specs.Message.{Message}
use Rattle.rx_model.specs.Names.{channel_of, connection_of}
use Rattle.rx_rules.specs.Records.{started}
use Rattle.rx_rules.specs.Setup.{Setup, is_client}
use Rattle.rx_law.proofs.Firm.{Firm, firm-if, firm-on_channel, firm-on_conn, firm-same, firm-trans}

-- ---- a taking

firm-challenged : (s : Setup) (c d : CallName) (l : Looks) → Firm c l (challenged s d l)
firm-challenged s c d l =
    firm-if c (not (is_client s.kind) && (s.class.challenges && not (is_proved l (connection_of d)))) l
    (on_channel (channel_of d) (λ q. record q { owed_challenge = true }) l)
    (firm-on_channel c (channel_of d) (λ q. record q { owed_challenge = true }) l (λ q k is. is))

-- a call starts
pub firm-started : (s : Setup) (life : Life) (c d : CallName) (l : Looks) → Firm c l (started s life d l)
firm-started s life c d l =
    let f = firm-on_channel c (channel_of d) (λ q. fresh_channel d.number) l (λ q k is. absurd cc) in
    record { now = f.now; young = f.young; busy = f.busy }

-- its packet is judged
pub firm-data : (s : Setup) (got : Took) (c d : CallName) (m : Message) (l : Looks) → Firm c l (taken_data s got d m l)
firm-data s got c d m l =
    let behind : Looks = record (taken_at s got d m l) { firsts = with_first got d m.seq l.firsts } in
    firm-trans c l behind _ (firm-same c l behind refl refl) (firm-challenged s c d behind)

-- a message is heard
pub firm-heard : (s : Setup) (c d : CallName) (body : Body) (l : Looks) → Firm c l (taken_heard s d body l)
firm-heard s c d (bodies.Ack a) l =
    firm-trans c l (on_call d settled l) _ (firm-same c l (on_call d settled l) refl refl)
    (firm-challenged s c d (on_call d settled l))
firm-heard s c d bodies.AckAll l = firm-same c l (on_call d settled l) refl refl
firm-heard s c d (bodies.Response bytes) l =
    firm-on_conn c (connection_of d) (λ r. record r { proved = true }) l
    (record { names = λ r. refl; uses = λ r u low is. is; busy = λ r n k is. is })
firm-heard s c d (bodies.Challenge bytes) l =
    firm-on_channel c (channel_of d) (λ q. record q { owed_response = s.class.respond d bytes }) l (λ q k is. is)
firm-heard s c d _ l = firm-same c l l refl refl

firm-owing_abort : (c d : CallName) (code : Option ℤ) (l : Looks)
    → Firm c l (on_channel (channel_of d) (owing_abort code) l)
firm-owing_abort c d None l = firm-on_channel c (channel_of d) (owing_abort None) l (λ q k is. is)
firm-owing_abort c d (Some code) l = firm-on_channel c (channel_of d) (owing_abort (Some code)) l (λ q k is. is)

-- a code comes
pub firm-stopped : (c d : CallName) (body : Body) (l : Looks) → Firm c l (taken_stopped d body l)
firm-stopped c d (bodies.Abort code) l = of (d.number == 0)
  where
    of : (b : Bool) → Firm c l (if b then stopped_all (connection_of d) code l else on_life d (after_code code) l)
    of true = firm-same c l (stopped_all (connection_of d) code l) refl refl
    of false = firm-same c l (on_life d (after_code code) l) refl refl
firm-stopped c d (bodies.Response bytes) l =
    let stopped : Looks = on_life d (after_code RX_PROTOCOL_ERROR) l in
    firm-trans c l stopped _ (firm-same c l stopped refl refl) (firm-owing_abort c d (Some RX_PROTOCOL_ERROR) stopped)
firm-stopped c d _ l = firm-same c l l refl refl

ackall-busy : (owes : Bool) (q : ChannelLooks) → (owing_ackall owes q).owed_busy ≡ q.owed_busy
ackall-busy true q = refl
ackall-busy false q = refl

abort-busy : (code : Option ℤ) (q : ChannelLooks) → (owing_abort code q).owed_busy ≡ q.owed_busy
abort-busy None q = refl
abort-busy (Some code) q = refl

again-busy : (body : Body) (life : Life) (q : ChannelLooks) → (owing_again body life q).owed_busy ≡ q.owed_busy
again-busy (bodies.Chunk payload) life q = ackall-busy (is_ok_end life) (owing_abort (told_code life) q)
    ∙ abort-busy (told_code life) q
again-busy (bodies.Ack a) life q = abort-busy (served_code life) q
again-busy _ life q = refl

-- a message of a call that ended
pub firm-over : (c d : CallName) (body : Body) (o : Option CallRecord) (l : Looks) → Firm c l (taken_over d body o l)
firm-over c d body None l = firm-same c l l refl refl
firm-over c d body (Some k) l =
    firm-on_channel c (channel_of d) (owing_again body k.life) l (λ q n is. sym (again-busy body k.life q) ∙ is)

-- a message that a row in front answers
pub firm-turned : (c : CallName) (row : Took) (from : Host) (m : Message) (l : Looks)
    → Firm c l (turned_away row from m l)
firm-turned c tooks.Unserved from m l = of m.body
  where
    of : (body : Body) → Firm c l (taken_unserved from m body l)
    of (bodies.Chunk payload) = firm-same c l (taken_unserved from m (bodies.Chunk payload) l) refl refl
    of _ = firm-same c l l refl refl
firm-turned c _ from m l = firm-same c l l refl refl

-- ---- givings and the application's calls

-- what was owed is given
pub firm-body : (c d : CallName) (m : Message) (body : Body) (l : Looks) → Firm c l (given_body d m body l)
firm-body c d m (bodies.Chunk payload) l = firm-same c l _ refl refl
firm-body c d m (bodies.Ack a) l = firm-same c l _ refl refl
firm-body c d m (bodies.Abort code) l = firm-on_channel c (channel_of d) (λ q. record q { owed_abort = None }) l
    (λ q k is. is)
firm-body c d m bodies.Busy l = firm-on_channel c (channel_of d) (λ q. record q { owed_busy = None }) l
    (λ q k is. absurd cc)
firm-body c d m (bodies.Challenge bytes) l = firm-on_channel c (channel_of d)
    (λ q. record q { owed_challenge = false }) l (λ q k is. is)
firm-body c d m (bodies.Response bytes) l = firm-on_channel c (channel_of d) (λ q. record q { owed_response = None }) l
    (λ q k is. is)
firm-body c d m bodies.AckAll l = firm-on_channel c (channel_of d) (λ q. record q { owed_ackall = false }) l
    (λ q k is. is)

-- a read
pub firm-read : (c d : CallName) (end : Bool) (bytes : List ℕ) (l : Looks) → Firm c l (read_done d end bytes l)
firm-read c d end bytes l =
    let owes : Bool = end && is_call (λ k. is_calling k.life) (call_at l d) in
    let f = firm-on_channel c (channel_of d) (owing_ackall owes) l (λ q k is. sym (ackall-busy owes q) ∙ is) in
    record { now = f.now; young = f.young; busy = f.busy }

-- a finish
pub firm-finish : (c d : CallName) (code : ℤ) (got : Result (Unit {0}) ServeRefused) (l : Looks)
    → Firm c l (finish_done d code got l)
firm-finish c d code (Ok done) l = of (is_zero code)
  where
    of : (b : Bool) → Firm c l (on_life d (λ x. after_finish b code x)
        (if b then on_looks d after_shut l else on_channel (channel_of d) (owing_abort (Some code)) l))
    of true = firm-same c l _ refl refl
    of false =
        (let f = firm-on_channel c (channel_of d) (owing_abort (Some code)) l (λ q k is. is) in
        record { now = f.now; young = f.young; busy = f.busy })
firm-finish c d code (Err (refusals.Gone told)) l = firm-same c l _ refl refl
firm-finish c d code (Err refusals.NotOpen) l = firm-same c l l refl refl
firm-finish c d code (Err refusals.Unread) l = firm-same c l l refl refl
