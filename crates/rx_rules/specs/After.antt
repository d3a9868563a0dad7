-- What each event makes of the look-ups, and the look-ups of a history. Public clauses cite this module.
use Rattle.std.specs.Prelude.{◌==◌, ◌&&◌, not, if◌then◌else◌, ℕ, ℤ, pos, suc, zero, Bool, true, false, List}
use Rattle.std.specs.Prelude.{[], ◌∷◌, ◌++◌, drop, Option, Some, None, Result, Ok, Err}
use Rattle.rx_model.specs.declared.answers.BadMsg.{BadMsg}
use Rattle.rx_model.specs.declared.answers.End.TheVariants as ends
use Rattle.rx_model.specs.declared.answers.ReadAns.TheVariants as answers
use Rattle.rx_model.specs.declared.answers.ReadGot.{ReadGot}
use Rattle.rx_model.specs.declared.answers.ReadGot.TheVariants as readers
use Rattle.rx_model.specs.declared.answers.ServeRead.TheVariants as reads
use Rattle.rx_model.specs.declared.answers.ServeRefused.{ServeRefused}
use Rattle.rx_model.specs.declared.answers.ServeRefused.TheVariants as refusals
use Rattle.rx_model.specs.declared.answers.Took.{Took}
use Rattle.rx_model.specs.declared.answers.Took.TheVariants as tooks
use Rattle.rx_model.specs.declared.event.Event.{Event}
use Rattle.rx_model.specs.declared.event.Event.TheVariants as events
use Rattle.rx_model.specs.declared.names.CallName.{CallName}
use Rattle.rx_model.specs.declared.names.Host.{Host}
use Rattle.rx_model.specs.declared.wire.TheConstants.{STRAYS, RX_CALL_DEAD, RX_PROTOCOL_ERROR}
use Rattle.rx_model.specs.Body.{Body}
use Rattle.rx_model.specs.Body as bodies
use Rattle.rx_rules.specs.CallLooks.{after_taken, after_write, after_shut, after_read, after_piece, after_ack_given}
use Rattle.rx_rules.specs.CallLooks.{is_delivered}
use Rattle.rx_rules.specs.Judging.{outer_row, opened}
use Rattle.rx_rules.specs.Life.{Life, after_code, after_acks, after_accept, after_finish, after_gone, after_end}
use Rattle.rx_rules.specs.Life.{after_cancel, is_calling}
use Rattle.rx_rules.specs.Life as lives
use Rattle.rx_rules.specs.Looks.{CallRecord, ChannelLooks, Looks, at_start, call_at, is_call, is_proved, latest_name}
use Rattle.rx_rules.specs.Looks.{on_call, on_calls, on_channel, on_conn, on_life, on_looks}
use Rattle.rx_model.specs.Message.{Message}
use Rattle.rx_model.specs.Names.{Connection, connection_of, channel_of, same_connection}
use Rattle.rx_model.specs.Reading.{reading_of}
use Rattle.rx_rules.specs.Records.{entered, fresh_conn, placed, silenced, started, used}
use Rattle.rx_rules.specs.Setup.{Setup, Kind, Server, Client, is_client, named}
use Rattle.rx_rules.specs.Slots.{node_view}
use Rattle.rx_model.specs.Strays.{is_stray, last_of, stray_of}

-- ---- what a channel owes

-- an ABORT with this code
abbrev pub owing_abort : Option ℤ → ChannelLooks → ChannelLooks
owing_abort None q = q
owing_abort (Some code) q = record q { owed_abort = Some code }

-- a BUSY for this number
abbrev pub owing_busy : ℕ → ChannelLooks → ChannelLooks
owing_busy number q = record q { owed_busy = Some number }

-- an ACKALL
abbrev pub owing_ackall : Bool → ChannelLooks → ChannelLooks
owing_ackall owes q = if owes then record q { owed_ackall = true } else q

-- ---- a message is taken

-- a server's call of a client that isn't proved owes a CHALLENGE
abbrev pub challenged : Setup → CallName → Looks → Looks
challenged s c l =
    if not (is_client s.kind) && (s.class.challenges && not (is_proved l (connection_of c)))
    then on_channel (channel_of c) (λ q. record q { owed_challenge = true }) l
    else l

-- a call whose packet 1 is kept waits behind those before it
abbrev pub with_first : Took → CallName → ℕ → List CallName → List CallName
with_first tooks.Kept c seq names = if seq == 1 then names ++ c ∷ [] else names
with_first _ c seq names = names

-- a message for a call changes what passed at its end
abbrev pub taken_at : Setup → Took → CallName → Message → Looks → Looks
taken_at s got c m l = on_looks c (after_taken (node_view s l) got m) l

-- a data packet of a live call
abbrev pub taken_data : Setup → Took → CallName → Message → Looks → Looks
taken_data s got c m l =
    challenged s c (record (taken_at s got c m l) { firsts = with_first got c m.seq l.firsts })

-- a finished call ends once the other end has all its pieces
abbrev pub settled : CallRecord → CallRecord
settled k = record k { life = after_acks (is_delivered k.looks) k.life }

-- what another message that is heard changes beside its call: a right RESPONSE proves the client, a CHALLENGE is
-- answered
abbrev pub taken_heard : Setup → CallName → Body → Looks → Looks
taken_heard s c (bodies.Ack a) l = challenged s c (on_call c settled l)
taken_heard s c bodies.AckAll l = on_call c settled l
taken_heard s c (bodies.Response bytes) l = on_conn (connection_of c) (λ r. record r { proved = true }) l
taken_heard s c (bodies.Challenge bytes) l =
    on_channel (channel_of c) (λ q. record q { owed_response = s.class.respond c bytes }) l
taken_heard s c _ l = l

-- a code reaches the calls of a connection
abbrev pub stopped_all : Connection → ℤ → Looks → Looks
stopped_all x code l =
    on_calls (λ k. if same_connection (connection_of k.name) x then record k { life = after_code code k.life } else k) l

-- an ABORT of a call, or of a connection where it has no call number; a wrong RESPONSE
abbrev pub taken_stopped : CallName → Body → Looks → Looks
taken_stopped c (bodies.Abort code) l =
    if c.number == 0 then stopped_all (connection_of c) code l else on_life c (after_code code) l
taken_stopped c (bodies.Response bytes) l =
    on_channel (channel_of c) (owing_abort (Some RX_PROTOCOL_ERROR)) (on_life c (after_code RX_PROTOCOL_ERROR) l)
taken_stopped c _ l = l

-- the code with which a server's call ended or broke
abbrev pub served_code : Life → Option ℤ
served_code (lives.Broken code) = Some code
served_code (lives.Over code) = code
served_code _ = None

-- the code that data for a call that ended has told again: a cancelled call's too
abbrev pub told_code : Life → Option ℤ
told_code (lives.Ended (ends.Cancelled code)) = Some code
told_code life = served_code life

-- it ended with its reply read
abbrev pub is_ok_end : Life → Bool
is_ok_end (lives.Ended ends.Ok) = true
is_ok_end _ = false

-- what a message for a call that ended makes its channel owe again
abbrev pub owing_again : Body → Life → ChannelLooks → ChannelLooks
owing_again (bodies.Chunk payload) life q = owing_ackall (is_ok_end life) (owing_abort (told_code life) q)
owing_again (bodies.Ack a) life q = owing_abort (served_code life) q
owing_again _ life q = q

-- a message for a call that ended
abbrev pub taken_over : CallName → Body → Option CallRecord → Looks → Looks
taken_over c body None l = l
taken_over c body (Some k) l = on_channel (channel_of c) (owing_again body k.life) l

-- the channel's call breaks, and its client is told to wait
abbrev pub taken_busy : CallName → Looks → Looks
taken_busy c l =
    on_channel (channel_of c) (owing_busy c.number) (on_life (latest_name l (channel_of c)) (after_code RX_CALL_DEAD) l)

-- behind the rows in front, by the answer: a packet that is kept or has no slot may start its call
abbrev pub taken_with : Setup → Took → CallName → Message → Looks → Looks
taken_with s tooks.Kept c m l = taken_data s tooks.Kept c m (opened s c l)
taken_with s tooks.NoSlot c m l = taken_data s tooks.NoSlot c m (opened s c l)
taken_with s tooks.Repeat c m l = taken_data s tooks.Repeat c m l
taken_with s tooks.Beyond c m l = taken_data s tooks.Beyond c m l
taken_with s tooks.Clash c m l = taken_data s tooks.Clash c m l
taken_with s tooks.Heard c m l = taken_heard s c m.body (taken_at s tooks.Heard c m l)
taken_with s tooks.Stopped c m l = taken_stopped c m.body l
taken_with s tooks.Busy c m l = taken_busy c l
taken_with s tooks.NoRoom c m l = on_channel (channel_of c) (owing_busy c.number) l
taken_with s tooks.Over c m l = taken_over c m.body (call_at l c) l
taken_with s tooks.Full c m l = l
taken_with s tooks.Old c m l = l
taken_with s tooks.Unserved c m l = l
taken_with s tooks.Foreign c m l = l
taken_with s tooks.Strange c m l = l
taken_with s (tooks.Bad bad) c m l = l

-- the answers for which a server enters a connection that it doesn't know
abbrev pub enters : Took → Bool
enters tooks.Kept = true
enters tooks.NoSlot = true
enters tooks.Busy = true
enters tooks.NoRoom = true
enters _ = false

-- the connection of a message that is judged with it is used
abbrev pub prepared : Setup → Took → Connection → Looks → Looks
prepared s got x l = used x (if enters got then entered s x l else l)

-- DATA of a service that the server hasn't owes a stray abort; of more than so many the oldest is dropped
abbrev pub taken_unserved : Host → Message → Body → Looks → Looks
taken_unserved from m (bodies.Chunk payload) l =
    record l { strays = last_of STRAYS (l.strays ++ stray_of from m ∷ []) }
taken_unserved from m _ l = l

-- a message that a row in front answers
abbrev pub turned_away : Took → Host → Message → Looks → Looks
turned_away tooks.Unserved from m l = taken_unserved from m m.body l
turned_away _ from m l = l

-- by the row in front, where one holds
abbrev pub taken_behind : Setup → Option Took → Host → CallName → Message → Took → Looks → Looks
taken_behind s (Some row) from c m got l = turned_away row from m l
taken_behind s None from c m got l = taken_with s got c m (prepared s got (connection_of c) l)

-- a datagram that was taken, by the message that it says
abbrev pub taken_message : Setup → Host → Result Message BadMsg → Took → Looks → Looks
taken_message s from (Err bad) got l = l
taken_message s from (Ok m) got l = taken_behind s (outer_row s s.kind l from m) from (named s from m) m got l

-- ---- a message is given

-- the call or the channel that it is of no longer owes it
abbrev pub given_body : CallName → Message → Body → Looks → Looks
given_body c m (bodies.Chunk payload) l = on_looks c (after_piece l.now m.seq) l
given_body c m (bodies.Ack a) l = on_looks c (after_ack_given l.now) l
given_body c m (bodies.Abort code) l = on_channel (channel_of c) (λ q. record q { owed_abort = None }) l
given_body c m bodies.Busy l = on_channel (channel_of c) (λ q. record q { owed_busy = None }) l
given_body c m (bodies.Challenge bytes) l = on_channel (channel_of c) (λ q. record q { owed_challenge = false }) l
given_body c m (bodies.Response bytes) l = on_channel (channel_of c) (λ q. record q { owed_response = None }) l
given_body c m bodies.AckAll l = on_channel (channel_of c) (λ q. record q { owed_ackall = false }) l

-- one more datagram on its connection
abbrev pub counted : Connection → Looks → Looks
counted x l = on_conn x (λ r. record r { given = suc r.given; last_use = l.now }) l

-- a stray abort is of no connection
abbrev pub given_message : Setup → Host → Result Message BadMsg → Looks → Looks
given_message s to (Err bad) l = l
given_message s to (Ok m) l =
    if is_stray m m.body then record l { strays = drop 1 l.strays }
    else given_body (named s to m) m m.body (counted (connection_of (named s to m)) l)

-- a poll gave a datagram, or none
abbrev pub given_by : Setup → Option (Host × List ℕ) → Looks → Looks
given_by s None l = l
given_by s (Some (to, bytes)) l = given_message s to (reading_of bytes) l

-- ---- the application's calls

-- a read answered End
abbrev pub is_end : ReadGot → Bool
is_end (readers.Client answers.End) = true
is_end (readers.Server reads.End) = true
is_end _ = false

-- a client's call that is read to its end ends, and acknowledges all
abbrev pub acknowledged : Bool → CallName → Looks → Looks
acknowledged end c l =
    on_channel (channel_of c) (owing_ackall (end && is_call (λ k. is_calling k.life) (call_at l c))) l

-- a read answered, of a call
abbrev pub read_done : CallName → Bool → List ℕ → Looks → Looks
read_done c end bytes l =
    on_life c (after_end end) (on_looks c (after_read l.now end bytes) (acknowledged end c l))

-- a code of 0 is a handler's good end
abbrev pub is_zero : ℤ → Bool
is_zero (pos zero) = true
is_zero _ = false

-- a handler that ended well shuts its stream, any other has its code told
abbrev pub finished : CallName → ℤ → Looks → Looks
finished c code l =
    if is_zero code then on_looks c after_shut l
    else on_channel (channel_of c) (owing_abort (Some code)) l

-- a finish answered: where it was refused, a broken call alone ends
abbrev pub finish_done : CallName → ℤ → Result (Unit {0}) ServeRefused → Looks → Looks
finish_done c code (Ok done) l = on_life c (after_finish (is_zero code) code) (finished c code l)
finish_done c code (Err (refusals.Gone told)) l = on_life c after_gone l
finish_done c code (Err refusals.NotOpen) l = l
finish_done c code (Err refusals.Unread) l = l

-- a call that is given up has its code told
abbrev pub cancelled : CallName → ℤ → Looks → Looks
cancelled c code l = on_channel (channel_of c) (owing_abort (Some code)) (on_life c (after_cancel code) l)

-- a client's connection has its own host and epoch
abbrev pub linked : Kind → Host → ℕ → ℕ → ℕ → Looks → Looks
linked (Client host epoch) to service first cid l =
    placed (fresh_conn (record { host = host; epoch = epoch; cid = cid }) to service first l) None l
linked (Server service nonces) to other first cid l = l

-- ---- the fold

-- what an event makes of the look-ups
abbrev pub after : Setup → Event → Looks → Looks
after s (events.Linked to service first (Ok cid)) l = linked s.kind to service first cid l
after s (events.Linked to service first (Err full)) l = l
after s (events.Called cid (Ok c)) l = started s lives.Calling c l
after s (events.Called cid (Err refused)) l = l
after s (events.Wrote c offered got bytes) l = on_looks c (after_write bytes) l
after s (events.Shut c (Ok done)) l = on_looks c after_shut l
after s (events.Shut c (Err closed)) l = l
after s (events.HasRead c max got bytes) l = read_done c (is_end got) bytes l
after s (events.Ended c got) l = l
after s (events.Cancelled c code (Ok done)) l = cancelled c code l
after s (events.Cancelled c code (Err closed)) l = l
after s (events.Accepted (Some c)) l = on_life c after_accept l
after s (events.Accepted None) l = l
after s (events.Finished c code got) l = finish_done c code got l
after s (events.Taken from bytes got) l = taken_message s from (reading_of bytes) got l
after s (events.Polled got) l = given_by s got (silenced l)
after s (events.Clocked now) l = record l { now = now }

-- the look-ups of a history, which has its newest event first
abbrev pub looks : Setup → List Event → Looks
looks s [] = at_start
looks s (e ∷ h) = after s e (looks s h)
