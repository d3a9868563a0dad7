-- What polls and the handlers' calls leave of each call.
use Rattle.std.proofs.Common.{◌≡◌, ℕ, ℤ, suc, cond, if◌then◌else◌, Bool, true, false, List}
use Rattle.std.proofs.Common.{Option, Some, None, Result, Ok, Err, refl, arith}
use Rattle.std.proofs.Common.{drop, ◌&&◌}
use Rattle.rx_model.specs.declared.answers.BadMsg.{BadMsg}
use Rattle.rx_model.specs.declared.answers.ServeRefused.{ServeRefused}
use Rattle.rx_model.specs.declared.answers.ServeRefused.TheVariants as refusals
use Rattle.rx_model.specs.declared.names.CallName.{CallName}
use Rattle.rx_model.specs.declared.names.Host.{Host}
use Rattle.rx_rules.specs.After.{acknowledged, counted, finish_done, finished, given_body, given_by, given_message}
use Rattle.rx_rules.specs.After.{is_zero, owing_abort, owing_ackall}
use Rattle.rx_rules.specs.After.{read_done}
use Rattle.rx_model.specs.Body.{Body}
use Rattle.rx_model.specs.Body as bodies
use Rattle.rx_rules.specs.CallLooks.{after_ack_given, after_piece, after_read, after_shut}
use Rattle.rx_rules.specs.Life.{after_end, after_finish, after_gone, after_silence, is_calling, is_waiting}
use Rattle.rx_rules.specs.Looks.{CallRecord, ChannelLooks, Looks, call_at, is_call, on_channel}
use Rattle.rx_rules.specs.Looks.{on_looks}
use Rattle.rx_model.specs.Message.{Message}
use Rattle.rx_model.specs.Names.{Connection, channel_of, connection_of}
use Rattle.rx_model.specs.Reading.{reading_of}
use Rattle.rx_rules.specs.Records.{is_silent, silence_of, silenced, unless_silent}
use Rattle.rx_rules.specs.Setup.{Setup, named}
use Rattle.rx_model.specs.Strays.{is_stray}
use Rattle.rx_rules.proofs.KeepsLaws.{Keeps, keeps-on_calls, keeps-on_channel, keeps-on_conn, keeps-on_life}
use Rattle.rx_rules.proofs.KeepsLaws.{keeps-on_looks, keeps-refl, keeps-trans}
use Rattle.rx_rules.proofs.LifeLaws.{end_waits, finish_waits, gone_waits, silence_waits}

-- ---- a message is given

pub silent-name : (now : ℕ) (k : CallRecord) → (unless_silent now k).name ≡ k.name
silent-name now k = of (is_silent now k)
  where
    of : (b : Bool) → (cond b (record k { life = after_silence (silence_of now k) k.life }) k).name ≡ k.name
    of true = refl
    of false = refl

pub silent-waits : (now : ℕ) (k : CallRecord) → is_waiting (unless_silent now k).life ≡ true → is_waiting k.life ≡ true
silent-waits now k = of (is_silent now k)
  where
    of : (b : Bool) → is_waiting (cond b (record k { life = after_silence (silence_of now k) k.life }) k).life ≡ true
        → is_waiting k.life ≡ true
    of true is = silence_waits (silence_of now k) k.life is
    of false is = is

pub keeps-silenced : (c : CallName) (l : Looks) → Keeps c l (silenced l)
keeps-silenced c l = keeps-on_calls c (unless_silent l.now) l (silent-name l.now) (silent-waits l.now)

pub keeps-body : (c d : CallName) (m : Message) (body : Body) (l : Looks) → Keeps c l (given_body d m body l)
keeps-body c d m (bodies.Chunk payload) l = keeps-on_looks c d (after_piece l.now m.seq) l
keeps-body c d m (bodies.Ack a) l = keeps-on_looks c d (after_ack_given l.now) l
keeps-body c d m (bodies.Abort code) l =
    keeps-on_channel c (channel_of d) (λ q. record q { owed_abort = None }) l (λ q. refl)
keeps-body c d m bodies.Busy l = keeps-on_channel c (channel_of d) (λ q. record q { owed_busy = None }) l (λ q. refl)
keeps-body c d m (bodies.Challenge bytes) l =
    keeps-on_channel c (channel_of d) (λ q. record q { owed_challenge = false }) l (λ q. refl)
keeps-body c d m (bodies.Response bytes) l =
    keeps-on_channel c (channel_of d) (λ q. record q { owed_response = None }) l (λ q. refl)
keeps-body c d m bodies.AckAll l =
    keeps-on_channel c (channel_of d) (λ q. record q { owed_ackall = false }) l (λ q. refl)

pub keeps-counted : (c : CallName) (x : Connection) (l : Looks) → Keeps c l (counted x l)
keeps-counted c x l =
    keeps-on_conn c x (λ r. record r { given = suc r.given; last_use = l.now }) l
    (record { names = λ r. refl; numbers = λ r n. omega arith; lengths = λ r. refl })

pub keeps-given : (s : Setup) (to : Host) (reading : Result Message BadMsg) (c : CallName) (l : Looks)
    → Keeps c l (given_message s to reading l)
keeps-given s to (Err bad) c l = keeps-refl c l
keeps-given s to (Ok m) c l = of (is_stray m m.body)
  where
    x : Connection
    x = connection_of (named s to m)

    of : (b : Bool) → Keeps c l
        (if b then record l { strays = drop 1 l.strays } else given_body (named s to m) m m.body (counted x l))
    of true = (let k = keeps-refl c l in record { calls = k.calls; numbers = k.numbers; fours = k.fours })
    of false =
        keeps-trans c l (counted x l) _ (keeps-counted c x l) (keeps-body c (named s to m) m m.body (counted x l))

pub keeps-polled : (s : Setup) (got : Option (Host × List ℕ)) (c : CallName) (l : Looks) → Keeps c l (given_by s got l)
keeps-polled s None c l = keeps-refl c l
keeps-polled s (Some (to, bytes)) c l = keeps-given s to (reading_of bytes) c l

-- ---- the handlers' calls

pub ackall-number : (owes : Bool) (q : ChannelLooks) → (owing_ackall owes q).number ≡ q.number
ackall-number true q = refl
ackall-number false q = refl

pub keeps-read : (c d : CallName) (end : Bool) (bytes : List ℕ) (l : Looks) → Keeps c l (read_done d end bytes l)
keeps-read c d end bytes l =
    let first : Looks = acknowledged end d l in
    let second : Looks = on_looks d (after_read l.now end bytes) first in
    keeps-trans c l first _
    (keeps-on_channel c (channel_of d) (owing_ackall (end && is_call (λ k. is_calling k.life) (call_at l d))) l
    (ackall-number (end && is_call (λ k. is_calling k.life) (call_at l d))))
    (keeps-trans c first second _ (keeps-on_looks c d (after_read l.now end bytes) first)
    (keeps-on_life c d (after_end end) second (end_waits end)))

pub keeps-finished : (c d : CallName) (code : ℤ) (l : Looks) → Keeps c l (finished d code l)
keeps-finished c d code l = of (is_zero code)
  where
    of : (b : Bool) → Keeps c l
        (if b then on_looks d after_shut l else on_channel (channel_of d) (owing_abort (Some code)) l)
    of true = keeps-on_looks c d after_shut l
    of false = keeps-on_channel c (channel_of d) (owing_abort (Some code)) l (λ q. refl)

pub keeps-finish : (c d : CallName) (code : ℤ) (got : Result (Unit {0}) ServeRefused) (l : Looks)
    → Keeps c l (finish_done d code got l)
keeps-finish c d code (Ok done) l =
    keeps-trans c l (finished d code l) _ (keeps-finished c d code l)
    (keeps-on_life c d (after_finish (is_zero code) code) (finished d code l) (finish_waits (is_zero code) code))
keeps-finish c d code (Err (refusals.Gone told)) l = keeps-on_life c d after_gone l gone_waits
keeps-finish c d code (Err refusals.NotOpen) l = keeps-refl c l
keeps-finish c d code (Err refusals.Unread) l = keeps-refl c l
