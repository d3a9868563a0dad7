-- Polls and the application's calls bring no call to life.
use Rattle.std.proofs.Common.{◌&&◌, ℕ, ℤ, suc, if◌then◌else◌, drop, Bool, true, false, List, Option}
use Rattle.std.proofs.Common.{Some, None}
use Rattle.std.proofs.Common.{Result, Ok, Err, refl}
use Rattle.rx_model.specs.declared.answers.BadMsg.{BadMsg}
use Rattle.rx_model.specs.declared.answers.ServeRefused.{ServeRefused}
use Rattle.rx_model.specs.declared.answers.ServeRefused.TheVariants as refusals
use Rattle.rx_model.specs.declared.names.CallName.{CallName}
use Rattle.rx_model.specs.declared.names.Host.{Host}
use Rattle.rx_model.specs.Body.{Body}
use Rattle.rx_model.specs.Body as bodies
use Rattle.rx_model.specs.Message.{Message}
use Rattle.rx_model.specs.Names.{Connection, channel_of, connection_of}
use Rattle.rx_model.specs.Reading.{reading_of}
use Rattle.rx_model.specs.Strays.{is_stray}
use Rattle.rx_rules.specs.After.{acknowledged, cancelled, counted, finish_done, finished, given_body}
use Rattle.rx_rules.specs.After.{given_by, given_message}
use Rattle.rx_rules.specs.After.{is_zero, owing_abort, owing_ackall, read_done}
use Rattle.rx_rules.specs.CallLooks.{after_ack_given, after_piece, after_read, after_shut}
use Rattle.rx_rules.specs.Life.{after_cancel, after_end, after_finish, after_gone, after_silence, is_calling}
use Rattle.rx_rules.specs.Looks.{Looks, call_at, is_call, on_channel}
use Rattle.rx_rules.specs.Looks.{on_life, on_looks}
use Rattle.rx_rules.specs.Records.{is_silent, silence_of, silenced, unless_silent}
use Rattle.rx_rules.specs.Setup.{Setup, named}
use Rattle.rx_history.proofs.Dimensions.Dims.{Dims, dims_all, dims_channel, dims_conn, dims_if, dims_life, dims_looks}
use Rattle.rx_history.proofs.Dimensions.Dims.{dims_refl, dims_trans, fades_if, fades_life}
use Rattle.rx_history.proofs.LifeFalls.{cancel_falls, end_falls, finish_falls, gone_falls}
use Rattle.rx_history.proofs.LifeFalls.{silence_falls}
use Rattle.rx_history.proofs.Laws.TakenLaws.{abort-number}
use Rattle.rx_history.proofs.Given.GivenLaws.{ackall-number}

-- ---- a poll

silenced-dims : (l : Looks) → Dims l (silenced l)
silenced-dims l =
    dims_all (unless_silent l.now) l
    (λ k. fades_if (is_silent l.now k) k (record k { life = after_silence (silence_of l.now k) k.life })
    (fades_life k (after_silence (silence_of l.now k) k.life) (silence_falls (silence_of l.now k) k.life)))

body-dims : (c : CallName) (m : Message) (body : Body) (l : Looks) → Dims l (given_body c m body l)
body-dims c m (bodies.Chunk payload) l = dims_looks c (after_piece l.now m.seq) l (λ k is. is)
body-dims c m (bodies.Ack a) l = dims_looks c (after_ack_given l.now) l (λ k is. is)
body-dims c m (bodies.Abort code) l = dims_channel (channel_of c) (λ q. record q { owed_abort = None }) l (λ q. refl)
body-dims c m bodies.Busy l = dims_channel (channel_of c) (λ q. record q { owed_busy = None }) l (λ q. refl)
body-dims c m (bodies.Challenge bytes) l = dims_channel (channel_of c) (λ q. record q { owed_challenge = false }) l
    (λ q. refl)
body-dims c m (bodies.Response bytes) l = dims_channel (channel_of c) (λ q. record q { owed_response = None }) l
    (λ q. refl)
body-dims c m bodies.AckAll l = dims_channel (channel_of c) (λ q. record q { owed_ackall = false }) l (λ q. refl)

counted-dims : (x : Connection) (l : Looks) → Dims l (counted x l)
counted-dims x l =
    dims_conn x (λ r. record r { given = suc r.given; last_use = l.now }) l
    (λ r. record { alike = record { connection = refl; length = refl }; numbers = λ n. refl })

given-dims : (s : Setup) (to : Host) (reading : Result Message BadMsg) (l : Looks)
    → Dims l (given_message s to reading l)
given-dims s to (Err bad) l = dims_refl l
given-dims s to (Ok m) l = of (is_stray m m.body)
  where
    at : Looks
    at = counted (connection_of (named s to m)) l

    of : (b : Bool) → Dims l
        (if b then record l { strays = drop 1 l.strays } else given_body (named s to m) m m.body at)
    of true = (let same = dims_refl l in record { calls = same.calls; conns = same.conns })
    of false =
        dims_trans l at (given_body (named s to m) m m.body at) (counted-dims (connection_of (named s to m)) l)
        (body-dims (named s to m) m m.body at)

-- whatever a poll gives
pub polled_dims : (s : Setup) (got : Option (Host × List ℕ)) (l : Looks) → Dims l (given_by s got (silenced l))
polled_dims s None l = silenced-dims l
polled_dims s (Some (to, bytes)) l =
    dims_trans l (silenced l) (given_message s to (reading_of bytes) (silenced l)) (silenced-dims l)
    (given-dims s to (reading_of bytes) (silenced l))

-- ---- the application's calls

-- a read
pub read_dims : (c : CallName) (end : Bool) (bytes : List ℕ) (l : Looks) → Dims l (read_done c end bytes l)
read_dims c end bytes l =
    let owes : Bool = end && is_call (λ k. is_calling k.life) (call_at l c) in
    let first : Looks = acknowledged end c l in
    let second : Looks = on_looks c (after_read l.now end bytes) first in
    dims_trans l first (read_done c end bytes l)
    (dims_channel (channel_of c) (owing_ackall owes) l (ackall-number owes))
    (dims_trans first second (read_done c end bytes l) (dims_looks c (after_read l.now end bytes) first (λ k is. is))
    (dims_life c (after_end end) second (end_falls end)))

-- a finish
pub finish_dims : (c : CallName) (code : ℤ) (got : Result (Unit {0}) ServeRefused) (l : Looks)
    → Dims l (finish_done c code got l)
finish_dims c code (Ok done) l =
    dims_trans l (finished c code l) (finish_done c code (Ok done) l)
    (dims_if (is_zero code) l (on_looks c after_shut l) (on_channel (channel_of c) (owing_abort (Some code)) l)
    (dims_looks c after_shut l (λ k is. is))
    (dims_channel (channel_of c) (owing_abort (Some code)) l (abort-number (Some code))))
    (dims_life c (after_finish (is_zero code) code) (finished c code l) (finish_falls (is_zero code) code))
finish_dims c code (Err (refusals.Gone told)) l = dims_life c after_gone l gone_falls
finish_dims c code (Err refusals.NotOpen) l = dims_refl l
finish_dims c code (Err refusals.Unread) l = dims_refl l

-- a cancel
pub cancel_dims : (c : CallName) (code : ℤ) (l : Looks) → Dims l (cancelled c code l)
cancel_dims c code l =
    let ended : Looks = on_life c (after_cancel code) l in
    dims_trans l ended (cancelled c code l) (dims_life c (after_cancel code) l (cancel_falls code))
    (dims_channel (channel_of c) (owing_abort (Some code)) ended (abort-number (Some code)))
