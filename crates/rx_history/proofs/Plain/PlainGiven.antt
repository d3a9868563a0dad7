-- Polls and the handlers' calls prove no connection.
use Rattle.std.proofs.Common.{ℕ, ℤ, suc, if◌then◌else◌, drop, Bool, true, false}
use Rattle.std.proofs.Common.{List, Option, Some, None, Result, Ok, Err, refl}
use Rattle.rx_model.specs.declared.answers.BadMsg.{BadMsg}
use Rattle.rx_model.specs.declared.answers.ServeRefused.{ServeRefused}
use Rattle.rx_model.specs.declared.answers.ServeRefused.TheVariants as refusals
use Rattle.rx_model.specs.declared.names.CallName.{CallName}
use Rattle.rx_model.specs.declared.names.Host.{Host}
use Rattle.rx_rules.specs.After.{counted, finish_done, given_body, given_by, given_message, is_zero, owing_abort}
use Rattle.rx_model.specs.Body.{Body}
use Rattle.rx_model.specs.Body as bodies
use Rattle.rx_rules.specs.Looks.{Looks, conn_at, on_channel, on_looks}
use Rattle.rx_rules.specs.CallLooks.{after_shut}
use Rattle.rx_model.specs.Strays.{is_stray}
use Rattle.rx_model.specs.Message.{Message}
use Rattle.rx_model.specs.Names.{Connection, channel_of, connection_of}
use Rattle.rx_model.specs.Reading.{reading_of}
use Rattle.rx_rules.specs.Records.{silenced}
use Rattle.rx_rules.specs.Setup.{Setup, named}
use Rattle.rx_history.proofs.Laws.ShownLaws.{Plain, fine-refl, plain-on_channel, plain-on_conn, plain-trans}

-- ---- other events

plain-counted : (y x : Connection) (l : Looks) → Plain y l (counted x l)
plain-counted y x l =
    plain-on_conn y x (λ r. record r { given = suc r.given; last_use = l.now }) l
    (record { names = λ r. refl; proved = λ r is. is; order = λ r. refl })

plain-body : (y : Connection) (d : CallName) (m : Message) (body : Body) (l : Looks) → Plain y l (given_body d m body l)
plain-body y d m (bodies.Chunk payload) l = fine-refl (conn_at l y)
plain-body y d m (bodies.Ack a) l = fine-refl (conn_at l y)
plain-body y d m (bodies.Abort code) l = plain-on_channel y (channel_of d) (λ q. record q { owed_abort = None }) l
plain-body y d m bodies.Busy l = plain-on_channel y (channel_of d) (λ q. record q { owed_busy = None }) l
plain-body y d m (bodies.Challenge bytes) l =
    plain-on_channel y (channel_of d) (λ q. record q { owed_challenge = false }) l
plain-body y d m (bodies.Response bytes) l = plain-on_channel y (channel_of d)
    (λ q. record q { owed_response = None }) l
plain-body y d m bodies.AckAll l = plain-on_channel y (channel_of d) (λ q. record q { owed_ackall = false }) l

plain-given : (s : Setup) (to : Host) (reading : Result Message BadMsg) (y : Connection) (l : Looks)
    → Plain y l (given_message s to reading l)
plain-given s to (Err bad) y l = fine-refl (conn_at l y)
plain-given s to (Ok m) y l = of (is_stray m m.body)
  where
    x : Connection
    x = connection_of (named s to m)

    of : (b : Bool) → Plain y l
        (if b then record l { strays = drop 1 l.strays } else given_body (named s to m) m m.body (counted x l))
    of true = fine-refl (conn_at l y)
    of false =
        plain-trans y l (counted x l) (given_body (named s to m) m m.body (counted x l)) (plain-counted y x l)
        (plain-body y (named s to m) m m.body (counted x l))

pub plain-polled : (s : Setup) (got : Option (Host × List ℕ)) (y : Connection) (l : Looks)
    → Plain y l (given_by s got (silenced l))
plain-polled s None y l = fine-refl (conn_at l y)
plain-polled s (Some (to, bytes)) y l = plain-given s to (reading_of bytes) y (silenced l)

pub plain-finish : (y : Connection) (d : CallName) (code : ℤ) (got : Result (Unit {0}) ServeRefused) (l : Looks)
    → Plain y l (finish_done d code got l)
plain-finish y d code (Ok done) l = of (is_zero code)
  where
    of : (b : Bool) → Plain y l
        (if b then on_looks d after_shut l else on_channel (channel_of d) (owing_abort (Some code)) l)
    of true = fine-refl (conn_at l y)
    of false = plain-on_channel y (channel_of d) (owing_abort (Some code)) l
plain-finish y d code (Err (refusals.Gone told)) l = fine-refl (conn_at l y)
plain-finish y d code (Err refusals.NotOpen) l = fine-refl (conn_at l y)
plain-finish y d code (Err refusals.Unread) l = fine-refl (conn_at l y)
