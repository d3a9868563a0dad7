-- What is forgotten stays forgotten.
use Rattle.std.proofs.Common.{◌≡◌, ℕ, ℤ, if◌then◌else◌, Bool, true, false, List, []}
use Rattle.std.proofs.Common.{Option, Some, None, Result, Ok, Err, refl, ◌∙◌, sym}
use Rattle.std.proofs.Common.{drop}
use Rattle.rx_model.specs.declared.answers.BadMsg.{BadMsg}
use Rattle.rx_model.specs.declared.answers.ServeRefused.{ServeRefused}
use Rattle.rx_model.specs.declared.answers.ServeRefused.TheVariants as refusals
use Rattle.rx_model.specs.declared.answers.Took.{Took}
use Rattle.rx_model.specs.declared.answers.Took.TheVariants as tooks
use Rattle.rx_model.specs.declared.names.CallName.{CallName}
use Rattle.rx_model.specs.declared.names.Host.{Host}
use Rattle.rx_rules.specs.After.{counted, finish_done, given_body, given_by, given_message}
use Rattle.rx_rules.specs.After.{is_zero, owing_abort, prepared, taken_behind, taken_message}
use Rattle.rx_rules.specs.After.{taken_unserved, turned_away}
use Rattle.rx_model.specs.Body.{Body}
use Rattle.rx_model.specs.Body as bodies
use Rattle.rx_rules.specs.CallLooks.{after_shut}
use Rattle.rx_rules.specs.Judging.{outer_row}
use Rattle.rx_rules.specs.Looks.{Looks, on_channel}
use Rattle.rx_rules.specs.Looks.{on_looks}
use Rattle.rx_model.specs.Message.{Message}
use Rattle.rx_model.specs.Names.{Connection, channel_of, connection_of}
use Rattle.rx_model.specs.Reading.{reading_of}
use Rattle.rx_rules.specs.Records.{silenced}
use Rattle.rx_rules.specs.Setup.{Setup, named}
use Rattle.rx_model.specs.Strays.{is_stray}
use Rattle.rx_history.proofs.Laws.ForgotLaws.{with-forgotten}
use Rattle.rx_history.proofs.MessageTaken.{forgot-prepared}

pub forgot-given : (s : Setup) (to : Host) (reading : Result Message BadMsg) (l : Looks)
    → (given_message s to reading l).forgotten ≡ l.forgotten
forgot-given s to (Err bad) l = refl
forgot-given s to (Ok m) l = of (is_stray m m.body) m.body
  where
    x : Connection
    x = connection_of (named s to m)

    of : (b : Bool) (body : Body)
        → (if b then record l { strays = drop 1 l.strays } else given_body (named s to m) m body
        (counted x l)).forgotten
        ≡ l.forgotten
    of true body = refl
    of false (bodies.Chunk payload) = refl
    of false (bodies.Ack a) = refl
    of false (bodies.Abort code) = refl
    of false bodies.Busy = refl
    of false (bodies.Challenge bytes) = refl
    of false (bodies.Response bytes) = refl
    of false bodies.AckAll = refl

pub forgot-polled : (s : Setup) (got : Option (Host × List ℕ)) (l : Looks)
    → (given_by s got (silenced l)).forgotten ≡ l.forgotten
forgot-polled s None l = refl
forgot-polled s (Some (to, bytes)) l = forgot-given s to (reading_of bytes) (silenced l)

pub forgot-turned : (row : Took) (from : Host) (m : Message) (l : Looks) → (turned_away row from m l).forgotten
    ≡ l.forgotten
forgot-turned tooks.Unserved from m l = of m.body
  where
    of : (body : Body) → (taken_unserved from m body l).forgotten ≡ l.forgotten
    of (bodies.Chunk payload) = refl
    of bodies.Busy = refl
    of (bodies.Ack a) = refl
    of (bodies.Abort code) = refl
    of bodies.AckAll = refl
    of (bodies.Challenge bytes) = refl
    of (bodies.Response bytes) = refl
forgot-turned _ from m l = refl

pub forgot-behind : (s : Setup) (row : Option Took) (from : Host) (d : CallName) (m : Message) (got : Took) (l : Looks)
    → (taken_behind s row from d m got l).forgotten ≡ [] → l.forgotten ≡ []
forgot-behind s (Some row) from d m got l none = sym (forgot-turned row from m l) ∙ none
forgot-behind s None from d m got l none =
    forgot-prepared s got (connection_of d) l (sym (with-forgotten s got d m (prepared s got (connection_of d) l))
    ∙ none)

pub forgot-message : (s : Setup) (from : Host) (reading : Result Message BadMsg) (got : Took) (l : Looks)
    → (taken_message s from reading got l).forgotten ≡ [] → l.forgotten ≡ []
forgot-message s from (Err bad) got l none = none
forgot-message s from (Ok m) got l none = forgot-behind s (outer_row s s.kind l from m) from
    (named s from m) m got l none

pub forgot-finish : (d : CallName) (code : ℤ) (got : Result (Unit {0}) ServeRefused) (l : Looks)
    → (finish_done d code got l).forgotten ≡ l.forgotten
forgot-finish d code (Ok done) l = of (is_zero code)
  where
    of : (b : Bool)
        → (if b then on_looks d after_shut l else on_channel (channel_of d) (owing_abort (Some code)) l).forgotten
        ≡ l.forgotten
    of true = refl
    of false = refl
forgot-finish d code (Err (refusals.Gone told)) l = refl
forgot-finish d code (Err refusals.NotOpen) l = refl
forgot-finish d code (Err refusals.Unread) l = refl
