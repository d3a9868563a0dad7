-- Each event leaves the numbers of the stray aborts that are owed within their fields.
use Rattle.std.proofs.Common.{◌≡◌, ◌-◌, ◌<◌, ◌^◌, ℕ, ℤ, zero, suc, if◌then◌else◌, Bool, true, false, List, [], ◌∷◌}
use Rattle.std.proofs.Common.{◌++◌, drop, length}
use Rattle.std.proofs.Common.{Option, Some, None, Result, Ok, Err, refl, ◌∙◌, sym, subst}
use Rattle.rx_model.specs.declared.answers.BadMsg.{BadMsg}
use Rattle.rx_model.specs.declared.answers.ServeRefused.{ServeRefused}
use Rattle.rx_model.specs.declared.answers.ServeRefused.TheVariants as refusals
use Rattle.rx_model.specs.declared.answers.Took.{Took}
use Rattle.rx_model.specs.declared.answers.Took.TheVariants as tooks
use Rattle.rx_model.specs.declared.event.Event.{Event}
use Rattle.rx_model.specs.declared.event.Event.TheVariants as events
use Rattle.rx_model.specs.declared.names.CallName.{CallName}
use Rattle.rx_model.specs.declared.names.Host.{Host}
use Rattle.rx_model.specs.declared.stray.Stray.{Stray}
use Rattle.rx_model.specs.declared.wire.TheConstants.{STRAYS}
use Rattle.rx_model.specs.Body.{Body}
use Rattle.rx_model.specs.Body as bodies
use Rattle.rx_model.specs.Message.{Message}
use Rattle.rx_model.specs.Names.{channel_of, connection_of}
use Rattle.rx_model.specs.Reading.{reading_of}
use Rattle.rx_model.specs.Strays.{is_stray, stray_of}
use Rattle.rx_rules.specs.After.{after, counted, finish_done, given_body, given_by, given_message, is_zero, linked}
use Rattle.rx_rules.specs.After.{owing_abort, prepared, taken_behind, taken_message, taken_unserved, taken_with}
use Rattle.rx_rules.specs.After.{turned_away}
use Rattle.rx_rules.specs.CallLooks.{after_shut}
use Rattle.rx_rules.specs.Judging.{outer_row}
use Rattle.rx_rules.specs.Looks.{Looks, on_channel, on_looks}
use Rattle.rx_rules.specs.Records.{silenced}
use Rattle.rx_rules.specs.Setup.{Setup, Kind, Server, Client, named}
use Rattle.rx_rules.proofs.EveryLaws.{Every, every-append}
use Rattle.rx_history.proofs.EventFacts.{EventFits}
use Rattle.rx_history.proofs.Fit.FitTaken.{Came, read_came}
use Rattle.rx_history.proofs.Laws.ForgotLaws.{with-strays}
use Rattle.rx_history.proofs.StraysStay.{strays-prepared}

-- the numbers of the packet that owes one
pub record FitsStray (x : Stray) : Type 0 where
  pub epoch : x.epoch < 2 ^ 32
  pub cid : x.cid < 2 ^ 32
  pub index : x.index < 256
  pub service : x.service < 2 ^ 16

-- of each
abbrev pub StraysFit : Looks → Type 0
StraysFit l = Every FitsStray l.strays

every-drop : (n : ℕ) (xs : List Stray) → Every FitsStray xs → Every FitsStray (drop n xs)
every-drop zero xs all = all
every-drop (suc n) [] all = tt
every-drop (suc n) (x ∷ xs) all = every-drop n xs all.1

strays-by : (l m : Looks) → m.strays ≡ l.strays → StraysFit l → StraysFit m
strays-by l m same all = subst (λ (xs : List Stray). Every FitsStray xs) (sym same) all

strays-turned : (row : Took) (from : Host) (m : Message) (l : Looks) → Came m → StraysFit l
    → StraysFit (turned_away row from m l)
strays-turned tooks.Unserved from m l came all = of m.body
  where
    more : List Stray
    more = l.strays ++ stray_of from m ∷ []

    head : FitsStray (stray_of from m)
    head = record {
      epoch = came.header.epoch;
      cid = came.header.cid;
      index = came.header.index;
      service =
          came.header.service;
    }

    of : (body : Body) → StraysFit (taken_unserved from m body l)
    of (bodies.Chunk payload) =
        every-drop (length more - STRAYS) more (every-append FitsStray l.strays (stray_of from m ∷ []) all (head, tt))
    of _ = all
strays-turned _ from m l came all = all

strays-message : (s : Setup) (from : Host) (reading : Result Message BadMsg) (got : Took) (l : Looks)
    → ((m : Message) → reading ≡ Ok m → Came m) → StraysFit l → StraysFit (taken_message s from reading got l)
strays-message s from (Err bad) got l came all = all
strays-message s from (Ok m) got l came all = of (outer_row s s.kind l from m)
  where
    d : CallName
    d = named s from m

    of : (row : Option Took) → StraysFit (taken_behind s row from d m got l)
    of (Some row) = strays-turned row from m l (came m refl) all
    of None =
        strays-by l (taken_with s got d m (prepared s got (connection_of d) l))
        (with-strays s got d m (prepared s got (connection_of d) l) ∙ strays-prepared s got (connection_of d) l) all

strays-body : (d : CallName) (m : Message) (body : Body) (l : Looks) → StraysFit l → StraysFit (given_body d m body l)
strays-body d m (bodies.Chunk payload) l all = all
strays-body d m (bodies.Ack a) l all = all
strays-body d m (bodies.Abort code) l all = all
strays-body d m bodies.Busy l all = all
strays-body d m (bodies.Challenge bytes) l all = all
strays-body d m (bodies.Response bytes) l all = all
strays-body d m bodies.AckAll l all = all

strays-polled : (s : Setup) (got : Option (Host × List ℕ)) (l : Looks) → StraysFit l → StraysFit (given_by s got l)
strays-polled s None l all = all
strays-polled s (Some (to, bytes)) l all = of (reading_of bytes)
  where
    by : (b : Bool) (m : Message) → StraysFit
        (if b then record l { strays = drop 1 l.strays } else given_body (named s to m) m m.body
        (counted (connection_of (named s to m)) l))
    by true m = every-drop 1 l.strays all
    by false m = strays-body (named s to m) m m.body (counted (connection_of (named s to m)) l) all

    of : (reading : Result Message BadMsg) → StraysFit (given_message s to reading l)
    of (Err bad) = all
    of (Ok m) = by (is_stray m m.body) m

strays-finish : (d : CallName) (code : ℤ) (got : Result (Unit {0}) ServeRefused) (l : Looks) → StraysFit l
    → StraysFit (finish_done d code got l)
strays-finish d code (Ok done) l all = of (is_zero code)
  where
    of : (b : Bool) → StraysFit
        (if b then on_looks d after_shut l else on_channel (channel_of d) (owing_abort (Some code)) l)
    of true = all
    of false = all
strays-finish d code (Err (refusals.Gone told)) l all = all
strays-finish d code (Err refusals.NotOpen) l all = all
strays-finish d code (Err refusals.Unread) l all = all

strays-linked : (kind : Kind) (to : Host) (service first cid : ℕ) (l : Looks) → StraysFit l
    → StraysFit (linked kind to service first cid l)
strays-linked (Client host epoch) to service first cid l all = all
strays-linked (Server service nonces) to other first cid l all = all

-- each event leaves them so
pub strays_after : (s : Setup) (l : Looks) (e : Event) → EventFits s l e → StraysFit l → StraysFit (after s e l)
strays_after s l (events.Linked to service first (Ok cid)) is all = strays-linked s.kind to service first cid l all
strays_after s l (events.Linked to service first (Err full)) is all = all
strays_after s l (events.Called cid (Ok c)) is all = all
strays_after s l (events.Called cid (Err refused)) is all = all
strays_after s l (events.Wrote c offered got bytes) is all = all
strays_after s l (events.Shut c (Ok done)) is all = all
strays_after s l (events.Shut c (Err closed)) is all = all
strays_after s l (events.HasRead c max got bytes) is all = all
strays_after s l (events.Ended c got) is all = all
strays_after s l (events.Cancelled c code (Ok done)) is all = all
strays_after s l (events.Cancelled c code (Err closed)) is all = all
strays_after s l (events.Accepted (Some c)) is all = all
strays_after s l (events.Accepted None) is all = all
strays_after s l (events.Finished c code got) is all = strays-finish c code got l all
strays_after s l (events.Taken from bytes got) is all =
    strays-message s from (reading_of bytes) got l (λ m reads. read_came bytes m is.0 reads) all
strays_after s l (events.Polled got) is all = strays-polled s got (silenced l) all
strays_after s l (events.Clocked now) is all = all
