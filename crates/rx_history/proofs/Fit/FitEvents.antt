-- Each event leaves each number of each call within its field.
use Rattle.rx_rules.specs.Looks.{on_life}
use Rattle.std.proofs.Common.{◌≡◌, ◌-◌, ℕ, ℤ, cond, Bool, true, false, List, drop}
use Rattle.std.proofs.Common.{Option, Some, None, Result, Ok, Err, refl}
use Rattle.rx_model.specs.declared.answers.BadMsg.{BadMsg}
use Rattle.rx_model.specs.declared.answers.ServeRefused.TheVariants as refusals
use Rattle.rx_model.specs.declared.event.Event.{Event}
use Rattle.rx_model.specs.declared.event.Event.TheVariants as events
use Rattle.rx_model.specs.declared.names.CallName.{CallName}
use Rattle.rx_model.specs.declared.names.Host.{Host}
use Rattle.rx_model.specs.Body.{Body}
use Rattle.rx_model.specs.Body as bodies
use Rattle.rx_model.specs.Message.{Message}
use Rattle.rx_model.specs.Names.{channel_of, connection_of}
use Rattle.rx_model.specs.Reading.{reading_of}
use Rattle.rx_model.specs.Spelling.{IsCode}
use Rattle.rx_model.specs.Strays.{is_stray}
use Rattle.rx_rules.specs.After.{after, acknowledged, counted, finished, given_body, given_by, given_message, is_end}
use Rattle.rx_rules.specs.After.{is_zero, linked}
use Rattle.rx_rules.specs.After.{owing_abort}
use Rattle.rx_rules.specs.CallLooks.{after_ack_given, after_piece, after_read, after_shut, after_write}
use Rattle.rx_rules.specs.CallLooks.{tells_hole}
use Rattle.rx_rules.specs.Life.{after_accept, after_cancel, after_end, after_finish, after_gone, after_silence}
use Rattle.rx_rules.specs.Life as lives
use Rattle.rx_rules.specs.Looks.{CallRecord, Looks, on_channel, on_looks}
use Rattle.rx_rules.specs.Records.{is_silent, silence_of, silenced, unless_silent}
use Rattle.rx_rules.specs.Setup.{Setup, Kind, Server, Client, FitsSetup, named}
use Rattle.rx_history.proofs.Fit.FitCall.{CallsFit, FitsCall, life_fits, read_fits, write_fits}
use Rattle.rx_history.proofs.Fit.FitCalls.{fit_calls, fit_life, fit_looks, fit_started}
use Rattle.rx_history.proofs.Fit.FitTaken.{fit_message, read_came}
use Rattle.rx_history.proofs.Fit.FitValues.{accept_life, cancel_life, end_life, finish_life, given_owed_fits, gone_life}
use Rattle.rx_history.proofs.Fit.FitValues.{silence_life}
use Rattle.rx_history.proofs.EventFacts.{EventFits}

pub fit-silenced : (l : Looks) → CallsFit l.calls → CallsFit (silenced l).calls
fit-silenced l all =
    fit_calls (unless_silent l.now) l (λ k. name (is_silent l.now k) k) (λ k f. of (is_silent l.now k) k f) all
  where
    name : (b : Bool) (k : CallRecord)
        → (cond b (record k { life = after_silence (silence_of l.now k) k.life }) k).name ≡ k.name
    name true k = refl
    name false k = refl

    of : (b : Bool) (k : CallRecord) → FitsCall k
        → FitsCall (cond b (record k { life = after_silence (silence_of l.now k) k.life }) k)
    of true k f = life_fits k (after_silence (silence_of l.now k) k.life)
        (silence_life (silence_of l.now k) k.life f.life) f
    of false k f = f

fit-body : (c : CallName) (m : Message) (body : Body) (l : Looks) → CallsFit l.calls
    → CallsFit (given_body c m body l).calls
fit-body c m (bodies.Chunk payload) l all =
    fit_looks c (after_piece l.now m.seq) l
    (λ k there f. record { received = f.received; owed = f.owed; said = f.said; life = f.life; number = f.number }) all
fit-body c m (bodies.Ack a) l all =
    fit_looks c (after_ack_given l.now) l
    (λ k there f. record {
      received = f.received;
      owed =
          given_owed_fits l.now (tells_hole k.looks) (l.now - k.looks.heard);
      said = f.said;
      life = f.life;
      number = f.number;
    }) all
fit-body c m _ l all = all

fit-given : (s : Setup) (to : Host) (reading : Result Message BadMsg) (l : Looks) → CallsFit l.calls
    → CallsFit (given_message s to reading l).calls
fit-given s to (Err bad) l all = all
fit-given s to (Ok m) l all = of (is_stray m m.body)
  where
    of : (b : Bool) → CallsFit
        (cond b (record l { strays = drop 1 l.strays })
        (given_body (named s to m) m m.body (counted (connection_of (named s to m)) l))).calls
    of true = all
    of false = fit-body (named s to m) m m.body (counted (connection_of (named s to m)) l) all

fit-polled : (s : Setup) (got : Option (Host × List ℕ)) (l : Looks) → CallsFit l.calls
    → CallsFit (given_by s got (silenced l)).calls
fit-polled s None l all = fit-silenced l all
fit-polled s (Some (to, bytes)) l all = fit-given s to (reading_of bytes) (silenced l) (fit-silenced l all)

fit-shut : (c : CallName) (l : Looks) → CallsFit l.calls → CallsFit (on_looks c after_shut l).calls
fit-shut c l all =
    fit_looks c after_shut l
    (λ k there f. record {
      received = f.received;
      owed = f.owed;
      said = f.said;
      life = f.life;
      number = f.number;
    }) all

fit-done : (c : CallName) (code : ℤ) (l : Looks) → IsCode code → CallsFit l.calls
    → CallsFit (on_life c (after_finish (is_zero code) code) (finished c code l)).calls
fit-done c code l is all =
    fit_life c (after_finish (is_zero code) code) (finished c code l) (λ x f. finish_life (is_zero code) code x is f)
    (of (is_zero code))
  where
    of : (b : Bool) → CallsFit
        (cond b (on_looks c after_shut l) (on_channel (channel_of c) (owing_abort (Some code)) l)).calls
    of true = fit-shut c l all
    of false = all

fit-linked : (kind : Kind) (to : Host) (service first cid : ℕ) (l : Looks) → CallsFit l.calls
    → CallsFit (linked kind to service first cid l).calls
fit-linked (Client host epoch) to service first cid l all = all
fit-linked (Server service nonces) to other first cid l all = all

-- each event leaves them so
pub calls_after : (s : Setup) (l : Looks) (e : Event) → FitsSetup s → EventFits s l e → CallsFit l.calls
    → CallsFit (after s e l).calls
calls_after s l (events.Linked to service first (Ok cid)) fits is all = fit-linked s.kind to service first cid l all
calls_after s l (events.Linked to service first (Err full)) fits is all = all
calls_after s l (events.Called cid (Ok c)) fits is all = fit_started s lives.Calling c l tt is all
calls_after s l (events.Called cid (Err refused)) fits is all = all
calls_after s l (events.Wrote c offered got bytes) fits is all =
    fit_looks c (after_write bytes) l (λ k there f. write_fits bytes k is f) all
calls_after s l (events.Shut c (Ok done)) fits is all = fit-shut c l all
calls_after s l (events.Shut c (Err closed)) fits is all = all
calls_after s l (events.HasRead c max got bytes) fits is all =
    fit_life c (after_end (is_end got))
    (on_looks c (after_read l.now (is_end got) bytes) (acknowledged (is_end got) c l)) (end_life (is_end got))
    (fit_looks c (after_read l.now (is_end got) bytes) (acknowledged (is_end got) c l)
    (λ k there f. read_fits l.now (is_end got) bytes k f) all)
calls_after s l (events.Ended c got) fits is all = all
calls_after s l (events.Cancelled c code (Ok done)) fits is all = fit_life c (after_cancel code) l
    (λ x f. cancel_life code x is.0 f) all
calls_after s l (events.Cancelled c code (Err closed)) fits is all = all
calls_after s l (events.Accepted (Some c)) fits is all = fit_life c after_accept l accept_life all
calls_after s l (events.Accepted None) fits is all = all
calls_after s l (events.Finished c code (Ok done)) fits is all = fit-done c code l is.0 all
calls_after s l (events.Finished c code (Err (refusals.Gone told))) fits is all = fit_life c after_gone l gone_life all
calls_after s l (events.Finished c code (Err refusals.NotOpen)) fits is all = all
calls_after s l (events.Finished c code (Err refusals.Unread)) fits is all = all
calls_after s l (events.Taken from bytes got) fits is all =
    fit_message s from (reading_of bytes) got l fits is.1 (λ m reads. read_came bytes m is.0 reads) all
calls_after s l (events.Polled got) fits is all = fit-polled s got l all
calls_after s l (events.Clocked now) fits is all = all
