-- What a poll makes of each call of a node: silent calls end, and the end of one call may give what it gives next.
use Rattle.std.proofs.Common.{◌≡◌, cond, if◌then◌else◌, ℕ, Bool, true, false, List, drop}
use Rattle.std.proofs.Common.{Option, Some, None, option_map, Result, Ok, Err, refl, ◌∙◌, ap, sym, subst, inl}
use Rattle.rx_model.specs.declared.answers.BadMsg.{BadMsg}
use Rattle.rx_model.specs.declared.event.Event.{Event}
use Rattle.rx_model.specs.declared.event.Event.TheVariants as events
use Rattle.rx_model.specs.declared.names.CallName.{CallName}
use Rattle.rx_model.specs.declared.names.Host.{Host}
use Rattle.rx_model.specs.Body.{AckBody, Body}
use Rattle.rx_model.specs.Body as bodies
use Rattle.rx_model.specs.Message.{Message}
use Rattle.rx_model.specs.Names.{connection_of, same_name}
use Rattle.rx_model.specs.Reading.{reading_of}
use Rattle.rx_model.proofs.NameLaws.{name_is}
use Rattle.rx_model.specs.Strays.{is_stray}
use Rattle.rx_rules.specs.After.{counted, given_body, given_by, given_message}
use Rattle.rx_rules.specs.CallItems.{Sending, ack_body, after_sending, next_sending, sending_body, sending_seq}
use Rattle.rx_rules.specs.CallItems as sendings
use Rattle.rx_rules.specs.CallLooks.{CallLooks, after_ack_given, after_piece}
use Rattle.rx_rules.specs.Life.{after_silence}
use Rattle.rx_rules.specs.Looks.{CallRecord, Looks, call_at}
use Rattle.rx_rules.specs.Looks.{on_looks}
use Rattle.rx_rules.specs.Records.{is_silent, silence_of, silenced, unless_silent}
use Rattle.rx_rules.specs.Sent.{piece_at}
use Rattle.rx_rules.specs.Setup.{Setup, named, receiving_window}
use Rattle.rx_rules.specs.Slots.{node_view}
use Rattle.rx_rules.proofs.CallsLaws.{call_at-on_calls}
use Rattle.rx_history.proofs.Calls.{call-changed}
use Rattle.rx_between.proofs.Each.EachStep.{CallStep, EndStep, Goes, IsBusyBy, IsFollowedBy, IsMade, Judges, LifeStep}
use Rattle.rx_between.proofs.Each.EachStep.{Opens}
use Rattle.rx_between.proofs.Each.EachStep.{Starts, Stops, Takes, TellsCode, ViewOf, is_own, is_start}
use Rattle.rx_between.proofs.Each.EachStep as steps
use Rattle.rx_between.proofs.GivenAcks.{silent_looks}
use Rattle.rx_between.proofs.PollSays.{Says}
use Rattle.rx_between.proofs.Each.EachChange.{some_is}
use Rattle.rx_history.proofs.Plain.PlainBodies.{IsSent}

module _ (s : Setup) (l : Looks) (c : CallName) where
  -- ---- a poll

  silent_life : (got : Option (Host × List ℕ)) (k : CallRecord) (b : CallLooks)
      → LifeStep s l (events.Polled got) c b k.life (unless_silent l.now k).life
  silent_life got k b = of (is_silent l.now k)
    where
      of : (silent : Bool) → LifeStep s l (events.Polled got) c b k.life
          (cond silent (record k { life = after_silence (silence_of l.now k) k.life }) k).life
      of true = steps.is_silent got (silence_of l.now k) refl refl
      of false = steps.lives_on refl

  silent_name : (k : CallRecord) → (unless_silent l.now k).name ≡ k.name
  silent_name k = of (is_silent l.now k)
    where
      of : (silent : Bool)
          → (cond silent (record k { life = after_silence (silence_of l.now k) k.life }) k).name ≡ k.name
      of true = refl
      of false = refl

  silenced_at : call_at (silenced l) c ≡ option_map (unless_silent l.now) (call_at l c)
  silenced_at = call_at-on_calls c (unless_silent l.now) l silent_name

  -- silent calls end first
  step_silenced : (got : Option (Host × List ℕ))
      → CallStep s l (events.Polled got) c (call_at l c) (call_at (silenced l) c)
  step_silenced got =
      subst (λ (o : Option CallRecord). CallStep s l (events.Polled got) c (call_at l c) o) (sym silenced_at)
      (of (call_at l c))
    where
      of : (o : Option CallRecord) → CallStep s l (events.Polled got) c o (option_map (unless_silent l.now) o)
      of None = tt
      of (Some k) =
          inl (record {
            name = silent_name k;
            end = steps.stays (silent_looks l.now k);
            life = silent_life got k (unless_silent l.now k).looks;
          })

  -- what the end of the call gives
  module _ (to : Host) (bytes : List ℕ) (m : Message) (is_read : reading_of bytes ≡ Ok m)
      (says : IsSent m.body → Says s l m (named s to m)) where
    abbrev polled : Event
    polled = events.Polled (Some (to, bytes))

    gave_piece : (x : Sending) (k : CallLooks) (payload : List ℕ) → m.body ≡ bodies.Chunk payload
        → m.seq ≡ sending_seq x → m.body ≡ sending_body (receiving_window s) k x
        → after_piece l.now m.seq k ≡ after_sending l.now x k
    gave_piece (sendings.Piece seq again) k payload chunk is body = ap (λ (n : ℕ). after_piece l.now n k) is
    gave_piece (sendings.Ack reason serial) k payload chunk is body =
        absurd (let never : bodies.Chunk payload ≡ bodies.Ack (ack_body (receiving_window s) reason serial k.received) =
        sym chunk ∙ body in cc)

    gave_ack : (x : Sending) (k : CallLooks) (a : AckBody) → m.body ≡ bodies.Ack a
        → m.body ≡ sending_body (receiving_window s) k x → after_ack_given l.now k ≡ after_sending l.now x k
    gave_ack (sendings.Ack reason serial) k a ack body = refl
    gave_ack (sendings.Piece seq again) k a ack body =
        absurd (let never : bodies.Ack a ≡ bodies.Chunk (piece_at k.sent seq).payload = sym ack ∙ body in cc)

    abbrev changed_by : (CallLooks → CallLooks) → CallRecord → CallRecord
    changed_by change k = record k { looks = change k.looks }

    -- where it is of this call
    given_own : (change : CallLooks → CallLooks) → IsSent m.body
        → ((x : Sending) (k : CallLooks) → m.seq ≡ sending_seq x → m.body ≡ sending_body (receiving_window s) k x
        → change k ≡ after_sending l.now x k)
        → CallStep s l polled c (call_at l c) (call_at (on_looks (named s to m) change (silenced l)) c)
    given_own change stream gave =
        subst (λ (o : Option CallRecord). CallStep s l polled c (call_at l c) o)
        (sym (call-changed c (named s to m) (changed_by change) (silenced l) (λ k. refl)))
        (of (same_name c (named s to m)) refl)
      where
        own : c ≡ named s to m → (o : Option CallRecord) → call_at l c ≡ o
            → CallStep s l polled c o
            (option_map (changed_by change) (option_map (unless_silent l.now) o))
        own same None there = tt
        own same (Some k) there =
            inl (record {
              name = silent_name k;
              end =
                  steps.gives (record {
                    to = to;
                    bytes = bytes;
                    event = refl;
                    message = m;
                    reads = is_read;
                    name = sym same;
                    sending = y.sending;
                    seq = y.seq;
                    body = body_is;
                    view = node_view s (silenced l);
                    view_is = record { client = refl; window = refl; now = refl };
                    next = subst (λ (j : CallLooks). next_sending (node_view s (silenced l)) j ≡ Some y.sending) one
                        y.next;
                    is = ap change (silent_looks l.now k) ∙ gave y.sending k.looks y.seq body_is;
                  });
              life = silent_life (Some (to, bytes)) k (change (unless_silent l.now k).looks);
            })
          where
            y : Says s l m (named s to m)
            y = says stream

            one : y.call.looks ≡ k.looks
            one =
                ap (λ (j : CallRecord). j.looks)
                (some_is y.call (unless_silent l.now k)
                (sym y.there ∙ ap (λ (n : CallName). call_at (silenced l) n) (sym same) ∙ silenced_at
                ∙ ap (option_map (unless_silent l.now)) there))
                ∙ silent_looks l.now k

            body_is : m.body ≡ sending_body (receiving_window s) k.looks y.sending
            body_is = y.body ∙ ap (λ (j : CallLooks). sending_body (receiving_window s) j y.sending) one

        of : (b : Bool) → same_name c (named s to m) ≡ b
            → CallStep s l polled c (call_at l c)
            (cond b (option_map (changed_by change) (call_at (silenced l) c))
            (call_at (silenced l) c))
        of true same =
            subst (λ (o : Option CallRecord). CallStep s l polled c (call_at l c)
            (option_map (changed_by change) o)) (sym silenced_at)
            (own (name_is c (named s to m) same) (call_at l c) refl)
        of false other = step_silenced (Some (to, bytes))

    given_step : (stray : Bool)
        → CallStep s l polled c (call_at l c)
        (call_at (if stray then record (silenced l) { strays = drop 1 l.strays }
        else given_body (named s to m) m m.body (counted (connection_of (named s to m)) (silenced l))) c)
    given_step true = step_silenced (Some (to, bytes))
    given_step false = of m.body refl
      where
        of : (body : Body) → m.body ≡ body
            → CallStep s l polled c (call_at l c)
            (call_at (given_body (named s to m) m body (counted (connection_of (named s to m)) (silenced l))) c)
        of (bodies.Chunk payload) at =
            given_own (after_piece l.now m.seq) (subst IsSent (sym at) tt)
            (λ x k seq body. gave_piece x k payload at seq body)
        of (bodies.Ack a) at =
            given_own (after_ack_given l.now) (subst IsSent (sym at) tt) (λ x k seq body. gave_ack x k a at body)
        of _ at = step_silenced (Some (to, bytes))

  pub step_polled : (got : Option (Host × List ℕ))
      → ((to : Host) (bytes : List ℕ) (m : Message) → got ≡ Some (to, bytes) → reading_of bytes ≡ Ok m
      → IsSent m.body → Says s l m (named s to m))
      → CallStep s l (events.Polled got) c (call_at l c) (call_at (given_by s got (silenced l)) c)
  step_polled None says = step_silenced None
  step_polled (Some (to, bytes)) says = of (reading_of bytes) refl
    where
      of : (reading : Result Message BadMsg) → reading_of bytes ≡ reading
          → CallStep s l (events.Polled (Some (to, bytes))) c (call_at l c)
          (call_at (given_message s to reading (silenced l)) c)
      of (Err bad) is = step_silenced (Some (to, bytes))
      of (Ok m) is = given_step to bytes m is (says to bytes m refl is) (is_stray m m.body)
