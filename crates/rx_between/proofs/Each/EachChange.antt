-- Changes of look-ups seen at one call, and what the application's calls make of it, as steps.
use Rattle.std.proofs.Common.{◌≡◌, cond, if◌then◌else◌, ℕ, ℤ, Bool, true, false, List}
use Rattle.std.proofs.Common.{Option, Some, None, option_map, Result, Ok, Err, refl, ◌∙◌, ap, sym, subst, inl, inr}
use Rattle.rx_model.specs.declared.answers.ServeRefused.{ServeRefused}
use Rattle.rx_model.specs.declared.answers.ServeRefused.TheVariants as refusals
use Rattle.rx_model.specs.declared.answers.ReadGot.{ReadGot}
use Rattle.rx_model.specs.declared.answers.Took.{Took}
use Rattle.rx_model.specs.declared.answers.Took.TheVariants as tooks
use Rattle.rx_model.specs.declared.event.Event.{Event}
use Rattle.rx_model.specs.declared.event.Event.TheVariants as events
use Rattle.rx_model.specs.declared.names.CallName.{CallName}
use Rattle.rx_model.specs.declared.names.Host.{Host}
use Rattle.rx_model.specs.Body.{AckBody, Body}
use Rattle.rx_model.specs.Body as bodies
use Rattle.rx_model.specs.Message.{Message}
use Rattle.rx_model.specs.Names.{channel_of, same_name}
use Rattle.rx_model.proofs.NameLaws.{name_is}
use Rattle.rx_rules.specs.After.{acknowledged, finish_done, is_end, is_zero}
use Rattle.rx_rules.specs.After.{linked, owing_abort, read_done}
use Rattle.rx_rules.specs.CallLooks.{CallLooks, NodeView, after_chunk, after_body, after_data, after_read, after_shut}
use Rattle.rx_rules.specs.CallLooks.{after_taken, found, fresh_call}
use Rattle.rx_rules.specs.Life.{Life, after_accept, after_acks, after_cancel, after_code, after_end, after_finish}
use Rattle.rx_rules.specs.Life.{after_gone, after_later, after_silence}
use Rattle.rx_rules.specs.Life as lives
use Rattle.rx_rules.specs.Looks.{CallRecord, Looks, call_at, on_call, on_channel}
use Rattle.rx_rules.specs.Looks.{on_life, on_looks}
use Rattle.rx_rules.specs.Records.{started}
use Rattle.rx_rules.specs.Setup.{Client, Kind, Server, Setup, pace_of}
use Rattle.rx_rules.proofs.CallsLaws.{KeepsNames}
use Rattle.rx_rules.proofs.StartLaws.{call_at-other}
use Rattle.rx_history.proofs.Calls.{call-changed}
use Rattle.rx_history.proofs.Events.{call-by}
use Rattle.rx_history.proofs.Takes.{call_at-any}
use Rattle.rx_between.proofs.Each.EachStep.{CallStep, EndStep, Goes, IsBusyBy, IsFollowedBy, IsMade, Judges, LifeStep}
use Rattle.rx_between.proofs.Each.EachStep.{Opens}
use Rattle.rx_between.proofs.Each.EachStep.{Starts, Stops, Takes, TellsCode, ViewOf, is_own, is_start}
use Rattle.rx_between.proofs.Each.EachStep as steps

-- ---- two changes as one

twice : (b : Bool) (f g : CallRecord → CallRecord) (o : Option CallRecord)
    → cond b (option_map g (cond b (option_map f o) o)) (cond b (option_map f o) o)
    ≡ cond b (option_map (λ k. g (f k)) o) o
twice true f g None = refl
twice true f g (Some k) = refl
twice false f g o = refl

pub changed_twice : (c d : CallName) (f g : CallRecord → CallRecord) (l : Looks) → KeepsNames f → KeepsNames g
    → call_at (on_call d g (on_call d f l)) c
    ≡ cond (same_name c d) (option_map (λ k. g (f k)) (call_at l c)) (call_at l c)
changed_twice c d f g l keeps_f keeps_g =
    call-changed c d g (on_call d f l) keeps_g
    ∙ ap (λ (o : Option CallRecord). cond (same_name c d) (option_map g o) o) (call-changed c d f l keeps_f)
    ∙ twice (same_name c d) f g (call_at l c)

-- a message is taken alike by an end that is told the same of its node
chunk_alike : (v w : NodeView) (got : Took) (m : Message) (body : Body) (k : CallLooks) → v.client ≡ w.client
    → v.now ≡ w.now → after_chunk v got m body k ≡ after_chunk w got m body k
chunk_alike v w got m (bodies.Chunk payload) k client now =
    λ i. after_data got (now i) m payload (found (client i) k)
chunk_alike v w got m _ k client now = refl

pub taken_alike : (v w : NodeView) (got : Took) (m : Message) (k : CallLooks) → v.client ≡ w.client → v.now ≡ w.now
    → after_taken v got m k ≡ after_taken w got m k
taken_alike v w tooks.Kept m k client now = chunk_alike v w tooks.Kept m m.body k client now
taken_alike v w tooks.Repeat m k client now = chunk_alike v w tooks.Repeat m m.body k client now
taken_alike v w tooks.Beyond m k client now = chunk_alike v w tooks.Beyond m m.body k client now
taken_alike v w tooks.Clash m k client now = chunk_alike v w tooks.Clash m m.body k client now
taken_alike v w tooks.NoSlot m k client now = chunk_alike v w tooks.NoSlot m m.body k client now
taken_alike v w tooks.Heard m k client now = λ i. record (after_body (now i) m m.body k) { heard = now i }
taken_alike v w _ m k client now = refl

pub some_is : (a b : CallRecord) → ◌≡◌ {A = Option CallRecord} (Some a) (Some b) → a ≡ b
some_is a b same = cc

module _ (s : Setup) (l : Looks) (c : CallName) where
  -- ---- nothing, and one change

  pub step_stays : (e : Event) (o : Option CallRecord) → CallStep s l e c o o
  step_stays e None = tt
  step_stays e (Some k) = inl (record { name = refl; end = steps.stays refl; life = steps.lives_on refl })

  -- look-ups with the same calls
  pub step_same : (e : Event) (m : Looks) → m.calls ≡ l.calls → CallStep s l e c (call_at l c) (call_at m c)
  step_same e m same =
      subst (λ (o : Option CallRecord). CallStep s l e c (call_at l c) o) (sym (call-by c l m same))
      (step_stays e (call_at l c))

  -- a call changes
  pub step_on : (e : Event) (d : CallName) (change : CallRecord → CallRecord) (r m : Looks)
      → call_at m c ≡ cond (same_name c d) (option_map change (call_at r c)) (call_at r c)
      → ((k : CallRecord) → c ≡ d → call_at r c ≡ Some k → Goes s l e c k (change k))
      → CallStep s l e c (call_at r c) (call_at m c)
  step_on e d change r m is goes =
      subst (λ (o : Option CallRecord). CallStep s l e c (call_at r c) o) (sym is)
      (of (same_name c d) refl (call_at r c) refl)
    where
      of : (b : Bool) → same_name c d ≡ b → (o : Option CallRecord) → call_at r c ≡ o
          → CallStep s l e c o (cond b (option_map change o) o)
      of true same None there = tt
      of true same (Some k) there = inl (goes k (name_is c d same) there)
      of false other o there = step_stays e o

  -- its life alone
  pub step_life : (e : Event) (d : CallName) (change : Life → Life) (r : Looks)
      → ((k : CallRecord) → c ≡ d → LifeStep s l e c k.looks k.life (change k.life))
      → CallStep s l e c (call_at r c) (call_at (on_life d change r) c)
  step_life e d change r goes =
      step_on e d (λ k. record k { life = change k.life }) r (on_life d change r)
      (call-changed c d (λ k. record k { life = change k.life }) r (λ k. refl))
      (λ k same there. record { name = refl; end = steps.stays refl; life = goes k same })

  -- its end alone
  pub step_looks : (e : Event) (d : CallName) (change : CallLooks → CallLooks) (r : Looks)
      → ((k : CallRecord) → c ≡ d → call_at r c ≡ Some k → EndStep s l e c k.looks (change k.looks))
      → CallStep s l e c (call_at r c) (call_at (on_looks d change r) c)
  step_looks e d change r goes =
      step_on e d (λ k. record k { looks = change k.looks }) r (on_looks d change r)
      (call-changed c d (λ k. record k { looks = change k.looks }) r (λ k. refl))
      (λ k same there. record { name = refl; end = goes k same there; life = steps.lives_on refl })

  -- from look-ups with the same calls
  pub step_from : (e : Event) (r : Looks) (o : Option CallRecord) → r.calls ≡ l.calls
      → CallStep s l e c (call_at r c) o → CallStep s l e c (call_at l c) o
  step_from e r o same step =
      subst (λ (p : Option CallRecord). CallStep s l e c p o) (call-by c l r same) step

  -- ---- the application's calls

  pub linked_calls : (kind : Kind) (to : Host) (service first cid : ℕ)
      → (linked kind to service first cid l).calls ≡ l.calls
  linked_calls (Client host epoch) to service first cid = refl
  linked_calls (Server service nonces) to other first cid = refl

  -- a client makes a call
  pub step_called : (cid : ℕ) (d : CallName)
      → CallStep s l (events.Called cid (Ok d)) c (call_at l c) (call_at (started s lives.Calling d l) c)
  step_called cid d = of (same_name c d) refl
    where
      new : CallRecord
      new = record { name = d; life = lives.Calling; looks = fresh_call (pace_of s) l.now }

      made : c ≡ d → Starts s l (events.Called cid (Ok d)) c new
      made same = (
        sym same,
        inr (record {
          cid = cid;
          event = ap (λ (n : CallName). events.Called cid (Ok n)) (sym same);
          looks = refl;
          life = refl;
        }),
      )

      begun : (a : Option CallRecord) → c ≡ d → CallStep s l (events.Called cid (Ok d)) c a (Some new)
      begun None same = made same
      begun (Some k) same = inr (made same)

      of : (b : Bool) → same_name c d ≡ b
          → CallStep s l (events.Called cid (Ok d)) c (call_at l c) (call_at (started s lives.Calling d l) c)
      of true same =
          subst (λ (o : Option CallRecord). CallStep s l (events.Called cid (Ok d)) c (call_at l c) o)
          (sym (call_at-any c new l (sym (name_is c d same)) (call_at l c) refl))
          (begun (call_at l c) (name_is c d same))
      of false other =
          subst (λ (o : Option CallRecord). CallStep s l (events.Called cid (Ok d)) c (call_at l c) o)
          (sym (call_at-other c new l other (call_at l c) refl))
          (step_stays (events.Called cid (Ok d)) (call_at l c))

  pub step_read : (d : CallName) (most : ℕ) (got : ReadGot) (bytes : List ℕ)
      → CallStep s l (events.HasRead d most got bytes) c (call_at l c)
      (call_at (read_done d (is_end got) bytes l) c)
  step_read d most got bytes =
      step_on (events.HasRead d most got bytes) d
      (λ k. record k { looks = after_read l.now (is_end got) bytes k.looks; life = after_end (is_end got) k.life }) l
      (read_done d (is_end got) bytes l)
      (changed_twice c d (λ k. record k { looks = after_read l.now (is_end got) bytes k.looks })
      (λ k. record k { life = after_end (is_end got) k.life }) (acknowledged (is_end got) d l) (λ k. refl) (λ k. refl))
      (λ k same there. (
      let event : events.HasRead d most got bytes ≡ events.HasRead c most got bytes =
      ap (λ (n : CallName). events.HasRead n most got bytes) (sym same) in
      record {
        name = refl;
        end = steps.reads most got bytes event refl;
        life = steps.read_out most got bytes event refl;
      }))

  -- a finish
  step_finished : (d : CallName) (code : ℤ) (done : Unit {0})
      → CallStep s l (events.Finished d code (Ok done)) c (call_at l c) (call_at (finish_done d code (Ok done) l) c)
  step_finished d code done = of (is_zero code) refl
    where
      e : Event
      e = events.Finished d code (Ok done)

      event : c ≡ d → e ≡ events.Finished c code (Ok tt)
      event same = ap (λ (n : CallName). events.Finished n code (Ok done)) (sym same)

      of : (b : Bool) → is_zero code ≡ b
          → CallStep s l e c (call_at l c)
          (call_at (on_life d (after_finish b code) (if b then on_looks d after_shut l
          else on_channel (channel_of d) (owing_abort (Some code)) l)) c)
      of true fine =
          step_on e d (λ k. record k { looks = after_shut k.looks; life = after_finish true code k.life }) l
          (on_life d (after_finish true code) (on_looks d after_shut l))
          (changed_twice c d (λ k. record k { looks = after_shut k.looks })
          (λ k. record k { life = after_finish true code k.life }) l (λ k. refl) (λ k. refl))
          (λ k same there. record {
            name = refl;
            end = steps.finishes code (event same) fine refl;
            life = steps.finished code (event same)
                (ap (λ (b : Bool). after_finish b code k.life) (sym fine));
          })
      of false bad =
          step_life e d (after_finish false code) (on_channel (channel_of d) (owing_abort (Some code)) l)
          (λ k same. steps.finished code (event same) (ap (λ (b : Bool). after_finish b code k.life) (sym bad)))

  pub step_finish : (d : CallName) (code : ℤ) (got : Result (Unit {0}) ServeRefused)
      → CallStep s l (events.Finished d code got) c (call_at l c) (call_at (finish_done d code got l) c)
  step_finish d code (Ok done) = step_finished d code done
  step_finish d code (Err (refusals.Gone told)) =
      step_life (events.Finished d code (Err (refusals.Gone told))) d after_gone l
      (λ k same. steps.gone code told
      (ap (λ (n : CallName). events.Finished n code (Err (refusals.Gone told))) (sym same)) refl)
  step_finish d code (Err refusals.NotOpen) = step_stays (events.Finished d code (Err refusals.NotOpen)) (call_at l c)
  step_finish d code (Err refusals.Unread) = step_stays (events.Finished d code (Err refusals.Unread)) (call_at l c)
