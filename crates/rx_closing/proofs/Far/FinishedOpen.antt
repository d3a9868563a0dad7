-- A call whose handler ended well, and that isn't over, has a piece that isn't acknowledged.
use Rattle.std.proofs.Common.{◌≡◌, ◌<◌, ◌≤◌, ◌==◌, ◌∷◌, ◌&&◌, ◌||◌, not, min, ℕ, ℤ, Bool, true, false, List, [], length}
use Rattle.std.proofs.Common.{refl, ap, sym, subst, ◌∙◌, Option, Some, None, option_map, inl, inr, Result, Ok, Err}
use Rattle.std.proofs.Common.{arith, append-nil, if◌then◌else◌}
use Rattle.std.proofs.lemmas.Bool.Decides.{nat_tests}
use Rattle.rx_model.specs.declared.answers.BadMsg.{BadMsg}
use Rattle.rx_model.specs.declared.answers.ServeRefused.{ServeRefused}
use Rattle.rx_model.specs.declared.answers.ServeRefused.TheVariants as refusals
use Rattle.rx_model.specs.declared.answers.Took.{Took}
use Rattle.rx_model.specs.declared.answers.Took.TheVariants as tooks
use Rattle.rx_model.specs.declared.answers.WroteGot.{WroteGot}
use Rattle.rx_model.specs.declared.answers.WroteGot.TheVariants as writers
use Rattle.rx_model.specs.declared.event.Event.{Event}
use Rattle.rx_model.specs.declared.event.Event.TheVariants as events
use Rattle.rx_model.specs.declared.names.CallName.{CallName}
use Rattle.rx_model.specs.Body.{Body}
use Rattle.rx_model.specs.Body as bodies
use Rattle.rx_model.specs.Message.{Message}
use Rattle.rx_model.specs.Names.{channel_of, connection_of, same_name}
use Rattle.rx_model.proofs.NameLaws.{neither}
use Rattle.rx_rules.specs.After.{after, challenged, is_zero, looks, prepared, settled, taken_at, taken_behind}
use Rattle.rx_rules.specs.After.{taken_heard, taken_message, taken_with}
use Rattle.rx_rules.specs.CallItems.{Sending, Piece, Ack, after_sending}
use Rattle.rx_rules.specs.CallLooks.{CallLooks, NodeView, after_body, after_chunk, after_shut, after_taken, after_write}
use Rattle.rx_rules.specs.CallLooks.{found, is_delivered}
use Rattle.rx_rules.specs.Life.{Life, after_acks}
use Rattle.rx_rules.specs.Life as lives
use Rattle.rx_rules.specs.Looks.{CallRecord, Looks, call_at, is_proved, on_call, on_channel}
use Rattle.rx_rules.specs.Rules.{AllowedServer, HasBytes, Legal, served_by, served_finish, served_write}
use Rattle.rx_rules.specs.Sent.{Sent, counting_by, counting_of, given_of, is_all_acked, pieces_by, pieces_of}
use Rattle.rx_rules.specs.Setup.{Server, Client, FitsSetup, IsServer, Setup, is_client, named}
use Rattle.rx_rules.specs.Slots.{node_view, room}
use Rattle.rx_history.proofs.Differ.{every_found}
use Rattle.rx_history.proofs.LifeFalls.{is_begun}
use Rattle.rx_history.proofs.Laws.OnceLaw.{served}
use Rattle.rx_history.proofs.ServerStands.{server-stands}
use Rattle.rx_history.proofs.Suffice.{roomy_history}
use Rattle.rx_history.proofs.Room.Tight.{TightOf}
use Rattle.rx_history.specs.Starts.{StartsOnce}
use Rattle.rx_between.specs.Acknowledged.{sent_by}
use Rattle.rx_between.proofs.Each.EachEvent.{each_step}
use Rattle.rx_between.proofs.Each.EachStep.{CallStep, EndStep, Judges, Starts, Takes, finishes, gives, reads, shuts}
use Rattle.rx_between.proofs.Each.EachStep.{stays}
use Rattle.rx_between.proofs.Each.EachStep.{takes, writes}
use Rattle.rx_plan.proofs.Passing.{own_changed}
use Rattle.rx_closing.proofs.Far.FarBounds.{counts_of}
use Rattle.rx_closing.proofs.Far.FarGrows.{acked_given}
use Rattle.rx_closing.proofs.Far.FinishedRead.{FinishedBy, finished_by, finishes_now, was_finished}
use Rattle.rx_progress.proofs.LawsMoves.{server_side}
use Rattle.rx_history.proofs.Events.{calls-prepared}

-- ---- what leaves all that was acknowledged as it was

-- an end that said and knows the same
same_acked : (a b : Sent) → b.said ≡ a.said → b.shut ≡ a.shut → b.acked ≡ a.acked → is_all_acked b ≡ is_all_acked a
same_acked a b said shut acked =
    ap (λ (xs : List ℕ). b.shut && (b.acked == pieces_by (length xs) b.shut)) said
    ∙ ap (λ (x : Bool). x && (b.acked == pieces_by (length a.said) x)) shut
    ∙ ap (λ (n : ℕ). a.shut && (n == pieces_by (length a.said) a.shut)) acked

found_same : (client : Bool) (k : CallLooks) → client ≡ false → (found client k).sent ≡ k.sent
found_same client k server = ap (λ (b : Bool). (found b k).sent) server

chunk_same : (v : NodeView) (got : Took) (m : Message) (body : Body) (k : CallLooks) → v.client ≡ false
    → (after_chunk v got m body k).sent ≡ k.sent
chunk_same v got m (bodies.Chunk payload) k server = found_same v.client k server
chunk_same v got m _ k server = refl

-- ---- an acknowledgement is heard

-- a body that acknowledges
abbrev Tells : Body → Type 0
Tells (bodies.Ack a) = Unit {0}
Tells bodies.AckAll = Unit {0}
Tells _ = ⊥

module _ (s : Setup) (l : Looks) (c : CallName) (a : CallRecord) (there : call_at l c ≡ Some a) (m : Message) where
  abbrev ready : Looks
  ready = prepared s tooks.Heard (connection_of c) l

  ready_there : call_at ready c ≡ Some a
  ready_there =
      ap (λ ks. call_at (record l { calls = ks }) c) (calls-prepared s tooks.Heard (connection_of c) l) ∙ there

  abbrev heard : CallRecord → CallRecord
  heard k = record k { looks = after_taken (node_view s ready) tooks.Heard m k.looks }

  at_it : call_at (taken_at s tooks.Heard c m ready) c ≡ Some (heard a)
  at_it = own_changed c heard ready (λ k. refl) ∙ ap (option_map heard) ready_there

  settled_at : call_at (on_call c settled (taken_at s tooks.Heard c m ready)) c ≡ Some (settled (heard a))
  settled_at = own_changed c settled (taken_at s tooks.Heard c m ready) (λ k. refl) ∙ ap (option_map settled) at_it

  challenged_same : (x : Looks) → call_at (challenged s c x) c ≡ call_at x c
  challenged_same x = by (not (is_client s.kind) && (s.class.challenges && not (is_proved x (connection_of c))))
    where
      by : (b : Bool)
          → call_at (if b then on_channel (channel_of c) (λ q. record q { owed_challenge = true }) x else x) c
          ≡ call_at x c
      by true = refl
      by false = refl

  heard_is : (body : Body) → Tells body → call_at (taken_heard s c body (taken_at s tooks.Heard c m ready)) c
      ≡ Some (settled (heard a))
  heard_is (bodies.Ack x) tells =
      challenged_same (on_call c settled (taken_at s tooks.Heard c m ready)) ∙ settled_at
  heard_is bodies.AckAll tells = settled_at
  heard_is _ tells = absurd tells

  -- the event's own record
  taken_is : (e : Event) → Judges s l e c m tooks.Heard → Tells m.body
      → call_at (after s e l) c ≡ Some (settled (heard a))
  taken_is e j tells =
      ap (λ (x : Event). call_at (after s x l) c) j.is
      ∙ ap (λ (r : Result Message BadMsg). call_at (taken_message s j.from r tooks.Heard l) c) j.reads
      ∙ ap (λ (row : Option Took). call_at (taken_behind s row j.from (named s j.from m) m tooks.Heard l) c) j.front
      ∙ ap (λ (d : CallName). call_at (taken_with s tooks.Heard d m
      (prepared s tooks.Heard (connection_of d) l)) c) j.name
      ∙ heard_is m.body tells

-- one that goes on behind it isn't all acknowledged
settled_open : (k : CallRecord) → (settled k).life ≡ lives.Finished → is_all_acked (settled k).looks.sent ≡ false
settled_open k fine = (neither (is_all_acked k.looks.sent) _ (of (is_delivered k.looks) refl k.life fine)).0
  where
    of : (b : Bool) → is_delivered k.looks ≡ b → (x : Life) → after_acks b x ≡ lives.Finished
        → is_delivered k.looks ≡ false
    of false is x fine = is
    of true is lives.Finished fine = absurd cc
    of true is lives.Calling fine = absurd cc
    of true is (lives.Ended end) fine = absurd cc
    of true is lives.Waiting fine = absurd cc
    of true is lives.Accepted fine = absurd cc
    of true is (lives.Broken code) fine = absurd cc
    of true is (lives.Over code) fine = absurd cc

-- ---- at every moment of a server

abbrev OpenOf : Option CallRecord → Type 0
OpenOf None = Unit {0}
OpenOf (Some r) = r.life ≡ lives.Finished → is_all_acked r.looks.sent ≡ false

module _ (s : Setup) (server : IsServer s.kind) (fits : FitsSetup s) (c : CallName) (e : Event) (h : List Event)
    (legal : Legal s (e ∷ h)) (once : StartsOnce s (e ∷ h) c) (a b : CallRecord)
    (there : call_at (looks s h) c ≡ Some a) (behind : call_at (looks s (e ∷ h)) c ≡ Some b)
    (before : OpenOf (Some a)) (by_life : b.life ≡ lives.Finished → FinishedBy a.life e c) where
  rule : AllowedServer s (looks s h) e
  rule = served s.kind s (looks s h) e server legal.0

  -- the call went on with what it said and knows as it was
  stands : is_all_acked b.looks.sent ≡ is_all_acked a.looks.sent
      → ((code : ℤ) → e ≡ events.Finished c code (Ok tt) → ⊥) → OpenOf (Some b)
  stands same no_finish fine = same ∙ by (by_life fine)
    where
      by : FinishedBy a.life e c → is_all_acked a.looks.sent ≡ false
      by (was_finished is) = before is
      by (finishes_now code event zero_ life) = absurd (no_finish code event)

  -- an accepted call isn't shut
  unshut : a.life ≡ lives.Accepted → a.looks.sent.shut ≡ false
  unshut life =
      (every_found (TightOf (is_client s.kind)) (λ (x : CallRecord). same_name x.name c) (looks s h).calls a
      (roomy_history s h legal.1).tight there).unshut (server_side s.kind server) (ap is_begun life)

  -- nothing of what a shut stream adds was given
  shut_more : (n m : ℕ) → m ≤ counting_by n false → m < pieces_by n true
  shut_more n m low = omega (arith, low)

  -- a finish shuts it: then its last piece isn't acknowledged
  finish_open : b.looks ≡ after_shut a.looks → a.life ≡ lives.Accepted → is_all_acked b.looks.sent ≡ false
  finish_open is life =
      let acked = subst (λ (o : Option CallRecord). (sent_by o).acked ≤ given_of (sent_by o)) there
      (acked_given s h c fits legal.1 (inr (server, once.1))) in
      let given = subst (λ (o : Option CallRecord). given_of (sent_by o) ≤ counting_of (sent_by o)) there
      (counts_of (call_at (looks s h) c) ((server-stands s h server fits legal.1).calls c).sends) in
      let counts : counting_of a.looks.sent ≡ counting_by (length a.looks.sent.said) false =
      ap (counting_by (length a.looks.sent.said)) (unshut life) in
      let less : a.looks.sent.acked < pieces_by (length a.looks.sent.said) true =
      shut_more (length a.looks.sent.said) a.looks.sent.acked (omega (arith, acked, given, counts)) in
      let differs : (a.looks.sent.acked == pieces_by (length a.looks.sent.said) true) ≡ false =
      grind (arith, nat_tests) in
      ap (λ (k : CallLooks). is_all_acked k.sent) is ∙ differs

  finished_ok : (code : ℤ) → e ≡ events.Finished c code (Ok tt) → a.life ≡ lives.Finished → ⊥
  finished_ok code event life =
      let answer : ◌≡◌ {A = Result (Unit {0}) ServeRefused} (Ok tt) (Err refusals.NotOpen) =
      (subst (λ (x : Event). AllowedServer s (looks s h) x) event rule).1
      ∙ ap (λ (o : Option CallRecord). served_finish o code) there
      ∙ ap (λ (x : Life). served_by x (a.looks.received.ended || not (is_zero code)) tt) life in
      cc (answer)

  -- nothing is written of one that finished
  none_written : (offered : ℕ) (got : WroteGot) (bytes : List ℕ) → e ≡ events.Wrote c offered got bytes
      → a.life ≡ lives.Finished → bytes ≡ []
  none_written offered (writers.Client got) bytes event life =
      absurd (subst (λ (x : Event). AllowedServer s (looks s h) x) event rule)
  none_written offered (writers.Server got) bytes event life =
      let allowed = subst (λ (x : Event). AllowedServer s (looks s h) x) event rule in
      let answer : got ≡ Err refusals.NotOpen =
      allowed.0 ∙ ap (λ (o : Option CallRecord). served_write s (looks s h) o offered) there
      ∙ ap (λ (x : Life). served_by x a.looks.received.ended
      (min offered (room s (looks s h) a.looks))) life in
      subst (λ (r : Result ℕ ServeRefused). HasBytes r bytes) answer allowed.2

  sending_same : (now : ℕ) (x : Sending) (k : CallLooks)
      → is_all_acked (after_sending now x k).sent ≡ is_all_acked k.sent
  sending_same now (Piece seq again) k = refl
  sending_same now (Ack reason serial) k = refl

  -- a message is taken
  taken_open : Takes s (looks s h) e c a.looks b.looks → OpenOf (Some b)
  taken_open t = by t.got t.message.body refl refl
    where
      none_finished : (code : ℤ) → e ≡ events.Finished c code (Ok tt) → ⊥
      none_finished code event =
          let both : events.Taken t.judges.from t.judges.bytes t.got ≡ events.Finished c code (Ok tt) =
          sym t.judges.is ∙ event in
          cc (both)

      serving : t.view.client ≡ false
      serving = t.view_is.client ∙ server_side s.kind server

      chunk : (got : Took) → t.got ≡ got
          → ((k : CallLooks) → (after_taken t.view got t.message k).sent
          ≡ (after_chunk t.view got t.message t.message.body k).sent)
          → OpenOf (Some b)
      chunk got is data_ =
          stands
          (ap (λ (k : CallLooks). is_all_acked k.sent)
          (t.is ∙ ap (λ (x : Took). after_taken t.view x t.message a.looks) is)
          ∙ ap is_all_acked (data_ a.looks ∙ chunk_same t.view got t.message t.message.body a.looks
          serving)) none_finished

      still : (got : Took) → t.got ≡ got → (after_taken t.view got t.message a.looks).sent ≡ a.looks.sent
          → OpenOf (Some b)
      still got is same =
          stands
          (ap (λ (k : CallLooks). is_all_acked k.sent)
          (t.is ∙ ap (λ (x : Took). after_taken t.view x t.message a.looks) is)
          ∙ ap is_all_acked same) none_finished

      told : t.got ≡ tooks.Heard → Tells t.message.body → OpenOf (Some b)
      told is tells =
          let j : Judges s (looks s h) e c t.message tooks.Heard =
          subst (λ (x : Took). Judges s (looks s h) e c t.message x) is t.judges in
          let record_is : settled (heard s (looks s h) c a there t.message a) ≡ b =
          (let both : ◌≡◌ {A = Option CallRecord}
          (Some (settled (heard s (looks s h) c a there t.message a))) (Some b) =
          sym (taken_is s (looks s h) c a there t.message e j tells) ∙ behind in cc (both)) in
          subst (λ (r : CallRecord). r.life ≡ lives.Finished → is_all_acked r.looks.sent ≡ false) record_is
          (settled_open (heard s (looks s h) c a there t.message a))

      -- of another message it hears nothing of its own stream
      body_still : (body : Body) → t.message.body ≡ body → (Tells body → ⊥)
          → (after_taken t.view tooks.Heard t.message a.looks).sent ≡ a.looks.sent
      body_still body is none = ap (λ (x : Body). (after_body t.view.now t.message x a.looks).sent) is ∙ of body none
        where
          of : (x : Body) → (Tells x → ⊥) → (after_body t.view.now t.message x a.looks).sent ≡ a.looks.sent
          of (bodies.Ack ack) none = absurd (none tt)
          of bodies.AckAll none = absurd (none tt)
          of _ none = refl

      by : (got : Took) (body : Body) → t.got ≡ got → t.message.body ≡ body → OpenOf (Some b)
      by tooks.Kept body is at = chunk tooks.Kept is (λ k. refl)
      by tooks.Repeat body is at = chunk tooks.Repeat is (λ k. refl)
      by tooks.Beyond body is at = chunk tooks.Beyond is (λ k. refl)
      by tooks.Clash body is at = chunk tooks.Clash is (λ k. refl)
      by tooks.NoSlot body is at = chunk tooks.NoSlot is (λ k. refl)
      by tooks.Heard (bodies.Ack x) is at = told is (subst Tells (sym at) tt)
      by tooks.Heard bodies.AckAll is at = told is (subst Tells (sym at) tt)
      by tooks.Heard (bodies.Chunk payload) is at =
          still tooks.Heard is (body_still (bodies.Chunk payload) at (λ x. x))
      by tooks.Heard bodies.Busy is at = still tooks.Heard is (body_still bodies.Busy at (λ x. x))
      by tooks.Heard (bodies.Abort code) is at = still tooks.Heard is (body_still (bodies.Abort code) at (λ x. x))
      by tooks.Heard (bodies.Challenge bytes) is at =
          still tooks.Heard is (body_still (bodies.Challenge bytes) at (λ x. x))
      by tooks.Heard (bodies.Response bytes) is at =
          still tooks.Heard is (body_still (bodies.Response bytes) at (λ x. x))
      by tooks.Strange body is at = still tooks.Strange is refl
      by tooks.Stopped body is at = still tooks.Stopped is refl
      by tooks.Busy body is at = still tooks.Busy is refl
      by tooks.NoRoom body is at = still tooks.NoRoom is refl
      by tooks.Over body is at = still tooks.Over is refl
      by tooks.Full body is at = still tooks.Full is refl
      by tooks.Old body is at = still tooks.Old is refl
      by tooks.Unserved body is at = still tooks.Unserved is refl
      by tooks.Foreign body is at = still tooks.Foreign is refl
      by (tooks.Bad bad) body is at = still (tooks.Bad bad) is refl

  step_open : EndStep s (looks s h) e c a.looks b.looks → OpenOf (Some b)
  step_open (stays is) = λ fine. by (by_life fine)
    where
      same : is_all_acked b.looks.sent ≡ is_all_acked a.looks.sent
      same = ap (λ (k : CallLooks). is_all_acked k.sent) is

      by : FinishedBy a.life e c → is_all_acked b.looks.sent ≡ false
      by (was_finished life) = same ∙ before life
      by (finishes_now code event zero_ life) =
          same ∙ ap (λ (x : Bool). x && (a.looks.sent.acked == pieces_of a.looks.sent)) (unshut life)
  step_open (takes t) = taken_open t
  step_open (gives g) =
      stands
      (ap (λ (k : CallLooks). is_all_acked k.sent) g.is ∙ sending_same (looks s h).now g.sending a.looks)
      (λ code event. (let both = sym g.event ∙ event in cc (both)))
  step_open (writes offered got bytes event is) = λ fine. by (by_life fine)
    where
      by : FinishedBy a.life e c → is_all_acked b.looks.sent ≡ false
      by (was_finished life) =
          ap (λ (k : CallLooks). is_all_acked k.sent) is
          ∙ ap (λ (xs : List ℕ). is_all_acked (after_write xs a.looks).sent) (none_written offered got bytes event life)
          ∙ same_acked a.looks.sent (after_write [] a.looks).sent (append-nil a.looks.sent.said) refl refl ∙ before life
      by (finishes_now code told zero_ life) = absurd (let both = sym event ∙ told in cc (both))
  step_open (reads most got bytes event is) =
      stands (ap (λ (k : CallLooks). is_all_acked k.sent) is) (λ code told. (let both = sym event ∙ told in cc (both)))
  step_open (shuts event is) = absurd (subst (λ (x : Event). AllowedServer s (looks s h) x) event rule)
  step_open (finishes code event zero_ is) = λ fine. by (by_life fine)
    where
      by : FinishedBy a.life e c → is_all_acked b.looks.sent ≡ false
      by (was_finished life) = absurd (finished_ok code event life)
      by (finishes_now told said zero_is life) = finish_open is life

starts_open : (s : Setup) (l : Looks) (e : Event) (c : CallName) (b : CallRecord) → Starts s l e c b → OpenOf (Some b)
starts_open s l e c b (name, inl opens) fine =
    absurd (let wrong : lives.Waiting ≡ lives.Finished = sym opens.life ∙ fine in cc (wrong))
starts_open s l e c b (name, inr made) fine =
    absurd (let wrong : lives.Calling ≡ lives.Finished = sym made.life ∙ fine in cc (wrong))

open_of : (s : Setup) (h : List Event) (c : CallName) → IsServer s.kind → FitsSetup s → Legal s h → StartsOnce s h c
    → OpenOf (call_at (looks s h) c)
open_of s [] c server fits legal once = tt
open_of s (e ∷ h) c server fits legal once =
    of (call_at (looks s h) c) (call_at (looks s (e ∷ h)) c) refl refl (each_step s h e c fits legal)
    (open_of s h c server fits legal.1 once.1)
  where
    of : (a b : Option CallRecord) → call_at (looks s h) c ≡ a → call_at (looks s (e ∷ h)) c ≡ b
        → CallStep s (looks s h) e c a b → OpenOf a → OpenOf b
    of None None there behind step before = tt
    of None (Some b) there behind starts before = starts_open s (looks s h) e c b starts
    of (Some a) None there behind step before = absurd step
    of (Some a) (Some b) there behind (inl goes) before =
        step_open s server fits c e h legal once a b there behind before
        (finished_by s (looks s h) e c b.looks a.life b.life goes.life) goes.end
    of (Some a) (Some b) there behind (inr starts) before = starts_open s (looks s h) e c b starts

-- a finished call that isn't over isn't all acknowledged
pub finished_open : (s : Setup) (h : List Event) (c : CallName) (r : CallRecord) → IsServer s.kind → FitsSetup s
    → Legal s h → StartsOnce s h c → call_at (looks s h) c ≡ Some r → r.life ≡ lives.Finished
    → is_all_acked r.looks.sent ≡ false
finished_open s h c r server fits legal once there = subst OpenOf there (open_of s h c server fits legal once)
