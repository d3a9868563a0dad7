-- What a sender takes for acknowledged its receiver has: each step of the sender's end leaves that so, where what comes
-- to it was made of the receiver.
use Rattle.std.proofs.Common.{◌≡◌, ◌≤◌, ℕ, Bool, true, false, List, Option, Some, refl, sym, subst, ◌∙◌}
use Rattle.rx_model.specs.declared.answers.Took.{Took}
use Rattle.rx_model.specs.declared.answers.Took.TheVariants as tooks
use Rattle.rx_model.specs.declared.event.Event.{Event}
use Rattle.rx_model.specs.declared.names.CallName.{CallName}
use Rattle.rx_model.specs.Body.{AckBody, Body}
use Rattle.rx_model.specs.Body as bodies
use Rattle.rx_model.specs.Message.{Message}
use Rattle.rx_rules.specs.CallItems.{Sending, Piece, Ack, after_sending}
use Rattle.rx_rules.specs.CallLooks.{CallLooks, NodeView, after_body, after_chunk, after_taken, found}
use Rattle.rx_rules.specs.Looks.{Looks}
use Rattle.rx_rules.specs.Received.{Received, marks_of, used_of}
use Rattle.rx_rules.specs.Sent.{Sent, after_ack, after_all, pieces_of}
use Rattle.rx_rules.specs.Setup.{Setup, is_client, receiving_window}
use Rattle.rx_between.specs.Acknowledged.{AreTrue}
use Rattle.rx_between.proofs.Each.EachStep.{EndStep, Judges, finishes, gives, is_own, reads, shuts, stays, takes}
use Rattle.rx_between.proofs.Each.EachStep.{writes}
use Rattle.rx_between.specs.Told.{IsEarlierAck}
use Rattle.rx_between.proofs.Truth.{true_told}

-- what is asked of a message that comes: an ACK was made of the receiver; an ACKALL, and data at a client, come only of
-- a receiver that is done with all
abbrev pub ToldTruly : Setup → Bool → Sent → Received → Took → Body → Type 0
ToldTruly peer client sent r tooks.Heard (bodies.Ack a) = IsEarlierAck peer r a
ToldTruly peer client sent r tooks.Heard bodies.AckAll = pieces_of sent ≤ used_of r
ToldTruly peer client sent r got (bodies.Chunk payload) = client ≡ true → pieces_of sent ≤ used_of r
ToldTruly peer client sent r got body = Unit {0}

-- all is hard acknowledged
all-true : (s : Sent) (r : Received) → pieces_of s ≤ used_of r → AreTrue s r → AreTrue (after_all s) r
all-true s r all truth = record { hard = all; soft = truth.soft }

found-true : (client : Bool) (k : CallLooks) (r : Received) → (client ≡ true → pieces_of k.sent ≤ used_of r)
    → AreTrue k.sent r → AreTrue (found client k).sent r
found-true true k r all truth = all-true k.sent r (all refl) truth
found-true false k r all truth = truth

chunk-true : (v : NodeView) (got : Took) (m : Message) (body : Body) (k : CallLooks) (r : Received)
    → ((payload : List ℕ) → body ≡ bodies.Chunk payload → v.client ≡ true → pieces_of k.sent ≤ used_of r)
    → AreTrue k.sent r → AreTrue (after_chunk v got m body k).sent r
chunk-true v got m (bodies.Chunk payload) k r all truth = found-true v.client k r (all payload refl) truth
chunk-true v got m _ k r all truth = truth

ack-true : (peer : Setup) (s : Sent) (r : Received) (a : AckBody) → IsEarlierAck peer r a → AreTrue s r
    → AreTrue (after_ack a.first a.marks a.window s) r
ack-true peer s r a told truth =
    subst (λ (w : Option ℕ). AreTrue (after_ack a.first a.marks w s) r) (sym told.is.window)
    (subst (λ (ms : List Bool). AreTrue (after_ack a.first ms (Some (receiving_window peer)) s) r) (sym told.is.marks)
    (subst (λ (n : ℕ). AreTrue (after_ack n (marks_of told.then_) (Some (receiving_window peer)) s) r)
    (sym told.is.first) (true_told s told.then_ r (receiving_window peer) told.grown truth)))

body-true : (peer : Setup) (client : Bool) (now : ℕ) (m : Message) (body : Body) (k : CallLooks) (r : Received)
    → ToldTruly peer client k.sent r tooks.Heard body → AreTrue k.sent r → AreTrue (after_body now m body k).sent r
body-true peer client now m (bodies.Ack a) k r told truth = ack-true peer k.sent r a told truth
body-true peer client now m bodies.AckAll k r told truth = all-true k.sent r told truth
body-true peer client now m _ k r told truth = truth

module _ (peer : Setup) (client : Bool) (v : NodeView) (same : v.client ≡ client) (m : Message) (k : CallLooks)
    (r : Received) where
  data-told : (got : Took) → ((payload : List ℕ) → ToldTruly peer client k.sent r got (bodies.Chunk payload)
      → client ≡ true → pieces_of k.sent ≤ used_of r) → ToldTruly peer client k.sent r got m.body
      → (payload : List ℕ) → m.body ≡ bodies.Chunk payload → v.client ≡ true → pieces_of k.sent ≤ used_of r
  data-told got says told payload is here =
      says payload (subst (λ (b : Body). ToldTruly peer client k.sent r got b) is told) (sym same ∙ here)

  -- by a message that was judged
  pub taken_true : (got : Took) → ToldTruly peer client k.sent r got m.body → AreTrue k.sent r
      → AreTrue (after_taken v got m k).sent r
  taken_true tooks.Kept told truth =
      chunk-true v tooks.Kept m m.body k r (data-told tooks.Kept (λ payload t. t) told) truth
  taken_true tooks.Repeat told truth =
      chunk-true v tooks.Repeat m m.body k r (data-told tooks.Repeat (λ payload t. t) told) truth
  taken_true tooks.Beyond told truth =
      chunk-true v tooks.Beyond m m.body k r (data-told tooks.Beyond (λ payload t. t) told) truth
  taken_true tooks.Clash told truth =
      chunk-true v tooks.Clash m m.body k r (data-told tooks.Clash (λ payload t. t) told) truth
  taken_true tooks.NoSlot told truth =
      chunk-true v tooks.NoSlot m m.body k r (data-told tooks.NoSlot (λ payload t. t) told) truth
  taken_true tooks.Heard told truth = body-true peer client v.now m m.body k r told truth
  taken_true _ told truth = truth

sending-true : (now : ℕ) (x : Sending) (k : CallLooks) (r : Received) → AreTrue k.sent r
    → AreTrue (after_sending now x k).sent r
sending-true now (Piece seq again) k r truth = record { hard = truth.hard; soft = truth.soft }
sending-true now (Ack reason serial) k r truth = truth

same-true : (a b : CallLooks) (r : Received) → b ≡ a → AreTrue a.sent r → AreTrue b.sent r
same-true a b r is truth = subst (λ (k : CallLooks). AreTrue k.sent r) (sym is) truth

-- by each step of the sender's end
pub sent_true : (peer s : Setup) (l : Looks) (e : Event) (c : CallName) (a b : CallLooks) (r : Received)
    → EndStep s l e c a b
    → ((m : Message) (got : Took) → is_own got ≡ true → Judges s l e c m got
    → ToldTruly peer (is_client s.kind) a.sent r got m.body)
    → AreTrue a.sent r → AreTrue b.sent r
sent_true peer s l e c a b r (stays is) told truth = same-true a b r is truth
sent_true peer s l e c a b r (takes t) told truth =
    same-true (after_taken t.view t.got t.message a) b r t.is
    (taken_true peer (is_client s.kind) t.view t.view_is.client t.message a r t.got
    (told t.message t.got t.own t.judges) truth)
sent_true peer s l e c a b r (gives g) told truth =
    same-true (after_sending l.now g.sending a) b r g.is (sending-true l.now g.sending a r truth)
sent_true peer s l e c a b r (writes offered got bytes event is) told truth =
    same-true _ b r is (record { hard = truth.hard; soft = truth.soft })
sent_true peer s l e c a b r (reads most got bytes event is) told truth = same-true _ b r is truth
sent_true peer s l e c a b r (shuts event is) told truth =
    same-true _ b r is (record { hard = truth.hard; soft = truth.soft })
sent_true peer s l e c a b r (finishes code event zero' is) told truth =
    same-true _ b r is (record { hard = truth.hard; soft = truth.soft })
