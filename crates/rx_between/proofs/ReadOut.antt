-- A client's call that was read to its end has ended, and a call keeps the promptness of its node.
use Rattle.std.proofs.Common.{◌≡◌, ◌⊎◌, cond, ℕ, Bool, true, false, List, ◌∷◌, Option}
use Rattle.std.proofs.Common.{Some, None, option_map, refl, ◌∙◌, ap, sym, subst, inl, inr, ⊎_elim}
use Rattle.rx_model.specs.declared.answers.End.{End}
use Rattle.rx_model.specs.declared.answers.End.TheVariants as ends
use Rattle.rx_model.specs.declared.answers.ReadGot.{ReadGot}
use Rattle.rx_model.specs.declared.answers.Took.{Took}
use Rattle.rx_model.specs.declared.answers.Took.TheVariants as tooks
use Rattle.rx_model.specs.declared.event.Event.{Event}
use Rattle.rx_model.specs.declared.event.Event.TheVariants as events
use Rattle.rx_model.specs.declared.names.CallName.{CallName}
use Rattle.rx_model.specs.Body.{AckBody, Body}
use Rattle.rx_model.specs.Body as bodies
use Rattle.rx_model.specs.Message.{Message}
use Rattle.rx_model.proofs.NameLaws.{name_itself}
use Rattle.rx_rules.specs.After.{acknowledged, is_end, looks}
use Rattle.rx_rules.specs.CallItems.{Sending, Piece, Ack, after_sending}
use Rattle.rx_rules.specs.CallLooks.{CallLooks, NodeView, after_body, after_chunk, after_read, after_taken, found}
use Rattle.rx_rules.specs.CallLooks.{slowed}
use Rattle.rx_rules.specs.Life.{Life, after_end}
use Rattle.rx_rules.specs.Life as lives
use Rattle.rx_rules.specs.Looks.{CallRecord, Looks, call_at}
use Rattle.rx_rules.specs.Received.{Received}
use Rattle.rx_rules.specs.Rules.{Legal}
use Rattle.rx_rules.specs.Setup.{Setup, FitsSetup}
use Rattle.rx_history.specs.Streams.{end_of_life}
use Rattle.rx_history.proofs.Calls.{body-ends, found-ends}
use Rattle.rx_history.proofs.Ends.{Ends}
use Rattle.rx_between.specs.Acknowledged.{received_by}
use Rattle.rx_between.specs.Agreed.{HasEnded}
use Rattle.rx_between.proofs.Each.EachChange.{changed_twice}
use Rattle.rx_between.proofs.Each.EachEvent.{each_step}
use Rattle.rx_between.proofs.Each.EachStep.{CallStep, EndStep, Starts, finishes, gives, reads, shuts, stays, takes}
use Rattle.rx_between.proofs.Each.EachStep.{writes}
use Rattle.rx_between.proofs.Histories.{StepOf}
use Rattle.rx_between.proofs.Lives.{IsClients, clients_on, ended_on}
use Rattle.rx_between.proofs.Onward as onward

-- ---- what a message leaves

chunk_ended : (v : NodeView) (got : Took) (m : Message) (body : Body) (k : CallLooks)
    → (after_chunk v got m body k).received.ended ≡ k.received.ended
chunk_ended v got m (bodies.Chunk payload) k = ap (λ (x : Ends). x.ended) (found-ends v.client k)
chunk_ended v got m _ k = refl

taken_ended : (v : NodeView) (got : Took) (m : Message) (k : CallLooks)
    → (after_taken v got m k).received.ended ≡ k.received.ended
taken_ended v tooks.Kept m k = chunk_ended v tooks.Kept m m.body k
taken_ended v tooks.Repeat m k = chunk_ended v tooks.Repeat m m.body k
taken_ended v tooks.Beyond m k = chunk_ended v tooks.Beyond m m.body k
taken_ended v tooks.Clash m k = chunk_ended v tooks.Clash m m.body k
taken_ended v tooks.NoSlot m k = chunk_ended v tooks.NoSlot m m.body k
taken_ended v tooks.Heard m k = ap (λ (x : Ends). x.ended) (body-ends v.now m m.body k)
taken_ended v _ m k = refl

pub sending_ended : (now : ℕ) (x : Sending) (k : CallLooks) → (after_sending now x k).received.ended ≡ k.received.ended
sending_ended now (Piece seq again) k = refl
sending_ended now (Ack reason serial) k = refl

-- a read of the call
pub record IsReadOf (e : Event) (c : CallName) : Type 0 where
  pub most : ℕ
  pub got : ReadGot
  pub bytes : List ℕ
  pub is : e ≡ events.HasRead c most got bytes

-- only a read ends what was received
end_ended : (s : Setup) (l : Looks) (e : Event) (c : CallName) (a b : CallLooks) → EndStep s l e c a b
    → (b.received.ended ≡ a.received.ended) ⊎ IsReadOf e c
end_ended s l e c a b (stays is) = inl (ap (λ (k : CallLooks). k.received.ended) is)
end_ended s l e c a b (takes t) =
    inl (ap (λ (k : CallLooks). k.received.ended) t.is ∙ taken_ended t.view t.got t.message a)
end_ended s l e c a b (gives g) =
    inl (ap (λ (k : CallLooks). k.received.ended) g.is ∙ sending_ended l.now g.sending a)
end_ended s l e c a b (writes offered got bytes event is) = inl (ap (λ (k : CallLooks). k.received.ended) is)
end_ended s l e c a b (reads most got bytes event is) =
    inr (record { most = most; got = got; bytes = bytes; is = event })
end_ended s l e c a b (shuts event is) = inl (ap (λ (k : CallLooks). k.received.ended) is)
end_ended s l e c a b (finishes code event zero' is) = inl (ap (λ (k : CallLooks). k.received.ended) is)

-- ---- a client's call

-- of a call that is looked for
abbrev pub AreClients : Option CallRecord → Type 0
AreClients None = Unit {0}
AreClients (Some k) = IsClients k.life

ended_life : (x : Life) (end : End) → end_of_life x ≡ Some end → x ≡ lives.Ended end
ended_life (lives.Ended end) told is = (let same : end ≡ told = cc in ap lives.Ended same)
ended_life _ end is = absurd cc

-- a call that ended stays so
pub ended_stays : (s : Setup) (h : List Event) (e : Event) (c : CallName) → FitsSetup s → Legal s (e ∷ h)
    → ((b : CallRecord) → Starts s (looks s h) e c b → call_at (looks s h) c ≡ None)
    → HasEnded (call_at (looks s h) c) → HasEnded (call_at (looks s (e ∷ h)) c)
ended_stays s h e c fits legal anew ended =
    of (call_at (looks s h) c) (call_at (looks s (e ∷ h)) c) (each_step s h e c fits legal) anew ended
  where
    of : (a b : Option CallRecord) → CallStep s (looks s h) e c a b
        → ((k : CallRecord) → Starts s (looks s h) e c k → a ≡ None) → HasEnded a → HasEnded b
    of None b step anew was = absurd (let never = was.at in cc)
    of (Some a) None step anew was = absurd step
    of (Some a) (Some b) (inl goes) anew was =
        (let life = ended_on s (looks s h) e c b.looks a.life b.life was.end goes.life
        (ended_life a.life was.end was.at) in
        record { end = was.end; at = ap end_of_life life })
    of (Some a) (Some b) (inr starts) anew was =
        absurd (let never : ◌≡◌ {A = Option CallRecord} (Some a) None = anew b starts in cc)

-- each call of a client stays one
pub clients_step : (s : Setup) (h : List Event) (e : Event) (c : CallName) → FitsSetup s → Legal s (e ∷ h)
    → ((b : CallRecord) → Starts s (looks s h) e c b → b.life ≡ lives.Calling)
    → AreClients (call_at (looks s h) c) → AreClients (call_at (looks s (e ∷ h)) c)
clients_step s h e c fits legal calling are =
    of (call_at (looks s h) c) (call_at (looks s (e ∷ h)) c) (each_step s h e c fits legal) are
  where
    of : (a b : Option CallRecord) → CallStep s (looks s h) e c a b → AreClients a → AreClients b
    of None None step was = tt
    of None (Some b) starts was = subst IsClients (sym (calling b starts)) tt
    of (Some a) None step was = absurd step
    of (Some a) (Some b) (inl goes) was = clients_on s (looks s h) e c b.looks a.life b.life goes.life was
    of (Some a) (Some b) (inr starts) was = subst IsClients (sym (calling b starts)) tt

-- a read that answers End ends it
read_ends : (x : Life) → IsClients x → (end : End) × (end_of_life (after_end true x) ≡ Some end)
read_ends lives.Calling are = (ends.Ok, refl)
read_ends (lives.Ended end) are = (end, refl)
read_ends _ are = absurd are

rest_ends : (x : Life) (end : End) → end_of_life x ≡ Some end → end_of_life (after_end false x) ≡ Some end
rest_ends (lives.Ended end) told is = is
rest_ends _ end is = is

-- one that was read to its end has ended
abbrev pub EndsRead : Option CallRecord → Type 0
EndsRead o = (received_by o).ended ≡ true → HasEnded o

read_step : (s : Setup) (h : List Event) (c : CallName) (most : ℕ) (got : ReadGot) (bytes : List ℕ)
    → AreClients (call_at (looks s h) c) → EndsRead (call_at (looks s h) c)
    → EndsRead (call_at (looks s (events.HasRead c most got bytes ∷ h)) c)
read_step s h c most got bytes are before =
    subst EndsRead (sym is) (of (is_end got) (call_at l c) are before)
  where
    l : Looks
    l = looks s h

    change : Bool → CallRecord → CallRecord
    change end k = record k { looks = after_read l.now end bytes k.looks; life = after_end end k.life }

    is : call_at (looks s (events.HasRead c most got bytes ∷ h)) c ≡ option_map (change (is_end got)) (call_at l c)
    is =
        changed_twice c c (λ k. record k { looks = after_read l.now (is_end got) bytes k.looks })
        (λ k. record k { life = after_end (is_end got) k.life }) (acknowledged (is_end got) c l) (λ k. refl) (λ k. refl)
        ∙ ap (λ (b : Bool). cond b (option_map (change (is_end got)) (call_at l c)) (call_at l c)) (name_itself c)

    of : (end : Bool) (o : Option CallRecord) → AreClients o → EndsRead o → EndsRead (option_map (change end) o)
    of end None are before ended = absurd cc
    of true (Some k) are before ended = (let e = read_ends k.life are in record { end = e.0; at = e.1 })
    of false (Some k) are before ended =
        (let was = before ended in record { end = was.end; at = rest_ends k.life was.end was.at })

-- behind each event
pub ends_read : (s : Setup) (h : List Event) (e : Event) (c : CallName) → FitsSetup s → Legal s (e ∷ h)
    → ((b : CallRecord) → Starts s (looks s h) e c b → call_at (looks s h) c ≡ None)
    → StepOf s e h c → AreClients (call_at (looks s h) c) → EndsRead (call_at (looks s h) c)
    → EndsRead (call_at (looks s (e ∷ h)) c)
ends_read s h e c fits legal anew step are before =
    ⊎_elim
    (λ (same : (onward.end_by s l.now (call_at (looks s (e ∷ h)) c)).received.ended
    ≡ (onward.end_by s l.now (call_at l c)).received.ended).
    (λ (ended : (received_by (call_at (looks s (e ∷ h)) c)).ended ≡ true).
    ended_stays s h e c fits legal anew
    (before (ap (λ (r : Received). r.ended) (sym (onward.received_is s l.now (call_at l c))) ∙ sym same
    ∙ ap (λ (r : Received). r.ended) (onward.received_is s l.now (call_at (looks s (e ∷ h)) c)) ∙ ended))))
    (λ (r : IsReadOf e c).
    subst (λ (x : Event). EndsRead (call_at (looks s (x ∷ h)) c)) (sym r.is)
    (read_step s h c r.most r.got r.bytes are before))
    (end_ended s l e c (onward.end_by s l.now (call_at l c)) (onward.end_by s l.now (call_at (looks s (e ∷ h)) c)) step)
  where
    l : Looks
    l = looks s h

-- ---- promptness

slowed_prompt : (up half : Bool) (k : CallLooks) → (slowed up half k).cwnd.prompt ≡ k.cwnd.prompt
slowed_prompt true half k = refl
slowed_prompt false true k = refl
slowed_prompt false false k = refl

found_prompt : (client : Bool) (k : CallLooks) → (found client k).cwnd.prompt ≡ k.cwnd.prompt
found_prompt true k = refl
found_prompt false k = refl

chunk_prompt : (v : NodeView) (got : Took) (m : Message) (body : Body) (k : CallLooks)
    → (after_chunk v got m body k).cwnd.prompt ≡ k.cwnd.prompt
chunk_prompt v got m (bodies.Chunk payload) k = found_prompt v.client k
chunk_prompt v got m _ k = refl

body_prompt : (now : ℕ) (m : Message) (body : Body) (k : CallLooks)
    → (after_body now m body k).cwnd.prompt ≡ k.cwnd.prompt
body_prompt now m (bodies.Ack a) k = refl
body_prompt now m bodies.AckAll k = refl
body_prompt now m _ k = refl

taken_prompt : (v : NodeView) (got : Took) (m : Message) (k : CallLooks)
    → (after_taken v got m k).cwnd.prompt ≡ k.cwnd.prompt
taken_prompt v tooks.Kept m k = chunk_prompt v tooks.Kept m m.body k
taken_prompt v tooks.Repeat m k = chunk_prompt v tooks.Repeat m m.body k
taken_prompt v tooks.Beyond m k = chunk_prompt v tooks.Beyond m m.body k
taken_prompt v tooks.Clash m k = chunk_prompt v tooks.Clash m m.body k
taken_prompt v tooks.NoSlot m k = chunk_prompt v tooks.NoSlot m m.body k
taken_prompt v tooks.Heard m k = body_prompt v.now m m.body k
taken_prompt v _ m k = refl

sending_prompt : (now : ℕ) (x : Sending) (k : CallLooks) → (after_sending now x k).cwnd.prompt ≡ k.cwnd.prompt
sending_prompt now (Piece seq again) k = slowed_prompt _ _ k
sending_prompt now (Ack reason serial) k = refl

-- an end's node is as prompt as before
pub end_prompt : (s : Setup) (l : Looks) (e : Event) (c : CallName) (a b : CallLooks) → EndStep s l e c a b
    → b.cwnd.prompt ≡ a.cwnd.prompt
end_prompt s l e c a b (stays is) = ap (λ (k : CallLooks). k.cwnd.prompt) is
end_prompt s l e c a b (takes t) =
    ap (λ (k : CallLooks). k.cwnd.prompt) t.is ∙ taken_prompt t.view t.got t.message a
end_prompt s l e c a b (gives g) =
    ap (λ (k : CallLooks). k.cwnd.prompt) g.is ∙ sending_prompt l.now g.sending a
end_prompt s l e c a b (writes offered got bytes event is) = ap (λ (k : CallLooks). k.cwnd.prompt) is
end_prompt s l e c a b (reads most got bytes event is) = ap (λ (k : CallLooks). k.cwnd.prompt) is
end_prompt s l e c a b (shuts event is) = ap (λ (k : CallLooks). k.cwnd.prompt) is
end_prompt s l e c a b (finishes code event zero' is) = ap (λ (k : CallLooks). k.cwnd.prompt) is
