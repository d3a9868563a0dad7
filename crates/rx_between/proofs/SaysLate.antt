-- A server says nothing of a reply before it has read the whole request: where it gave data of a call, the call's
-- request was read to its end.
use Rattle.std.proofs.Common.{◌≡◌, ◌⊎◌, ◌≤◌, ◌++◌, ◌||◌, ℕ, ℤ, suc, not, min, Bool, true, false}
use Rattle.std.proofs.Common.{List, [], ◌∷◌, length, Option, Some, None, Result, Ok, Err, refl, ap, sym, subst, ◌∙◌}
use Rattle.std.proofs.Common.{inl, inr}
use Rattle.std.proofs.Common.{⊎_elim, arith}
use Rattle.rx_model.specs.declared.answers.ServeRefused.{ServeRefused}
use Rattle.rx_model.specs.declared.answers.Took.{Took}
use Rattle.rx_model.specs.declared.answers.Took.TheVariants as tooks
use Rattle.rx_model.specs.declared.answers.WroteGot.{WroteGot}
use Rattle.rx_model.specs.declared.answers.WroteGot.TheVariants as writers
use Rattle.rx_model.specs.declared.event.Event.{Event}
use Rattle.rx_model.specs.declared.event.Event.TheVariants as events
use Rattle.rx_model.specs.declared.names.CallName.{CallName}
use Rattle.rx_model.specs.declared.names.Host.{Host}
use Rattle.rx_model.specs.Body.{Body}
use Rattle.rx_model.specs.Body as bodies
use Rattle.rx_model.specs.Message.{Message}
use Rattle.rx_model.specs.Reading.{reading_of}
use Rattle.rx_rules.specs.After.{is_zero, looks}
use Rattle.rx_rules.specs.CallItems.{Sending, Piece, Ack, after_sending}
use Rattle.rx_rules.specs.CallLooks.{CallLooks, NodeView, after_chunk, after_taken}
use Rattle.rx_rules.specs.Life.{Life}
use Rattle.rx_rules.specs.Life as lives
use Rattle.rx_rules.specs.Looks.{CallRecord, Looks, call_at}
use Rattle.rx_rules.specs.Records.{silenced}
use Rattle.rx_rules.specs.Rules.{AllowedAt, AllowedServer, HasBytes, Legal, served_by, served_finish, served_write}
use Rattle.rx_rules.specs.Sent.{Sent, counting_by}
use Rattle.rx_rules.specs.Setup.{Setup, FitsSetup, IsServer, named}
use Rattle.rx_rules.specs.Slots.{room}
use Rattle.rx_history.proofs.Calls.{body-ends, found-ends}
use Rattle.rx_history.proofs.Data.{poll-gives}
use Rattle.rx_history.proofs.Ends.{Ends}
use Rattle.rx_law.proofs.Joint.{gives-at, polled-is}
use Rattle.rx_history.proofs.Laws.OnceLaw.{served}
use Rattle.rx_history.proofs.Server.{good-silenced}
use Rattle.rx_law.proofs.ServerHistory.{or_not}
use Rattle.rx_history.proofs.ServerStands.{running-at, server-stands}
use Rattle.rx_history.specs.Starts.{StartsOnce}
use Rattle.rx_law.specs.Worlds.{Gave}
use Rattle.rx_between.specs.Told.{Grows}
use Rattle.rx_between.specs.Acknowledged.{received_by, sent_by}
use Rattle.rx_between.proofs.Each.EachStep.{EndStep, finishes, gives, reads, shuts, stays, takes, writes}
use Rattle.rx_between.proofs.GivenAcks.{OnlyGrows, before_silence}
use Rattle.rx_between.proofs.Grows.{step_grows}
use Rattle.rx_between.proofs.Histories.{server_onward}
use Rattle.rx_between.proofs.Onward.{end_by}

-- nothing was said and the stream is open
abbrev pub IsSilent : Sent → Type 0
IsSilent s = (s.said ≡ []) × (s.shut ≡ false)

-- unless the other stream was read to its end
abbrev pub SaysLate : Option CallRecord → Type 0
SaysLate o = IsSilent (sent_by o) ⊎ ((received_by o).ended ≡ true)

-- the same of an end
abbrev EndSaysLate : CallLooks → Type 0
EndSaysLate k = IsSilent k.sent ⊎ (k.received.ended ≡ true)

-- ---- what leaves that so

silent-as : (a b : CallLooks) → b.sent.said ≡ a.sent.said → b.sent.shut ≡ a.sent.shut → Grows a.received b.received
    → EndSaysLate a → EndSaysLate b
silent-as a b said shut grows (inl silent) = inl (said ∙ silent.0, shut ∙ silent.1)
silent-as a b said shut grows (inr ended) = inr (grows.ended ended)

chunk-says : (v : NodeView) (got : Took) (m : Message) (body : Body) (k : CallLooks)
    → ((after_chunk v got m body k).sent.said ≡ k.sent.said) × ((after_chunk v got m body k).sent.shut ≡ k.sent.shut)
chunk-says v got m (bodies.Chunk payload) k =
    (ap (λ (x : Ends). x.said) (found-ends v.client k), ap (λ (x : Ends). x.shut) (found-ends v.client k))
chunk-says v got m _ k = (refl, refl)

taken-says : (v : NodeView) (got : Took) (m : Message) (k : CallLooks)
    → ((after_taken v got m k).sent.said ≡ k.sent.said) × ((after_taken v got m k).sent.shut ≡ k.sent.shut)
taken-says v tooks.Kept m k = chunk-says v tooks.Kept m m.body k
taken-says v tooks.Repeat m k = chunk-says v tooks.Repeat m m.body k
taken-says v tooks.Beyond m k = chunk-says v tooks.Beyond m m.body k
taken-says v tooks.Clash m k = chunk-says v tooks.Clash m m.body k
taken-says v tooks.NoSlot m k = chunk-says v tooks.NoSlot m m.body k
taken-says v tooks.Heard m k =
    (ap (λ (x : Ends). x.said) (body-ends v.now m m.body k), ap (λ (x : Ends). x.shut) (body-ends v.now m m.body k))
taken-says v _ m k = (refl, refl)

sending-says : (now : ℕ) (x : Sending) (k : CallLooks)
    → ((after_sending now x k).sent.said ≡ k.sent.said) × ((after_sending now x k).sent.shut ≡ k.sent.shut)
sending-says now (Piece seq again) k = (refl, refl)
sending-says now (Ack reason serial) k = (refl, refl)

-- ---- a server's calls

none-written : (life : Life) (most : ℕ) (got : Result ℕ ServeRefused) (bytes : List ℕ)
    → got ≡ served_by life false most → HasBytes got bytes → bytes ≡ []
none-written life most got bytes is has = of life is
  where
    bad : (why : ServeRefused) → got ≡ Err why → bytes ≡ []
    bad why same = subst (λ (r : Result ℕ ServeRefused). HasBytes r bytes) same has

    of : (life : Life) → got ≡ served_by life false most → bytes ≡ []
    of lives.Calling same = bad _ same
    of (lives.Ended end) same = bad _ same
    of lives.Waiting same = bad _ same
    of lives.Accepted same = bad _ same
    of lives.Finished same = bad _ same
    of (lives.Broken code) same = bad _ same
    of (lives.Over code) same = bad _ same

-- a write before the end of the request accepts nothing
write-late : (s : Setup) (l : Looks) (o : Option CallRecord) (offered : ℕ) (got : Result ℕ ServeRefused)
    (bytes : List ℕ) → got ≡ served_write s l o offered → HasBytes got bytes
    → (bytes ≡ []) ⊎ ((received_by o).ended ≡ true)
write-late s l None offered got bytes is has =
    inl (subst (λ (r : Result ℕ ServeRefused). HasBytes r bytes) is has)
write-late s l (Some k) offered got bytes is has = of k.looks.received.ended refl
  where
    most : ℕ
    most = min offered (room s l k.looks)

    of : (b : Bool) → k.looks.received.ended ≡ b → (bytes ≡ []) ⊎ (k.looks.received.ended ≡ true)
    of true ended = inr ended
    of false open_ =
        inl (none-written k.life most got bytes (is ∙ ap (λ (b : Bool). served_by k.life b most) open_) has)

finish-late : (o : Option CallRecord) (code : ℤ)
    → ◌≡◌ {A = Result (Unit {0}) ServeRefused} (Ok tt) (served_finish o code) → is_zero code ≡ true
    → (received_by o).ended ≡ true
finish-late None code is zero' = absurd cc
finish-late (Some k) code is zero' =
    or_not k.looks.received.ended (is_zero code)
    (running-at k.life (k.looks.received.ended || not (is_zero code)) tt is).1 zero'

wrote-nothing : (a b : CallLooks) (bytes : List ℕ)
    → b ≡ record a { sent = record a.sent { said = a.sent.said ++ bytes } }
    → bytes ≡ [] → EndSaysLate a → EndSaysLate b
wrote-nothing a b bytes is none (inl silent) =
    inl (
      ap (λ (k : CallLooks). k.sent.said) is ∙ (λ i. silent.0 i ++ none i),
      ap (λ (k : CallLooks). k.sent.shut) is
          ∙ silent.1,
    )
wrote-nothing a b bytes is none (inr ended) = inr (ap (λ (k : CallLooks). k.received.ended) is ∙ ended)

as-received : (s : Setup) (now : ℕ) (o : Option CallRecord) → (received_by o).ended ≡ true
    → (end_by s now o).received.ended ≡ true
as-received s now None ended = ended
as-received s now (Some k) ended = ended

server-write : (s : Setup) (l : Looks) (c : CallName) (offered : ℕ) (got : WroteGot) (bytes : List ℕ)
    → AllowedServer s l (events.Wrote c offered got bytes) → (bytes ≡ []) ⊎ ((received_by (call_at l c)).ended ≡ true)
server-write s l c offered (writers.Server got) bytes allowed =
    write-late s l (call_at l c) offered got bytes allowed.0 allowed.2
server-write s l c offered (writers.Client got) bytes allowed = absurd allowed

-- by each step of such a call
step-late : (s : Setup) (l : Looks) (e : Event) (c : CallName) (b : CallLooks) → AllowedServer s l e
    → EndStep s l e c (end_by s l.now (call_at l c)) b → EndSaysLate (end_by s l.now (call_at l c)) → EndSaysLate b
step-late s l e c b allowed (stays is) late = subst EndSaysLate (sym is) late
step-late s l e c b allowed (takes t) late =
    let a : CallLooks = end_by s l.now (call_at l c) in
    let same = taken-says t.view t.got t.message a in
    silent-as a b (ap (λ (k : CallLooks). k.sent.said) t.is ∙ same.0)
    (ap (λ (k : CallLooks). k.sent.shut) t.is ∙ same.1)
    (step_grows s l e c a b (takes t)) late
step-late s l e c b allowed (gives g) late =
    let a : CallLooks = end_by s l.now (call_at l c) in
    let same = sending-says l.now g.sending a in
    silent-as a b (ap (λ (k : CallLooks). k.sent.said) g.is ∙ same.0)
    (ap (λ (k : CallLooks). k.sent.shut) g.is ∙ same.1)
    (step_grows s l e c a b (gives g)) late
step-late s l e c b allowed (writes offered got bytes event is) late =
    let a : CallLooks = end_by s l.now (call_at l c) in
    ⊎_elim (λ (none : bytes ≡ []). wrote-nothing a b bytes is none late)
    (λ (ended : (received_by (call_at l c)).ended ≡ true).
    inr (ap (λ (k : CallLooks). k.received.ended) is ∙ as-received s l.now (call_at l c) ended))
    (server-write s l c offered got bytes (subst (λ (x : Event). AllowedServer s l x) event allowed))
step-late s l e c b allowed (reads most got bytes event is) late =
    let a : CallLooks = end_by s l.now (call_at l c) in
    silent-as a b (ap (λ (k : CallLooks). k.sent.said) is) (ap (λ (k : CallLooks). k.sent.shut) is)
    (step_grows s l e c a b (reads most got bytes event is)) late
step-late s l e c b allowed (shuts event is) late =
    absurd (subst (λ (x : Event). AllowedServer s l x) event allowed)
step-late s l e c b allowed (finishes code event zero' is) late =
    inr (ap (λ (k : CallLooks). k.received.ended) is
    ∙ as-received s l.now (call_at l c)
    (finish-late (call_at l c) code (subst (λ (x : Event). AllowedServer s l x) event allowed).1 zero'))

to-end : (s : Setup) (now : ℕ) (o : Option CallRecord) → SaysLate o → EndSaysLate (end_by s now o)
to-end s now None late = late
to-end s now (Some k) late = late

from-end : (s : Setup) (now : ℕ) (o : Option CallRecord) → EndSaysLate (end_by s now o) → SaysLate o
from-end s now None late = late
from-end s now (Some k) late = late

-- at every moment
pub server_says_late : (s : Setup) (h : List Event) (c : CallName) → IsServer s.kind → FitsSetup s → Legal s h
    → StartsOnce s h c → SaysLate (call_at (looks s h) c)
server_says_late s [] c server fits legal once = inl (refl, refl)
server_says_late s (e ∷ h) c server fits legal once =
    let l : Looks = looks s h in
    from-end s l.now (call_at (looks s (e ∷ h)) c)
    (step-late s l e c (end_by s l.now (call_at (looks s (e ∷ h)) c)) (served s.kind s l e server legal.0)
    (server_onward s e h c server fits legal once)
    (to-end s l.now (call_at l c) (server_says_late s h c server fits legal.1 once.1)))

-- ---- what it gave

none-counts : (s : Sent) (k : ℕ) → IsSilent s → suc k ≤ counting_by (length s.said) s.shut → ⊥
none-counts s k silent counts =
    (let none : suc k ≤ counting_by 0 false =
    subst (λ (b : Bool). suc k ≤ counting_by 0 b) silent.1
    (subst (λ (xs : List ℕ). suc k ≤ counting_by (length xs) s.shut) silent.0 counts) in
    omega arith)

-- each piece that a server gave
pub given_data : (s : Setup) (h : List Event) (c : CallName) (to : Host) (bytes : List ℕ) (m : Message)
    (payload : List ℕ) → IsServer s.kind → FitsSetup s → Legal s h → StartsOnce s h c → OnlyGrows s c h
    → reading_of bytes ≡ Ok m → m.body ≡ bodies.Chunk payload → named s to m ≡ c → Gave to bytes h
    → (received_by (call_at (looks s h) c)).ended ≡ true
given_data s [] c to bytes m payload server fits legal once grown read body name gave = absurd gave
given_data s (e ∷ h) c to bytes m payload server fits legal once grown read body name (inr gave) =
    grown.0.ended
    (given_data s h c to bytes m payload server fits legal.1 once.1 grown.1 read body name gave)
given_data s (e ∷ h) c to bytes m payload server fits legal once grown read body name (inl gives_it) =
    let l : Looks = looks s h in
    let w = gives-at to bytes e gives_it in
    let answer = polled-is s.kind s l w.0 (subst (λ (x : Event). AllowedAt s.kind s l x) w.1 legal.0) in
    let standing = server-stands s h server fits legal.1 in
    let g = poll-gives s (silenced l) l.strays to bytes m payload fits standing.conns
    (λ d. good-silenced s l d (standing.calls d)) (sym answer ∙ w.2) read body in
    let there : call_at (silenced l) c ≡ Some g.call =
    subst (λ (n : CallName). call_at (silenced l) n ≡ Some g.call) name g.there in
    let b = before_silence l c g.call there in
    let counts : suc g.behind ≤ counting_by (length b.call.looks.sent.said) b.call.looks.sent.shut =
    subst (λ (k : CallLooks). suc g.behind ≤ counting_by (length k.sent.said) k.sent.shut) b.same g.counts in
    let late : SaysLate (Some b.call) = subst SaysLate b.there (server_says_late s h c server fits legal.1 once.1) in
    grown.0.ended
    (subst (λ (o : Option CallRecord). (received_by o).ended ≡ true) (sym b.there)
    (⊎_elim (λ (silent : IsSilent b.call.looks.sent). absurd (none-counts b.call.looks.sent g.behind silent counts))
    (λ (ended : b.call.looks.received.ended ≡ true). ended) late))
