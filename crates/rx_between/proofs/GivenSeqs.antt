-- Each packet that an end kept is a piece that the other gave: pieces that were given stay given, and data that comes
-- is one of them.
use Rattle.std.proofs.Common.{◌≡◌, ◌⊎◌, ◌≤◌, cond, if◌then◌else◌, ℕ, Bool, true, List, [], ◌∷◌, drop}
use Rattle.std.proofs.Common.{Option, Some, option_map, Result, Ok, refl, ◌∙◌, ap, sym, subst, arith, inl, inr}
use Rattle.std.proofs.Common.{⊎_elim}
use Rattle.rx_model.specs.declared.answers.BadMsg.{BadMsg}
use Rattle.rx_model.specs.declared.answers.Took.{Took}
use Rattle.rx_model.specs.declared.answers.Took.TheVariants as tooks
use Rattle.rx_model.specs.declared.event.Event.{Event}
use Rattle.rx_model.specs.declared.event.Event.TheVariants as events
use Rattle.rx_model.specs.declared.names.CallName.{CallName}
use Rattle.rx_model.specs.declared.names.Host.{Host}
use Rattle.rx_model.specs.Body.{Body}
use Rattle.rx_model.specs.Body as bodies
use Rattle.rx_model.specs.Message.{Message}
use Rattle.rx_model.specs.Names.{connection_of, same_name}
use Rattle.rx_model.specs.Reading.{reading_of}
use Rattle.rx_model.specs.Strays.{is_stray}
use Rattle.rx_model.proofs.NameLaws.{name_itself}
use Rattle.rx_rules.specs.After.{counted, given_body, given_message, looks}
use Rattle.rx_rules.specs.CallItems.{Sending, Piece, Ack, after_sending}
use Rattle.rx_rules.specs.CallLooks.{CallLooks, NodeView, after_chunk, after_piece, after_taken, found, packet_of}
use Rattle.rx_rules.specs.Looks.{CallRecord, Looks, call_at}
use Rattle.rx_rules.specs.Received.{Packet, Received, after_packet, greatest}
use Rattle.rx_rules.specs.Records.{silenced}
use Rattle.rx_rules.specs.Rules.{AllowedAt, Legal}
use Rattle.rx_rules.specs.Sent.{Giving, Sent, given_of}
use Rattle.rx_rules.specs.Setup.{Setup, FitsSetup, named}
use Rattle.rx_law.specs.Worlds.{Gave}
use Rattle.rx_history.proofs.Calls.{body-ends, call-changed, found-ends}
use Rattle.rx_history.proofs.Ends.{Ends}
use Rattle.rx_law.proofs.Joint.{gives-at, polled-is}
use Rattle.rx_between.specs.Acknowledged.{received_by, sent_by}
use Rattle.rx_between.specs.Agreed.{AreGiven}
use Rattle.rx_between.proofs.Each.EachStep.{EndStep, Judges, finishes, gives, reads, shuts, stays, takes, writes}
use Rattle.rx_between.proofs.Histories.{StepOf}
use Rattle.rx_between.proofs.Onward.{end_by, received_is, sent_is}
use Rattle.rx_between.proofs.PollSays.{Says, poll_says}
use Rattle.rx_history.proofs.Plain.PlainBodies.{IsSent}

-- ---- what was given stays given

pub chunk_givings : (v : NodeView) (got : Took) (m : Message) (body : Body) (k : CallLooks)
    → (after_chunk v got m body k).sent.givings ≡ k.sent.givings
chunk_givings v got m (bodies.Chunk payload) k = ap (λ (x : Ends). x.givings) (found-ends v.client k)
chunk_givings v got m _ k = refl

pub taken_givings : (v : NodeView) (got : Took) (m : Message) (k : CallLooks)
    → (after_taken v got m k).sent.givings ≡ k.sent.givings
taken_givings v tooks.Kept m k = chunk_givings v tooks.Kept m m.body k
taken_givings v tooks.Repeat m k = chunk_givings v tooks.Repeat m m.body k
taken_givings v tooks.Beyond m k = chunk_givings v tooks.Beyond m m.body k
taken_givings v tooks.Clash m k = chunk_givings v tooks.Clash m m.body k
taken_givings v tooks.NoSlot m k = chunk_givings v tooks.NoSlot m m.body k
taken_givings v tooks.Heard m k = ap (λ (x : Ends). x.givings) (body-ends v.now m m.body k)
taken_givings v _ m k = refl

-- as many pieces as before, where the givings are the same
same_given : (a b : CallLooks) → b.sent.givings ≡ a.sent.givings → given_of a.sent ≤ given_of b.sent
same_given a b same = (let is : given_of b.sent ≡ given_of a.sent = ap given_by same in omega arith)
  where
    given_by : List Giving → ℕ
    given_by gs = given_of (record a.sent { givings = gs })

pub sending_given : (now : ℕ) (x : Sending) (k : CallLooks) → given_of k.sent ≤ given_of (after_sending now x k).sent
sending_given now (Piece seq again) k = omega arith
sending_given now (Ack reason serial) k = omega arith

pub step_given : (s : Setup) (l : Looks) (e : Event) (c : CallName) (a b : CallLooks) → EndStep s l e c a b
    → given_of a.sent ≤ given_of b.sent
step_given s l e c a b (stays is) = same_given a b (ap (λ (k : CallLooks). k.sent.givings) is)
step_given s l e c a b (takes t) =
    same_given a b (ap (λ (k : CallLooks). k.sent.givings) t.is ∙ taken_givings t.view t.got t.message a)
step_given s l e c a b (gives g) =
    subst (λ (k : CallLooks). given_of a.sent ≤ given_of k.sent) (sym g.is) (sending_given l.now g.sending a)
step_given s l e c a b (writes offered got bytes event is) = same_given a b (ap (λ (k : CallLooks). k.sent.givings) is)
step_given s l e c a b (reads most got bytes event is) = same_given a b (ap (λ (k : CallLooks). k.sent.givings) is)
step_given s l e c a b (shuts event is) = same_given a b (ap (λ (k : CallLooks). k.sent.givings) is)
step_given s l e c a b (finishes code event zero' is) = same_given a b (ap (λ (k : CallLooks). k.sent.givings) is)

-- the same of a call that is looked for
pub given_step : (s : Setup) (e : Event) (h : List Event) (c : CallName) → StepOf s e h c
    → given_of (sent_by (call_at (looks s h) c)) ≤ given_of (sent_by (call_at (looks s (e ∷ h)) c))
given_step s e h c step =
    let l : Looks = looks s h in
    let low = step_given s l e c (end_by s l.now (call_at l c)) (end_by s l.now (call_at (looks s (e ∷ h)) c)) step in
    let before = ap given_of (sent_is s l.now (call_at l c)) in
    let behind = ap given_of (sent_is s l.now (call_at (looks s (e ∷ h)) c)) in
    omega arith

-- with each event of a history
abbrev pub OnlyGives : Setup → CallName → List Event → Type 0
OnlyGives s c [] = Unit {0}
OnlyGives s c (e ∷ h) =
    given_of (sent_by (call_at (looks s h) c)) ≤ given_of (sent_by (call_at (looks s (e ∷ h)) c)) × OnlyGives s c h

-- ---- data that was given

-- behind its giving its piece is given
gave_now : (s : Setup) (h : List Event) (to : Host) (bytes : List ℕ) (m : Message) (payload : List ℕ) (c : CallName)
    → reading_of bytes ≡ Ok m → m.body ≡ bodies.Chunk payload → named s to m ≡ c → Says s (looks s h) m c
    → m.seq ≤ given_of (sent_by (call_at (looks s (events.Polled (Some (to, bytes)) ∷ h)) c))
gave_now s h to bytes m payload c is_read chunk name says =
    let l : Looks = silenced (looks s h) in
    let d : CallName = named s to m in
    let mid : Looks = counted (connection_of d) l in
    let change : CallRecord → CallRecord = λ (k : CallRecord). record k { looks = after_piece l.now m.seq k.looks } in
    let given : call_at (looks s (events.Polled (Some (to, bytes)) ∷ h)) c
    ≡ call_at (given_body d m (bodies.Chunk payload) mid) c =
    ap (λ (r : Result Message BadMsg). call_at (given_message s to r l) c) is_read
    ∙ ap (λ (b : Body). call_at (if is_stray m b then record l { strays = drop 1 l.strays }
    else given_body d m b mid) c) chunk in
    let own : same_name c d ≡ true = subst (λ (n : CallName). same_name c n ≡ true) (sym name) (name_itself c) in
    let there : call_at (looks s (events.Polled (Some (to, bytes)) ∷ h)) c ≡ Some (change says.call) =
    given ∙ call-changed c d change mid (λ k. refl)
    ∙ ap (λ (b : Bool). cond b (option_map change (call_at l c)) (call_at l c)) own
    ∙ ap (option_map change) says.there in
    subst (λ (o : Option CallRecord). m.seq ≤ given_of (sent_by o)) (sym there) (omega arith)

-- whenever it was
pub given_seqs : (s : Setup) (h : List Event) (c : CallName) (to : Host) (bytes : List ℕ) (m : Message)
    (payload : List ℕ) → FitsSetup s → Legal s h → OnlyGives s c h → reading_of bytes ≡ Ok m
    → m.body ≡ bodies.Chunk payload → named s to m ≡ c → Gave to bytes h
    → m.seq ≤ given_of (sent_by (call_at (looks s h) c))
given_seqs s [] c to bytes m payload fits legal grown is_read chunk name gave = absurd gave
given_seqs s (e ∷ h) c to bytes m payload fits legal grown is_read chunk name (inr gave) =
    let before = given_seqs s h c to bytes m payload fits legal.1 grown.1 is_read chunk name gave in
    let more = grown.0 in
    omega arith
given_seqs s (e ∷ h) c to bytes m payload fits legal grown is_read chunk name (inl gave) =
    let g = gives-at to bytes e gave in
    let answer = polled-is s.kind s (looks s h) g.0
    (subst (λ (x : Event). AllowedAt s.kind s (looks s h) x) g.1 legal.0) in
    let says = poll_says s h fits legal.1 to bytes m is_read (subst IsSent (sym chunk) tt) (sym answer ∙ g.2) in
    subst (λ (x : Event). m.seq ≤ given_of (sent_by (call_at (looks s (x ∷ h)) c)))
    (ap events.Polled (sym g.2) ∙ sym g.1)
    (gave_now s h to bytes m payload c is_read chunk name
    (subst (λ (n : CallName). Says s (looks s h) m n) name says))

-- ---- what an end keeps

-- it kept what it had, or one packet more
pub record KeepsOne (s : Setup) (l : Looks) (e : Event) (c : CallName) (a b : Received) : Type 0 where
  pub message : Message
  pub payload : List ℕ
  pub chunk : message.body ≡ bodies.Chunk payload
  pub judges : Judges s l e c message tooks.Kept
  pub is : b.kept ≡ packet_of message payload ∷ a.kept

module _ (s : Setup) (l : Looks) (e : Event) (c : CallName) (a b : CallLooks) where
  abbrev Keeps : Type 0
  Keeps = (b.received.kept ≡ a.received.kept) ⊎ KeepsOne s l e c a.received b.received

  rests : (k : CallLooks) → b ≡ k → k.received.kept ≡ a.received.kept → Keeps
  rests k is same = inl (ap (λ (j : CallLooks). j.received.kept) is ∙ same)

  keeps : (v : NodeView) (m : Message) (body : Body) → m.body ≡ body → Judges s l e c m tooks.Kept
      → b ≡ after_chunk v tooks.Kept m body a → Keeps
  keeps v m (bodies.Chunk payload) at judges is =
      inr (record {
        message = m;
        payload = payload;
        chunk = at;
        judges = judges;
        is =
            ap (λ (k : CallLooks). k.received.kept) is
            ∙ ap (λ (ps : List Packet). packet_of m payload ∷ ps) (ap (λ (x : Ends). x.kept) (found-ends v.client a));
      })
  keeps v m _ at judges is = rests a is refl

  chunk_kept : (v : NodeView) (got : Took) (m : Message) (body : Body)
      → ((p : Packet) (ps : List Packet) → (after_packet got p (record a.received { kept = ps })).kept ≡ ps)
      → (after_chunk v got m body a).received.kept ≡ a.received.kept
  chunk_kept v got m (bodies.Chunk payload) same =
      same (packet_of m payload) (found v.client a).received.kept ∙ ap (λ (x : Ends). x.kept) (found-ends v.client a)
  chunk_kept v got m _ same = refl

  by_taken : (got : Took) (v : NodeView) (m : Message) → Judges s l e c m got → b ≡ after_taken v got m a → Keeps
  by_taken tooks.Kept v m judges is = keeps v m m.body refl judges is
  by_taken tooks.Repeat v m judges is =
      rests (after_taken v tooks.Repeat m a) is (chunk_kept v tooks.Repeat m m.body (λ p ps. refl))
  by_taken tooks.Beyond v m judges is =
      rests (after_taken v tooks.Beyond m a) is (chunk_kept v tooks.Beyond m m.body (λ p ps. refl))
  by_taken tooks.Clash v m judges is =
      rests (after_taken v tooks.Clash m a) is (chunk_kept v tooks.Clash m m.body (λ p ps. refl))
  by_taken tooks.NoSlot v m judges is =
      rests (after_taken v tooks.NoSlot m a) is (chunk_kept v tooks.NoSlot m m.body (λ p ps. refl))
  by_taken tooks.Heard v m judges is =
      rests (after_taken v tooks.Heard m a) is (ap (λ (x : Ends). x.kept) (body-ends v.now m m.body a))
  by_taken _ v m judges is = rests a is refl

  pub step_keeps : EndStep s l e c a b → Keeps
  step_keeps (stays is) = rests a is refl
  step_keeps (takes t) = by_taken t.got t.view t.message t.judges t.is
  step_keeps (gives g) = rests (after_sending l.now g.sending a) g.is (of g.sending)
    where
      of : (x : Sending) → (after_sending l.now x a).received.kept ≡ a.received.kept
      of (Piece seq again) = refl
      of (Ack reason serial) = refl
  step_keeps (writes offered got bytes event is) = rests _ is refl
  step_keeps (reads most got bytes event is) = rests _ is refl
  step_keeps (shuts event is) = rests _ is refl
  step_keeps (finishes code event zero' is) = rests _ is refl

-- so each of what it keeps is given, where what comes is
pub kept_given : (s : Setup) (e : Event) (h : List Event) (c : CallName) (sent : Sent) → StepOf s e h c
    → ((m : Message) (payload : List ℕ) → m.body ≡ bodies.Chunk payload → Judges s (looks s h) e c m tooks.Kept
    → m.seq ≤ given_of sent)
    → AreGiven sent (received_by (call_at (looks s h) c)) → AreGiven sent (received_by (call_at (looks s (e ∷ h)) c))
kept_given s e h c sent step comes given =
    let l : Looks = looks s h in
    let a : CallLooks = end_by s l.now (call_at l c) in
    let b : CallLooks = end_by s l.now (call_at (looks s (e ∷ h)) c) in
    let before : AreGiven sent a.received =
    subst (AreGiven sent) (sym (received_is s l.now (call_at l c))) given in
    subst (AreGiven sent) (received_is s l.now (call_at (looks s (e ∷ h)) c))
    (⊎_elim
    (λ (same : b.received.kept ≡ a.received.kept).
    subst (λ (ps : List Packet). greatest ps ≤ given_of sent) (sym same) before)
    (λ (one : KeepsOne s l e c a.received b.received). (
    let low = comes one.message one.payload one.chunk one.judges in
    subst (λ (ps : List Packet). greatest ps ≤ given_of sent) (sym one.is) (omega arith)))
    (step_keeps s l e c a b step))
