-- A client keeps no packet of a reply before its request is shut.
use Rattle.std.proofs.Common.{◌≡◌, ◌⊎◌, inl, inr, ◌+◌, ◌-◌, nat_lt, ◌&&◌, ◌==◌, not, if◌then◌else◌, ℕ, Bool, true}
use Rattle.std.proofs.Common.{false, List, [], ◌∷◌, Option, Some, None, refl, ap, sym, subst, ◌∙◌}
use Rattle.std.proofs.lemmas.Bool.{and_parts}
use Rattle.rx_model.specs.declared.answers.Took.{Took}
use Rattle.rx_model.specs.declared.answers.Took.TheVariants as tooks
use Rattle.rx_model.specs.declared.event.Event.{Event}
use Rattle.rx_model.specs.declared.names.CallName.{CallName}
use Rattle.rx_model.specs.Body.{Body}
use Rattle.rx_model.specs.Body as bodies
use Rattle.rx_model.specs.Message.{Message}
use Rattle.rx_model.proofs.NameLaws.{neither}
use Rattle.rx_rules.specs.After.{looks}
use Rattle.rx_rules.specs.CallItems.{Ack, Piece, Sending, after_sending}
use Rattle.rx_rules.specs.CallLooks.{CallLooks, NodeView, after_body, after_chunk, after_taken, arrival, call_row}
use Rattle.rx_rules.specs.CallLooks.{found, freed, packet_of}
use Rattle.rx_rules.specs.Looks.{CallRecord, Looks, call_at}
use Rattle.rx_rules.specs.Received.{Arrival, arrival_row, is_no_seq}
use Rattle.rx_rules.specs.Rules.{Legal}
use Rattle.rx_rules.specs.Sent.{given_of, is_all_given, pieces_of}
use Rattle.rx_rules.specs.Sent as streams
use Rattle.rx_rules.specs.Setup.{FitsSetup, Setup, is_client}
use Rattle.rx_between.proofs.Each.EachEvent.{each_step}
use Rattle.rx_between.proofs.Each.EachStep.{CallStep, EndStep, Starts, finishes, gives, is_own, reads, shuts, stays}
use Rattle.rx_between.proofs.Each.EachStep.{takes}
use Rattle.rx_between.proofs.Each.EachStep.{writes}
use Rattle.rx_between.proofs.OwnRows.{above_can}

-- nothing of the reply is kept, or the request is shut
abbrev pub IsLate : CallLooks → Type 0
IsLate k = (k.received.kept ≡ []) ⊎ (k.sent.shut ≡ true)

-- where both are as before
late_same : (a b : CallLooks) → b.received.kept ≡ a.received.kept → b.sent.shut ≡ a.sent.shut → IsLate a → IsLate b
late_same a b kept shut (inl none) = inl (kept ∙ none)
late_same a b kept shut (inr all) = inr (shut ∙ all)

-- ---- a message

found_shut : (client : Bool) (k : CallLooks) → (found client k).sent.shut ≡ k.sent.shut
found_shut true k = refl
found_shut false k = refl

-- a client keeps no packet that comes before its request was all given
kept_strange : (a : Arrival) → arrival_row a ≡ tooks.Kept → a.is_strange ≡ false
kept_strange a is = of a.is_strange refl is
  where
    of : (b : Bool) → a.is_strange ≡ b
        → (if b then tooks.Strange else if a.is_repeat then tooks.Repeat else if a.is_beyond then tooks.Beyond
        else if a.is_clash then tooks.Clash else if a.has_slot then tooks.Kept else tooks.NoSlot) ≡ tooks.Kept
        → b ≡ false
    of true strange row = absurd cc
    of false plain row = refl

kept_shut : (v : NodeView) (m : Message) (payload : List ℕ) (k : CallLooks) → v.client ≡ true
    → call_row v m (bodies.Chunk payload) k ≡ tooks.Kept → k.sent.shut ≡ true
kept_shut v m payload k client row =
    let plain = kept_strange
    (arrival v.client v.window (v.left + freed v.client k) (packet_of m payload) (found v.client k)) row in
    let late = (neither (is_no_seq m.seq) (v.client && not (is_all_given (found v.client k).sent)) plain).1 in
    let given : is_all_given (found v.client k).sent ≡ true =
    above_can v.client (is_all_given (found v.client k).sent) client late in
    sym (found_shut v.client k)
    ∙ (and_parts (found v.client k).sent.shut
    (given_of (found v.client k).sent == pieces_of (found v.client k).sent) given).0

module _ (v : NodeView) (m : Message) (k : CallLooks) (client : v.client ≡ true) (late : IsLate k) where
  -- data that isn't kept
  late_chunk : (got : Took) (body : Body) → (got ≡ tooks.Repeat) ⊎ ((got ≡ tooks.Beyond) ⊎ ((got ≡ tooks.Clash)
      ⊎ (got ≡ tooks.NoSlot))) → IsLate (after_chunk v got m body k)
  late_chunk got (bodies.Chunk payload) (inl is) =
      subst (λ (t : Took). IsLate (after_chunk v t m (bodies.Chunk payload) k)) (sym is)
      (late_same k (after_chunk v tooks.Repeat m (bodies.Chunk payload) k) refl (found_shut v.client k) late)
  late_chunk got (bodies.Chunk payload) (inr (inl is)) =
      subst (λ (t : Took). IsLate (after_chunk v t m (bodies.Chunk payload) k)) (sym is)
      (late_same k (after_chunk v tooks.Beyond m (bodies.Chunk payload) k) refl (found_shut v.client k) late)
  late_chunk got (bodies.Chunk payload) (inr (inr (inl is))) =
      subst (λ (t : Took). IsLate (after_chunk v t m (bodies.Chunk payload) k)) (sym is)
      (late_same k (after_chunk v tooks.Clash m (bodies.Chunk payload) k) refl (found_shut v.client k) late)
  late_chunk got (bodies.Chunk payload) (inr (inr (inr is))) =
      subst (λ (t : Took). IsLate (after_chunk v t m (bodies.Chunk payload) k)) (sym is)
      (late_same k (after_chunk v tooks.NoSlot m (bodies.Chunk payload) k) refl (found_shut v.client k) late)
  late_chunk got _ is = late

  -- data that is kept
  late_kept : (body : Body) → call_row v m body k ≡ tooks.Kept → IsLate (after_chunk v tooks.Kept m body k)
  late_kept (bodies.Chunk payload) row = inr (found_shut v.client k ∙ kept_shut v m payload k client row)
  late_kept _ row = late

  ack_shut : (b : Bool) (s t : streams.Sent) → t.shut ≡ s.shut → (if b then s else t).shut ≡ s.shut
  ack_shut true s t same = refl
  ack_shut false s t same = same

  late_body : (now : ℕ) (body : Body) → IsLate (after_body now m body k)
  late_body now (bodies.Ack a) =
      late_same k (after_body now m (bodies.Ack a) k) refl
      (ack_shut (nat_lt (a.first - 1) k.sent.acked) k.sent (record k.sent {
        acked = a.first - 1;
        soft = streams.is_marked a.first a.marks;
        peer_window = streams.with_window a.window k.sent.peer_window;
      }) refl) late
  late_body now bodies.AckAll = late_same k (after_body now m bodies.AckAll k) refl refl late
  late_body now _ = late

  -- a message of the call
  late_taken : (got : Took) → call_row v m m.body k ≡ got → is_own got ≡ true → IsLate (after_taken v got m k)
  late_taken tooks.Kept row own = late_kept m.body row
  late_taken tooks.Repeat row own = late_chunk tooks.Repeat m.body (inl refl)
  late_taken tooks.Beyond row own = late_chunk tooks.Beyond m.body (inr (inl refl))
  late_taken tooks.Clash row own = late_chunk tooks.Clash m.body (inr (inr (inl refl)))
  late_taken tooks.NoSlot row own = late_chunk tooks.NoSlot m.body (inr (inr (inr refl)))
  late_taken tooks.Heard row own =
      late_same (after_body v.now m m.body k) (after_taken v tooks.Heard m k) refl refl (late_body v.now m.body)
  late_taken _ row own = absurd cc

-- ---- a step

late_sending : (now : ℕ) (x : Sending) (k : CallLooks) → IsLate k → IsLate (after_sending now x k)
late_sending now (Piece seq again) k late = late_same k (after_sending now (Piece seq again) k) refl refl late
late_sending now (Ack reason serial) k late = late_same k (after_sending now (Ack reason serial) k) refl refl late

late_step : (s : Setup) (l : Looks) (e : Event) (c : CallName) (a b : CallLooks) → is_client s.kind ≡ true
    → EndStep s l e c a b → IsLate a → IsLate b
late_step s l e c a b client (stays is) late = subst IsLate (sym is) late
late_step s l e c a b client (takes t) late =
    subst IsLate (sym t.is) (late_taken t.view t.message a (t.view_is.client ∙ client) late t.got t.row t.own)
late_step s l e c a b client (gives g) late = subst IsLate (sym g.is) (late_sending l.now g.sending a late)
late_step s l e c a b client (writes offered got bytes event is) late =
    late_same a b (ap (λ (k : CallLooks). k.received.kept) is) (ap (λ (k : CallLooks). k.sent.shut) is) late
late_step s l e c a b client (reads most got bytes event is) late =
    late_same a b (ap (λ (k : CallLooks). k.received.kept) is) (ap (λ (k : CallLooks). k.sent.shut) is) late
late_step s l e c a b client (shuts event is) late = inr (ap (λ (k : CallLooks). k.sent.shut) is)
late_step s l e c a b client (finishes code event zero is) late = inr (ap (λ (k : CallLooks). k.sent.shut) is)

late_starts : (s : Setup) (l : Looks) (e : Event) (c : CallName) (b : CallRecord) → is_client s.kind ≡ true
    → Starts s l e c b → IsLate b.looks
late_starts s l e c b client (name, inl o) =
    let t = o.takes in
    subst IsLate (sym t.is) (late_taken t.view t.message _ (t.view_is.client ∙ client) (inl refl) t.got t.row t.own)
late_starts s l e c b client (name, inr made) = inl (ap (λ (k : CallLooks). k.received.kept) made.looks)

-- of a call that is looked for
abbrev LateAt : Option CallRecord → Type 0
LateAt None = Unit {0}
LateAt (Some r) = IsLate r.looks

late_on : (s : Setup) (l : Looks) (e : Event) (c : CallName) (a b : Option CallRecord) → is_client s.kind ≡ true
    → CallStep s l e c a b → LateAt a → LateAt b
late_on s l e c None None client step late = tt
late_on s l e c None (Some b) client step late = late_starts s l e c b client step
late_on s l e c (Some a) None client step late = tt
late_on s l e c (Some a) (Some b) client (inl goes) late =
    late_step s l e c a.looks b.looks client goes.end late
late_on s l e c (Some a) (Some b) client (inr starts) late = late_starts s l e c b client starts

late_at : (s : Setup) (h : List Event) (c : CallName) → is_client s.kind ≡ true → FitsSetup s → Legal s h
    → LateAt (call_at (looks s h) c)
late_at s [] c client fits legal = tt
late_at s (e ∷ h) c client fits legal =
    late_on s (looks s h) e c (call_at (looks s h) c) (call_at (looks s (e ∷ h)) c) client
    (each_step s h e c fits legal) (late_at s h c client fits legal.1)

-- of any legal history of a client
pub reply_late : (s : Setup) (h : List Event) (c : CallName) (r : CallRecord) → is_client s.kind ≡ true → FitsSetup s
    → Legal s h → call_at (looks s h) c ≡ Some r → IsLate r.looks
reply_late s h c r client fits legal there = subst LateAt there (late_at s h c client fits legal)
