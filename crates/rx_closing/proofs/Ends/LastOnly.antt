-- Of the packets that an end keeps at most one is the last, and an end that read all that stands without a gap is
-- drained.
use Rattle.std.proofs.Common.{◌≡◌, inl, inr, ◌≤◌, ◌+◌, ◌∷◌, ◌==◌, ◌&&◌, ◌||◌, cond, ℕ, suc, Bool, true, false, List, []}
use Rattle.std.proofs.Common.{length, refl, ap, sym, subst, ◌∙◌, Option, Some, None, arith, is_some, nat_le, nat_lt}
use Rattle.std.proofs.lemmas.Bool.Decides.{nat_tests}
use Rattle.rx_model.specs.declared.answers.Took.{Took}
use Rattle.rx_model.specs.declared.answers.Took.TheVariants as tooks
use Rattle.rx_model.specs.declared.event.Event.{Event}
use Rattle.rx_model.specs.declared.names.CallName.{CallName}
use Rattle.rx_model.specs.Body.{Body}
use Rattle.rx_model.specs.Body as bodies
use Rattle.rx_model.specs.Message.{Message}
use Rattle.rx_model.specs.Names.{same_name}
use Rattle.rx_model.proofs.NameLaws.{neither, same_number}
use Rattle.rx_rules.specs.After.{looks}
use Rattle.rx_rules.specs.CallItems.{Sending, Piece, Ack, after_sending}
use Rattle.rx_rules.specs.CallLooks.{CallLooks, NodeView, after_body, after_chunk, after_taken, arrival, call_row}
use Rattle.rx_rules.specs.CallLooks.{found, freed, packet_of}
use Rattle.rx_rules.specs.Life.{is_active}
use Rattle.rx_rules.specs.Looks.{CallRecord, Looks, call_at}
use Rattle.rx_rules.specs.Received.{Packet, Received, bytes_to, end_of, front_of, greatest}
use Rattle.rx_rules.specs.Received.{is_above, is_complete, is_done, is_done_by, is_within, last_seq, packet_at}
use Rattle.rx_rules.specs.Received.{unread_of, used_of}
use Rattle.rx_rules.specs.Received as packets
use Rattle.rx_rules.specs.Rules.{Legal}
use Rattle.rx_rules.specs.Setup.{FitsSetup, Setup, is_client}
use Rattle.rx_rules.proofs.PacketLaws.{bytes_split, end_is, front_all, kept_within}
use Rattle.rx_history.proofs.Differ.{every_found}
use Rattle.rx_history.proofs.Reaches.{reach_least}
use Rattle.rx_history.proofs.Suffice.{roomy_history}
use Rattle.rx_history.proofs.Room.Tight.{TightOf}
use Rattle.rx_history.proofs.Laws.UsedLaws.{used_within}
use Rattle.rx_history.proofs.Laws.WholeLaws.{none_left}
use Rattle.rx_between.proofs.Each.EachEvent.{each_step}
use Rattle.rx_between.proofs.Each.EachStep.{CallStep, EndStep, Starts, finishes, gives, reads, shuts, stays, takes}
use Rattle.rx_between.proofs.Each.EachStep.{writes}
use Rattle.std.proofs.lemmas.List.{length-append}
use Rattle.rx_between.proofs.Grows.{fresh-arrival}

-- ---- one last packet

-- a kept packet that is the last one is the one that is found so
abbrev pub OneLast : List Packet → Type 0
OneLast ps = (k : ℕ) (q : packets.Piece) → packet_at ps k ≡ Some q → q.last ≡ true → last_seq ps ≡ Some k

-- with one more that is no clash
last_more : (p : Packet) (ps : List Packet) → is_some (packet_at ps p.seq) ≡ false
    → (is_above (last_seq ps) p.seq || (p.piece.last && nat_lt p.seq (greatest ps))) ≡ false → OneLast ps
    → OneLast (p ∷ ps)
last_more p ps away fine one k q there last = by p.piece.last refl (p.seq == k) refl there
  where
    clash : (is_above (last_seq ps) p.seq ≡ false) × ((p.piece.last && nat_lt p.seq (greatest ps)) ≡ false)
    clash = neither (is_above (last_seq ps) p.seq) (p.piece.last && nat_lt p.seq (greatest ps)) fine

    by : (end : Bool) → p.piece.last ≡ end → (own : Bool) → (p.seq == k) ≡ own
        → cond own (Some p.piece) (packet_at ps k) ≡ Some q → cond end (Some p.seq) (last_seq ps) ≡ Some k
    by true is true same at = ap (λ (n : ℕ). Some n) (same_number p.seq k same)
    by false is true same at =
        let mine : p.piece ≡ q = cc in
        let wrong : ◌≡◌ {A = Bool} true false = sym last ∙ ap (λ (x : packets.Piece). x.last) (sym mine) ∙ is in
        absurd (cc (wrong))
    by false is false other at = one k q at last
    by true is false other at =
        let before : last_seq ps ≡ Some k = one k q at last in
        let high : nat_lt k p.seq ≡ false = ap (λ (o : Option ℕ). is_above o p.seq) (sym before) ∙ clash.0 in
        let top : nat_lt p.seq (greatest ps) ≡ false =
        ap (λ (b : Bool). b && nat_lt p.seq (greatest ps)) (sym is) ∙ clash.1 in
        let low : k ≤ greatest ps = kept_within ps k (ap (λ (o : Option packets.Piece). is_some o) at) in
        let same : p.seq ≡ k = grind (arith, nat_tests) in
        let there_ : is_some (packet_at ps p.seq) ≡ true =
        ap (λ (n : ℕ). is_some (packet_at ps n)) same ∙ ap (λ (o : Option packets.Piece). is_some o) at in
        absurd (let wrong : ◌≡◌ {A = Bool} true false = sym there_ ∙ away in cc (wrong))

found_kept : (client : Bool) (k : CallLooks) → (found client k).received.kept ≡ k.received.kept
found_kept true k = refl
found_kept false k = refl

found_received : (client : Bool) (k : CallLooks) → (found client k).received ≡ k.received
found_received true k = refl
found_received false k = refl

chunk_last : (v : NodeView) (m : Message) (body : Body) (k : CallLooks) → call_row v m body k ≡ tooks.Kept
    → OneLast k.received.kept → OneLast (after_chunk v tooks.Kept m body k).received.kept
chunk_last v m (bodies.Chunk payload) k row one =
    let p : Packet = packet_of m payload in
    let f = fresh-arrival (arrival v.client v.window (v.left + freed v.client k) p (found v.client k)) row in
    let new : (nat_le p.seq (used_of k.received) || is_some (packet_at k.received.kept p.seq)) ≡ false =
    ap (λ (r : Received). nat_le p.seq (used_of r) || is_some (packet_at r.kept p.seq))
    (sym (found_received v.client k))
    ∙ f.new in
    let fine : (is_above (last_seq k.received.kept) p.seq || (p.piece.last && nat_lt p.seq (greatest k.received.kept)))
    ≡ false =
    ap (λ (ps : List Packet). is_above (last_seq ps) p.seq || (p.piece.last && nat_lt p.seq (greatest ps)))
    (sym (found_kept v.client k)) ∙ f.below in
    subst (λ (ps : List Packet). OneLast (p ∷ ps)) (sym (found_kept v.client k))
    (last_more p k.received.kept
    (neither (nat_le p.seq (used_of k.received)) (is_some (packet_at k.received.kept p.seq)) new).1 fine one)
chunk_last v m _ k row one = one

-- data that isn't kept
abbrev SameKept : Took → NodeView → Message → Body → CallLooks → Type 0
SameKept got v m body k = (after_chunk v got m body k).received.kept ≡ k.received.kept

chunk_kept : (v : NodeView) (m : Message) (body : Body) (k : CallLooks)
    → SameKept tooks.Repeat v m body k × SameKept tooks.Beyond v m body k × SameKept tooks.Clash v m body k
    × SameKept tooks.NoSlot v m body k
chunk_kept v m (bodies.Chunk payload) k =
    (found_kept v.client k, found_kept v.client k, found_kept v.client k, found_kept v.client k)
chunk_kept v m _ k = (refl, refl, refl, refl)

body_kept : (now : ℕ) (m : Message) (body : Body) (k : CallLooks)
    → (after_body now m body k).received.kept ≡ k.received.kept
body_kept now m (bodies.Ack a) k = refl
body_kept now m bodies.AckAll k = refl
body_kept now m _ k = refl

taken_last : (v : NodeView) (got : Took) (m : Message) (k : CallLooks) → call_row v m m.body k ≡ got
    → OneLast k.received.kept → OneLast (after_taken v got m k).received.kept
taken_last v tooks.Kept m k row one = chunk_last v m m.body k row one
taken_last v tooks.Repeat m k row one = subst OneLast (sym (chunk_kept v m m.body k).0) one
taken_last v tooks.Beyond m k row one = subst OneLast (sym (chunk_kept v m m.body k).1) one
taken_last v tooks.Clash m k row one = subst OneLast (sym (chunk_kept v m m.body k).2) one
taken_last v tooks.NoSlot m k row one = subst OneLast (sym (chunk_kept v m m.body k).3) one
taken_last v tooks.Heard m k row one = subst OneLast (sym (body_kept v.now m m.body k)) one
taken_last v _ m k row one = one

sending_kept : (now : ℕ) (x : Sending) (k : CallLooks) → (after_sending now x k).received.kept ≡ k.received.kept
sending_kept now (Piece seq again) k = refl
sending_kept now (Ack reason serial) k = refl

step_last : (s : Setup) (l : Looks) (e : Event) (c : CallName) (a b : CallLooks) → EndStep s l e c a b
    → OneLast a.received.kept → OneLast b.received.kept
step_last s l e c a b (stays is) one = subst (λ (k : CallLooks). OneLast k.received.kept) (sym is) one
step_last s l e c a b (takes t) one =
    subst (λ (k : CallLooks). OneLast k.received.kept) (sym t.is) (taken_last t.view t.got t.message a t.row one)
step_last s l e c a b (gives g) one =
    subst (λ (k : CallLooks). OneLast k.received.kept) (sym g.is)
    (subst OneLast (sym (sending_kept l.now g.sending a)) one)
step_last s l e c a b (writes offered got bytes event is) one =
    subst (λ (k : CallLooks). OneLast k.received.kept) (sym is) one
step_last s l e c a b (reads most got bytes event is) one =
    subst (λ (k : CallLooks). OneLast k.received.kept) (sym is) one
step_last s l e c a b (shuts event is) one = subst (λ (k : CallLooks). OneLast k.received.kept) (sym is) one
step_last s l e c a b (finishes code event zero_ is) one =
    subst (λ (k : CallLooks). OneLast k.received.kept) (sym is) one

-- of a call that is looked for
abbrev LastOf : Option CallRecord → Type 0
LastOf None = Unit {0}
LastOf (Some r) = OneLast r.looks.received.kept

none_last : OneLast []
none_last k q there last = absurd cc

starts_last : (s : Setup) (l : Looks) (e : Event) (c : CallName) (b : CallRecord) → Starts s l e c b
    → OneLast b.looks.received.kept
starts_last s l e c b (named, inl opens) =
    subst (λ (k : CallLooks). OneLast k.received.kept) (sym opens.takes.is)
    (taken_last opens.takes.view opens.takes.got opens.takes.message _ opens.takes.row none_last)
starts_last s l e c b (named, inr made) =
    subst (λ (k : CallLooks). OneLast k.received.kept) (sym made.looks) none_last

last_of : (s : Setup) (h : List Event) (c : CallName) → FitsSetup s → Legal s h → LastOf (call_at (looks s h) c)
last_of s [] c fits legal = tt
last_of s (e ∷ h) c fits legal =
    of (call_at (looks s h) c) (call_at (looks s (e ∷ h)) c) (each_step s h e c fits legal) (last_of s h c fits legal.1)
  where
    of : (a b : Option CallRecord) → CallStep s (looks s h) e c a b → LastOf a → LastOf b
    of None None step one = tt
    of None (Some b) starts one = starts_last s (looks s h) e c b starts
    of (Some a) None step one = absurd step
    of (Some a) (Some b) (inl goes) one = step_last s (looks s h) e c a.looks b.looks goes.end one
    of (Some a) (Some b) (inr starts) one = starts_last s (looks s h) e c b starts

-- at every moment of a node
pub one_last : (s : Setup) (h : List Event) (c : CallName) (r : CallRecord) → FitsSetup s → Legal s h
    → call_at (looks s h) c ≡ Some r → OneLast r.looks.received.kept
one_last s h c r fits legal there = subst LastOf there (last_of s h c fits legal)

-- ---- drained

-- where all that stands without a gap was read, and the last packet doesn't stand there
pub unread_drained : (r : Received) → OneLast r.kept → unread_of r ≡ [] → is_complete r ≡ false
    → used_of r ≡ front_of r.kept
unread_drained r one none incomplete =
    let least = reach_least (is_done r) (front_of r.kept) (front_of r.kept) (omega arith) each in
    omega (arith, least, used_within r)
  where
    all_read : end_of r.kept (front_of r.kept) ≤ length r.read
    all_read =
        let all = none_left (length r.read) (bytes_to r.kept (front_of r.kept)) none in
        omega (arith, all, end_is r.kept (front_of r.kept))

    rises : (j : ℕ) → j ≤ front_of r.kept → end_of r.kept j ≤ length r.read
    rises j low =
        let split = bytes_split r.kept j (front_of r.kept) low in
        let long : length (bytes_to r.kept (front_of r.kept)) ≡ length (bytes_to r.kept j) + length split.0 =
        ap (λ (xs : List ℕ). length xs) split.1 ∙ length-append (bytes_to r.kept j) split.0 in
        omega (arith, long, all_read, end_is r.kept j, end_is r.kept (front_of r.kept))

    not_last : (j : ℕ) (q : packets.Piece) → suc j ≤ front_of r.kept → packet_at r.kept (suc j) ≡ Some q
        → q.last ≡ false
    not_last j q low there = by q.last refl
      where
        by : (b : Bool) → q.last ≡ b → b ≡ false
        by false is = refl
        by true is =
            let found_ : is_within (last_seq r.kept) (front_of r.kept) ≡ nat_le (suc j) (front_of r.kept) =
            ap (λ (o : Option ℕ). is_within o (front_of r.kept)) (one (suc j) q there is) in
            let within : nat_le (suc j) (front_of r.kept) ≡ true = grind (arith, nat_tests) in
            absurd (let wrong : ◌≡◌ {A = Bool} true false = sym within ∙ sym found_ ∙ incomplete in cc (wrong))

    each : (j : ℕ) → suc j ≤ front_of r.kept → is_done r (suc j) ≡ true
    each j low =
        of (packet_at r.kept (suc j)) refl (front_all r.kept j low)
      where
        of : (o : Option packets.Piece) → packet_at r.kept (suc j) ≡ o → is_some o ≡ true
            → is_done_by r.ended (end_of r.kept (suc j)) (length r.read) o ≡ true
        of None is there = absurd cc
        of (Some q) is there =
            let plain : q.last ≡ false = not_last j q low is in
            let read_ : nat_le (end_of r.kept (suc j)) (length r.read) ≡ true =
            (let low_ = rises (suc j) low in grind (arith, nat_tests)) in
            ap (λ (b : Bool). cond b r.ended (nat_le (end_of r.kept (suc j)) (length r.read))) plain ∙ read_

-- where an active call was read to its end
pub ended_drained : (s : Setup) (h : List Event) (c : CallName) (r : CallRecord) → Legal s h
    → call_at (looks s h) c ≡ Some r → is_active r.life ≡ true → r.looks.received.ended ≡ true
    → used_of r.looks.received ≡ front_of r.looks.received.kept
ended_drained s h c r legal there active ended =
    let tight : TightOf (is_client s.kind) r =
    every_found (TightOf (is_client s.kind)) (λ (x : CallRecord). same_name x.name c) (looks s h).calls r
    (roomy_history s h legal).tight there in
    omega (arith, (tight.whole active ended).used, used_within r.looks.received)
