-- What an honest end gave makes sense to the other, whenever it comes: data is kept, was there already or has no slot,
-- and an ACK is heard. Of any two ends of which one says what the other has.
use Rattle.std.proofs.Common.{◌≡◌, ◌≤◌, ◌+◌, ◌-◌, ◌*◌, ◌/◌, ◌&&◌, ◌||◌, if◌then◌else◌, max, not, nat_lt, ℕ, zero}
use Rattle.std.proofs.Common.{suc, Bool, true, false, List, [], ◌∷◌, length, Some, is_some, refl, ◌∙◌, ap, sym}
use Rattle.std.proofs.Common.{subst, arith}
use Rattle.std.proofs.lemmas.Bool.Decides.{nat_tests}
use Rattle.rx_model.specs.declared.answers.Took.TheVariants as tooks
use Rattle.rx_model.specs.Body.{AckBody, Body}
use Rattle.rx_model.specs.Body as bodies
use Rattle.rx_model.specs.Message.{Message}
use Rattle.rx_rules.specs.CallLooks.{CallLooks, NodeView, arrival, call_row, found, freed, packet_of}
use Rattle.rx_rules.specs.Received.{Packet, Piece, Received, arrival_row, greatest, is_above, is_no_seq, last_seq}
use Rattle.rx_rules.specs.Received.{packet_at, used_of}
use Rattle.rx_rules.specs.Sent.{Sent, given_of, is_all_given, is_strange_ack, pieces_by, pieces_of}
use Rattle.rx_rules.specs.Setup.{Setup}
use Rattle.rx_rules.proofs.PacketLaws.{kept_within}
use Rattle.rx_law.specs.Pieces.{IsAt}
use Rattle.rx_law.proofs.Fronts.{ArePieces}
use Rattle.rx_between.specs.Agreed.{AreGiven, MakesSense}
use Rattle.rx_between.specs.Told.{IsEarlierAck}
use Rattle.rx_between.proofs.Marks.{told_heard}

-- ---- the last piece

-- a last piece is the last of all pieces
last_top : (sent : Sent) (seq : ℕ) (p : Piece) → IsAt sent.said sent.shut seq p → p.last ≡ true → pieces_of sent ≤ seq
last_top sent zero p at last = absurd at
last_top sent (suc j) p at last =
    let done = at.done last in
    let shut : sent.shut ≡ true = done.0 in
    let short : length sent.said ≤ 1412 * j + 1412 = done.1 in
    let count : pieces_of sent ≡ max 1 ((length sent.said + (1412 - 1)) / 1412) =
    ap (λ (b : Bool). pieces_by (length sent.said) b) shut in
    omega arith

-- no packet lies above the last one that is kept
not_above : (sent : Sent) (ps : List Packet) (seq : ℕ) → ArePieces sent.said sent.shut ps → seq ≤ pieces_of sent
    → is_above (last_seq ps) seq ≡ false
not_above sent [] seq pieces low = refl
not_above sent (p ∷ ps) seq pieces low = of p.piece.last refl (not_above sent ps seq pieces.1 low)
  where
    of : (b : Bool) → p.piece.last ≡ b → is_above (last_seq ps) seq ≡ false
        → is_above (if b then Some p.seq else last_seq ps) seq ≡ false
    of true last rest = (let top = last_top sent p.seq p.piece pieces.0 last in grind (arith, nat_tests))
    of false other rest = rest

-- and the last one lies below none
not_below : (sent : Sent) (p : Packet) (most : ℕ) → IsAt sent.said sent.shut p.seq p.piece → most ≤ pieces_of sent
    → (p.piece.last && nat_lt p.seq most) ≡ false
not_below sent p most at low = of p.piece.last refl
  where
    of : (b : Bool) → p.piece.last ≡ b → (b && nat_lt p.seq most) ≡ false
    of true last = (let top = last_top sent p.seq p.piece at last in grind (arith, nat_tests))
    of false other = refl

numbered : (sent : Sent) (seq : ℕ) (p : Piece) → IsAt sent.said sent.shut seq p → seq ≤ 4294967294
    → is_no_seq seq ≡ false
numbered sent zero p at low = absurd at
numbered sent (suc j) p at low = grind (arith, nat_tests)

-- ---- data

-- data that makes sense
sense_by : (strange again beyond clash slot : Bool) → strange ≡ false → beyond ≡ false → clash ≡ false
    → MakesSense (if strange then tooks.Strange else if again then tooks.Repeat else if beyond then tooks.Beyond
    else if clash then tooks.Clash else if slot then tooks.Kept else tooks.NoSlot)
sense_by true again beyond clash slot a b d = absurd cc
sense_by false true beyond clash slot a b d = tt
sense_by false false true clash slot a b d = absurd cc
sense_by false false false true slot a b d = absurd cc
sense_by false false false false true a b d = tt
sense_by false false false false false a b d = tt

pub either_false : (a b : Bool) → a ≡ false → b ≡ false → (a || b) ≡ false
either_false true b p q = p
either_false false b p q = q

-- what is known of a packet that an honest sender gave, and of the end that it comes to
pub record IsGivenTo (sent : Sent) (window : ℕ) (p : Packet) (r : Received) : Type 0 where
  pub piece : IsAt sent.said sent.shut p.seq p.piece
  pub given : p.seq ≤ given_of sent
  pub counts : given_of sent ≤ pieces_of sent
  pub fits : given_of sent ≤ 4294967294
  pub pieces : ArePieces sent.said sent.shut r.kept
  pub kept : AreGiven sent r
  pub within : given_of sent ≤ used_of r + window

arrives : (sent : Sent) (client : Bool) (window left : ℕ) (p : Packet) (k : CallLooks)
    → IsGivenTo sent window p k.received → (client ≡ true → is_all_given k.sent ≡ true)
    → MakesSense (arrival_row (arrival client window left p (found client k)))
arrives sent true window left p k g all =
    (let no = numbered sent p.seq p.piece g.piece (let a = g.given in let b = g.fits in omega arith) in
    let given : not (is_all_given k.sent) ≡ false = ap not (all refl) in
    let within : nat_lt (used_of k.received + window) p.seq ≡ false =
    (let a = g.given in let b = g.within in grind (arith, nat_tests)) in
    let above = not_above sent k.received.kept p.seq g.pieces (let a = g.given in let b = g.counts in omega arith) in
    let below = not_below sent p (greatest k.received.kept) g.piece
    (let a = g.kept in let b = g.counts in omega arith) in
    sense_by _ _ _ _ _ (either_false (is_no_seq p.seq) _ no given) within
    (either_false (is_above (last_seq k.received.kept) p.seq) _ above below))
arrives sent false window left p k g all =
    (let no = numbered sent p.seq p.piece g.piece (let a = g.given in let b = g.fits in omega arith) in
    let within : nat_lt (used_of k.received + window) p.seq ≡ false =
    (let a = g.given in let b = g.within in grind (arith, nat_tests)) in
    let above = not_above sent k.received.kept p.seq g.pieces (let a = g.given in let b = g.counts in omega arith) in
    let below = not_below sent p (greatest k.received.kept) g.piece
    (let a = g.kept in let b = g.counts in omega arith) in
    sense_by _ _ _ _ _ (either_false (is_no_seq p.seq) false no refl) within
    (either_false (is_above (last_seq k.received.kept) p.seq) _ above below))

pub data_makes_sense : (sent : Sent) (v : NodeView) (m : Message) (payload : List ℕ) (k : CallLooks)
    → IsGivenTo sent v.window (packet_of m payload) k.received → (v.client ≡ true → is_all_given k.sent ≡ true)
    → MakesSense (call_row v m (bodies.Chunk payload) k)
data_makes_sense sent v m payload k g all =
    arrives sent v.client v.window (v.left + freed v.client k) (packet_of m payload) k g all

-- ---- acknowledgements

-- each packet that was kept is a piece that was given
kept_given : (sent : Sent) (r : Received) → AreGiven sent r → (j : ℕ) → is_some (packet_at r.kept j) ≡ true
    → j ≤ given_of sent
kept_given sent r given j there = (let low = kept_within r.kept j there in omega (arith, low, given))

-- an ACK that was made of the other end, however late it comes
pub ack_makes_sense : (peer : Setup) (v : NodeView) (m : Message) (a : AckBody) (k : CallLooks) (r : Received)
    → IsEarlierAck peer r a → AreGiven k.sent r → MakesSense (call_row v m (bodies.Ack a) k)
ack_makes_sense peer v m a k r told given =
    subst (λ (b : Bool). MakesSense (if b then tooks.Strange else tooks.Heard)) (sym fine) tt
  where
    only : (j : ℕ) → is_some (packet_at told.then_.kept j) ≡ true → j ≤ given_of k.sent
    only j there = kept_given k.sent r given j (told.grown.kept j there)

    fine : is_strange_ack a.first a.marks k.sent ≡ false
    fine =
        (λ i. is_strange_ack (told.is.first i) (told.is.marks i) k.sent) ∙ told_heard k.sent told.then_ only

-- an ACKALL where each piece was given
pub ackall_makes_sense : (v : NodeView) (m : Message) (k : CallLooks) → is_all_given k.sent ≡ true
    → MakesSense (call_row v m bodies.AckAll k)
ackall_makes_sense v m k all =
    subst (λ (b : Bool). MakesSense (if b then tooks.Heard else tooks.Strange)) (sym all) tt
