-- A drained end that takes what the other gave in a round, where its front doesn't rise: each piece was there already,
-- so it is acknowledged at once, and its sender knew less; an acknowledgement tells all that the other end was done
-- with.
use Rattle.std.proofs.Common.{◌≡◌, ◌<◌, ◌≤◌, ◌+◌, ◌-◌, ◌==◌, if◌then◌else◌, is_some, nat_lt, ℕ, Bool, true, false, List}
use Rattle.std.proofs.Common.{◌∷◌, length, Option, Some, refl, ap, sym, subst, ◌∙◌, ⊎_elim, arith}
use Rattle.std.proofs.lemmas.Bool.{ltb-true, or_cases, or_parts}
use Rattle.rx_model.specs.declared.answers.Took.{Took}
use Rattle.rx_model.specs.declared.answers.Took.TheVariants as tooks
use Rattle.rx_model.specs.declared.wire.TheConstants.{ACK_PING, ACK_PING_RESPONSE}
use Rattle.rx_model.specs.Body.{AckBody, Body}
use Rattle.rx_model.specs.Body as bodies
use Rattle.rx_model.specs.Message.{Message}
use Rattle.rx_rules.specs.CallItems.{Sending, Piece, Ack, ack_body}
use Rattle.rx_rules.specs.CallLooks.{CallLooks, NodeView, after_ack, after_body, after_data, after_taken, call_row}
use Rattle.rx_rules.specs.CallLooks.{found, has_lead}
use Rattle.rx_rules.specs.Owing.{Owed, at_once}
use Rattle.rx_rules.specs.Received.{Packet, Received, front_of, packet_at, used_of}
use Rattle.rx_rules.specs.Sent.{Sent, given_of, is_marked, is_strange_ack, lowest_of, pieces_by, pieces_of, with_window}
use Rattle.rx_rules.specs.Sent as streams
use Rattle.rx_rules.specs.Setup.{Setup, is_client, receiving_window}
use Rattle.rx_between.specs.Acknowledged.{AreTrue}
use Rattle.rx_between.specs.Agreed.{MakesSense}
use Rattle.rx_between.proofs.SaysLate.{IsSilent}
use Rattle.rx_progress.proofs.Lowest.{client_leadless, moves, silent_leadless}
use Rattle.rx_closing.proofs.Ends.FrozenPolls.{Tells, has_ack, has_piece, has_ping, tells_ack, tells_none, tells_piece}
use Rattle.rx_closing.proofs.Ends.LowestAgain.{away_moves, front_grows, repeat_row, repeated, takes_grow}
use Rattle.rx_closing.proofs.Steps.{TakesIn, takes_none, takes_one}

-- an acknowledgement is owed at once
pub record OwesNow (k : CallLooks) : Type 0 where
  pub owed : Owed
  pub is : k.owed_ack ≡ Some owed
  pub now : owed.rank ≡ 0

pub owes-as : (a b : CallLooks) → b.owed_ack ≡ a.owed_ack → OwesNow a → OwesNow b
owes-as a b same owes = record { owed = owes.owed; is = same ∙ owes.is; now = owes.now }

-- ---- what a message leaves

-- of what an end has, where no packet is kept and all that is told of is done with by the other
pub record Stays (u : ℕ) (k i : CallLooks) : Type 0 where
  pub kept : i.received.kept ≡ k.received.kept
  pub used : used_of i.received ≡ used_of k.received
  pub said : i.sent.said ≡ k.sent.said
  pub shut : i.sent.shut ≡ k.sent.shut
  pub givings : i.sent.givings ≡ k.sent.givings
  pub spoke : i.spoke ≡ k.spoke
  pub acked : u ≤ k.sent.acked → u ≤ i.sent.acked

stays-as : (u : ℕ) (k i j : CallLooks) → j ≡ i → Stays u k i → Stays u k j
stays-as u k i j same stays = subst (λ (l : CallLooks). Stays u k l) (sym same) stays

stays-repeat : (u : ℕ) (client : Bool) (now : ℕ) (m : Message) (payload : List ℕ) (k : CallLooks)
    → u ≤ pieces_of k.sent → Stays u k (after_data tooks.Repeat now m payload (found client k))
stays-repeat u true now m payload k room =
    record {
      kept = refl;
      used = refl;
      said = refl;
      shut = refl;
      givings = refl;
      spoke = refl;
      acked = λ low. room;
    }
stays-repeat u false now m payload k room =
    record {
      kept = refl;
      used = refl;
      said = refl;
      shut = refl;
      givings = refl;
      spoke = refl;
      acked = λ low. low;
    }

-- ---- an acknowledgement

heard-by : (strange : Bool) → MakesSense (if strange then tooks.Strange else tooks.Heard)
    → (if strange then tooks.Strange else tooks.Heard) ≡ tooks.Heard
heard-by true sense = absurd sense
heard-by false sense = refl

-- it is heard
pub heard_ack : (v : NodeView) (got : Took) (m : Message) (a : AckBody) (k : CallLooks) → m.body ≡ bodies.Ack a
    → call_row v m m.body k ≡ got → MakesSense got
    → after_taken v got m k ≡ record (after_ack v.now m a k) { heard = v.now }
heard_ack v got m a k body row sense =
    (let is : got ≡ tooks.Heard =
    sym row ∙ (ap (λ (b : Body). call_row v m b k) body
    ∙ heard-by (is_strange_ack a.first a.marks k.sent)
    (subst MakesSense (sym row ∙ ap (λ (b : Body). call_row v m b k) body) sense)) in
    ap (λ (t : Took). after_taken v t m k) is
    ∙ ap (λ (b : Body). record (after_body v.now m b k) { heard = v.now }) body)

-- it tells no less than it says
told-acked : (u : ℕ) (marks : List Bool) (w : Option ℕ) (s : Sent) → u ≤ (streams.after_ack (u + 1) marks w s).acked
told-acked u marks w s = of (nat_lt (u + 1 - 1) s.acked) refl
  where
    of : (b : Bool) → nat_lt (u + 1 - 1) s.acked ≡ b
        → u ≤ (if b then s else record s {
          acked = u + 1 - 1;
          soft = is_marked (u + 1) marks;
          peer_window = with_window w s.peer_window;
        }).acked
    of true is = (let low = ltb-true (u + 1 - 1) s.acked is in omega arith)
    of false is = omega arith

record Same (a b : Sent) : Type 0 where
  said : b.said ≡ a.said
  shut : b.shut ≡ a.shut
  givings : b.givings ≡ a.givings

told-same : (first : ℕ) (marks : List Bool) (w : Option ℕ) (s : Sent) → Same s (streams.after_ack first marks w s)
told-same first marks w s = of (nat_lt (first - 1) s.acked)
  where
    of : (b : Bool) → Same s (if b then s else record s {
      acked = first - 1;
      soft = is_marked first marks;
      peer_window = with_window w s.peer_window;
    })
    of true = record { said = refl; shut = refl; givings = refl }
    of false = record { said = refl; shut = refl; givings = refl }

stays-heard : (now : ℕ) (m : Message) (window reason serial : ℕ) (r : Received) (k : CallLooks)
    → Stays (used_of r) k (record (after_ack now m (ack_body window reason serial r) k) { heard = now })
stays-heard now m window reason serial r k =
    let same = told-same (used_of r + 1) (ack_body window reason serial r).marks (Some window) k.sent in
    record {
      kept = refl;
      used = refl;
      said = same.said;
      shut = same.shut;
      givings = same.givings;
      spoke = refl;
      acked = λ low. told-acked (used_of r) (ack_body window reason serial r).marks (Some window) k.sent;
    }

-- ---- an end that takes

-- why the next piece always has a slot there: it is a client's, or it said nothing before
pub data Frees (client : Bool) (sent : Sent) (k : CallLooks) : Type 0 where
  client_frees : client ≡ true → Frees client sent k
  server_frees : client ≡ false
      → (lowest_of sent ≤ given_of sent → is_some (packet_at k.received.kept (lowest_of sent))
      ≡ false → IsSilent k.sent)
      → Frees client sent k

-- what is known of it as it takes what this other end gave
pub record Ready (client : Bool) (c k : CallLooks) : Type 0 where
  pub truth : AreTrue c.sent k.received
  pub drained : used_of k.received ≡ front_of k.received.kept
  pub room : used_of c.received ≤ pieces_of k.sent
  pub frees : Frees client c.sent k

leadless : (client : Bool) (sent : Sent) (k : CallLooks) → Frees client sent k → lowest_of sent ≤ given_of sent
    → used_of k.received ≡ front_of k.received.kept → is_some (packet_at k.received.kept (lowest_of sent)) ≡ false
    → has_lead (found client k) ≡ false
leadless client sent k (client_frees is) given drained away =
    subst (λ (b : Bool). has_lead (found b k) ≡ false) (sym is) (client_leadless k drained)
leadless client sent k (server_frees is silent) given drained away =
    subst (λ (b : Bool). has_lead (found b k) ≡ false) (sym is) (silent_leadless k (silent given away) drained)

-- it stays so where what it kept and said stays
pub ready_on : (client : Bool) (c k i : CallLooks) → i.received.kept ≡ k.received.kept
    → used_of i.received ≡ used_of k.received → i.sent.said ≡ k.sent.said → i.sent.shut ≡ k.sent.shut
    → Ready client c k → Ready client c i
ready_on client c k i kept used said shut ready =
    record {
      truth = record {
        hard = (let hard = ready.truth.hard in omega (arith, hard, used));
        soft = λ j low marks. subst (λ (ps : List Packet). is_some (packet_at ps j) ≡ true) (sym kept)
            (ready.truth.soft j low marks);
      };
      drained = used ∙ (ready.drained ∙ ap (λ (ps : List Packet). front_of ps) (sym kept));
      room = (let room = ready.room in
          let same : pieces_of i.sent ≡ pieces_of k.sent = λ n. pieces_by (length (said n)) (shut n) in
          omega (arith, room, same));
      frees = frees ready.frees;
    }
  where
    frees : Frees client c.sent k → Frees client c.sent i
    frees (client_frees is) = client_frees is
    frees (server_frees is silent) =
        server_frees is (λ given away.
        (let before = silent given (subst (λ (ps : List Packet). is_some (packet_at ps (lowest_of c.sent)) ≡ false) kept
        away) in (said ∙ before.0, shut ∙ before.1)))

ready-on : (client : Bool) (c k i : CallLooks) → Stays (used_of c.received) k i → Ready client c k → Ready client c i
ready-on client c k i stays ready = ready_on client c k i stays.kept stays.used stays.said stays.shut ready

-- ---- one message

-- a piece
record TookPiece (c k i : CallLooks) : Type 0 where
  stays : Stays (used_of c.received) k i
  less : c.sent.acked < used_of k.received
  owes : OwesNow i

front_as_before : (k i : CallLooks) → i.received.kept ≡ k.received.kept
    → front_of i.received.kept ≡ front_of k.received.kept
front_as_before k i same = ap (λ (ps : List Packet). front_of ps) same

module _ (client : Bool) (c : CallLooks) (v : NodeView) (got : Took) (m : Message) (payload : List ℕ) (k : CallLooks)
  where
    took_piece : v.client ≡ client → Ready client c k → m.body ≡ bodies.Chunk payload → m.seq ≡ lowest_of c.sent
        → lowest_of c.sent ≤ given_of c.sent → call_row v m m.body k ≡ got → MakesSense got
        → front_of (after_taken v got m k).received.kept ≤ front_of k.received.kept
        → TookPiece c k (after_taken v got m k)
    took_piece is_client_ ready chunk seq given row sense still =
        of (is_some (packet_at k.received.kept (lowest_of c.sent))) refl
      where
        of : (b : Bool) → is_some (packet_at k.received.kept (lowest_of c.sent)) ≡ b
            → TookPiece c k (after_taken v got m k)
        of false away =
            absurd (let up = away_moves c.sent v got m payload k ready.truth chunk seq given ready.drained
            (subst (λ (b : Bool). has_lead (found b k) ≡ false) (sym is_client_)
            (leadless client c.sent k ready.frees given ready.drained away)) away row sense in omega arith)
        of true there =
            let repeat : got ≡ tooks.Repeat =
            sym row ∙ (ap (λ (b : Body). call_row v m b k) chunk
            ∙ repeat_row v m payload k (subst (λ (n : ℕ). is_some (packet_at k.received.kept n) ≡ true) (sym seq) there)
            (subst MakesSense (sym row ∙ ap (λ (b : Body). call_row v m b k) chunk) sense)) in
            let is = repeated v got m payload k chunk repeat in
            let stays = stays-as (used_of c.received) k (after_data tooks.Repeat v.now m payload (found v.client k))
            (after_taken v got m k) is (stays-repeat (used_of c.received) v.client v.now m payload k ready.room) in
            record {
              stays = stays;
              less = ⊎_elim
                  (λ (up : front_of k.received.kept < front_of
                  (after_taken v (call_row v m m.body k) m k).received.kept).
                  absurd (let up_ : front_of k.received.kept < front_of (after_taken v got m k).received.kept =
                  subst (λ (t : Took). front_of k.received.kept < front_of (after_taken v t m k).received.kept) row
                  up in
                  omega arith))
                  (λ (less : c.sent.acked < used_of k.received). less)
                  (moves c.sent v m payload k ready.truth chunk seq given ready.drained
                  (λ away. absurd (cc (away, there))) (subst MakesSense (sym row) sense));
              owes =
                  subst OwesNow (sym is) (record {
                    owed = record { reason = _; serial = m.serial; rank = 0 };
                    is = refl;
                    now = refl;
                  });
            }

-- an acknowledgement
record TookAck (c : CallLooks) (reason : ℕ) (k i : CallLooks) : Type 0 where
  stays : Stays (used_of c.received) k i
  told : used_of c.received ≤ i.sent.acked
  pinged : (reason == ACK_PING) ≡ true → OwesNow i
  calm : (reason == ACK_PING) ≡ false → i.owed_ack ≡ k.owed_ack
  owes : OwesNow k → OwesNow i

took_ack : (c : CallLooks) (v : NodeView) (got : Took) (m : Message) (window reason serial : ℕ) (k : CallLooks)
    → m.body ≡ bodies.Ack (ack_body window reason serial c.received) → call_row v m m.body k ≡ got → MakesSense got
    → TookAck c reason k (after_taken v got m k)
took_ack c v got m window reason serial k body row sense =
    subst (λ (l : CallLooks). TookAck c reason k l) (sym (heard_ack v got m a k body row sense)) (record {
      stays = stays-heard v.now m window reason serial c.received k;
      told = told-acked (used_of c.received) a.marks (Some window) k.sent;
      pinged = λ is. at-ping (reason == ACK_PING) is;
      calm = λ is. as-before (reason == ACK_PING) is;
      owes = λ owes. on (reason == ACK_PING) owes;
    })
  where
    a : AckBody
    a = ack_body window reason serial c.received

    behind : Bool → CallLooks
    behind ping = record (record (after_ack v.now m a k) { heard = v.now }) {
      owed_ack = (if ping then at_once ACK_PING_RESPONSE m.serial else k.owed_ack);
    }

    at-ping : (b : Bool) → b ≡ true → OwesNow (behind b)
    at-ping true is = record { owed = record { reason = _; serial = m.serial; rank = 0 }; is = refl; now = refl }
    at-ping false is = absurd cc

    as-before : (b : Bool) → b ≡ false → (behind b).owed_ack ≡ k.owed_ack
    as-before true is = absurd cc
    as-before false is = refl

    on : (b : Bool) → OwesNow k → OwesNow (behind b)
    on true owes = record { owed = record { reason = _; serial = m.serial; rank = 0 }; is = refl; now = refl }
    on false owes = record { owed = owes.owed; is = owes.is; now = owes.now }

-- ---- all messages of a round

-- what they make of an end whose front doesn't rise
pub record TookAll (c : CallLooks) (xs : List Sending) (k f : CallLooks) : Type 0 where
  pub stays : Stays (used_of c.received) k f
  pub less : has_piece xs ≡ true → c.sent.acked < used_of k.received
  pub told : has_ack xs ≡ true → used_of c.received ≤ f.sent.acked
  pub piece : has_piece xs ≡ true → OwesNow f
  pub ping : has_ping xs ≡ true → OwesNow f
  pub owes : OwesNow k → OwesNow f
  pub calm : has_piece xs ≡ false → has_ping xs ≡ false → f.owed_ack ≡ k.owed_ack

stays-on : (u : ℕ) (a b c : CallLooks) → Stays u a b → Stays u b c → Stays u a c
stays-on u a b c p q =
    record {
      kept = q.kept ∙ p.kept;
      used = q.used ∙ p.used;
      said = q.said ∙ p.said;
      shut = q.shut ∙ p.shut;
      givings = q.givings ∙ p.givings;
      spoke = q.spoke ∙ p.spoke;
      acked = λ low. q.acked (p.acked low);
    }

pub takes_tell : (s t : Setup) (now : ℕ) (c k : CallLooks) (xs : List Sending) (ms : List Message) (f : CallLooks)
    → TakesIn t now k ms f → Tells s c xs ms → Ready (is_client t.kind) c k
    → front_of f.received.kept ≤ front_of k.received.kept → TookAll c xs k f
takes_tell s t now c k xs ms f (takes_none i) tells_none ready still =
    record {
      stays = record {
        kept = refl;
        used = refl;
        said = refl;
        shut = refl;
        givings = refl;
        spoke = refl;
        acked = λ low. low;
      };
      less = λ some. absurd cc;
      told = λ some. absurd cc;
      piece = λ some. absurd cc;
      ping = λ some. absurd cc;
      owes = λ owes. owes;
      calm = λ none quiet. refl;
    }
takes_tell s t now c k xs ms f (takes_one i g m ns v got view row sense rest)
    (tells_piece seq again n payload ys os chunk at given tells) ready still =
    by (λ next low. takes_tell s t now c (after_taken v got m i) ys ns g rest tells next low)
  where
    by : (Ready (is_client t.kind) c (after_taken v got m i)
        → front_of g.received.kept ≤ front_of (after_taken v got m i).received.kept
        → TookAll c ys (after_taken v got m i) g) → TookAll c (Piece seq again ∷ ys) i g
    by more =
        let behind : CallLooks = after_taken v got m i in
        let on = front_grows behind.received g.received (takes_grow t now behind ns g rest) in
        let one = took_piece (is_client t.kind) c v got m payload i view.client ready chunk at given row sense
        (omega (arith, on, still)) in
        let before = front_as_before i behind one.stays.kept in
        let all = more (ready-on (is_client t.kind) c i behind one.stays ready) (omega (arith, before, still)) in
        record {
          stays = stays-on (used_of c.received) i behind g one.stays all.stays;
          less = λ some. one.less;
          told = all.told;
          piece = λ some. all.owes one.owes;
          ping = λ some. all.owes one.owes;
          owes = λ owes. all.owes one.owes;
          calm = λ none quiet. absurd cc;
        }
takes_tell s t now c k xs ms f (takes_one i g m ns v got view row sense rest)
    (tells_ack reason serial n ys os body tells) ready still =
    by (λ next low. takes_tell s t now c (after_taken v got m i) ys ns g rest tells next low)
  where
    by : (Ready (is_client t.kind) c (after_taken v got m i)
        → front_of g.received.kept ≤ front_of (after_taken v got m i).received.kept
        → TookAll c ys (after_taken v got m i) g) → TookAll c (Ack reason serial ∷ ys) i g
    by more =
        let behind : CallLooks = after_taken v got m i in
        let one = took_ack c v got m (receiving_window s) reason serial i body row sense in
        let before = front_as_before i behind one.stays.kept in
        let all = more (ready-on (is_client t.kind) c i behind one.stays ready) (omega (arith, before, still)) in
        record {
          stays = stays-on (used_of c.received) i behind g one.stays all.stays;
          less = λ some. (let less = all.less some in let used = one.stays.used in omega (arith, less, used));
          told = λ some. all.stays.acked one.told;
          piece = all.piece;
          ping = λ some. ⊎_elim (λ (here : (reason == ACK_PING) ≡ true). all.owes (one.pinged here))
              (λ (behind_ : has_ping ys ≡ true). all.ping behind_) (or_cases (reason == ACK_PING) (has_ping ys) some);
          owes = λ owes. all.owes (one.owes owes);
          calm = λ none quiet. (let parts = or_parts (reason == ACK_PING) (has_ping ys) quiet in
              all.calm none parts.1 ∙ one.calm parts.0);
        }
