-- One end of a call by itself: the messages of a stream, and which of them it gives when it is polled.
use Rattle.std.proofs.Common.{◌≡◌, ◌<◌, ◌≤◌, ◌+◌, ◌%◌, ◌^◌, ◌==◌, ◌++◌, ◌⊎◌, ℕ, zero, suc, min, Bool}
use Rattle.std.proofs.Common.{true, false, List, [], ◌∷◌, refl, ap, sym, subst, ◌∙◌, inl, inr, ⊎_elim, arith, Some}
use Rattle.std.proofs.Common.{None}
use Rattle.std.proofs.Common.{if◌then◌else◌, length, is_some}
use Rattle.std.proofs.lemmas.Bool.{eq-eqb, ne_eqb, cases_eq, cases_lt, or_left}
use Rattle.std.proofs.lemmas.Bool.{both_ways, cases_Bool}
use Rattle.std.specs.Prelude.{IsSomeAnd}
use Rattle.rx_model.specs.declared.wire.TheConstants.{ACK_PING, CLIENT_INITIATED}
use Rattle.rx_model.specs.Body.{AckBody, Body}
use Rattle.rx_model.specs.Body as bodies
use Rattle.rx_model.specs.Message.{Message}
use Rattle.rx_rules.specs.CallItems.{Sending, Piece, asks, can_give, flags_of}
use Rattle.rx_rules.specs.CallLooks.{CallLooks}
use Rattle.rx_rules.specs.Received.{marks_of, reach, used_of}
use Rattle.rx_rules.specs.Received as received
use Rattle.rx_rules.specs.Sent.{Giving, after_giving, counting_of}
use Rattle.rx_rules.specs.Sent.{last_giving, orders_of, piece_at}
use Rattle.rx_rounds.proofs.Flow.{total}
use Rattle.rx_rounds.proofs.Keeper.{piece}
use Rattle.rx_rounds.proofs.One.OneWay.{Sends}
use Rattle.rx_rounds.proofs.Pair.{CallEnd, Place, gave, message_of, next_of}
use Rattle.rx_rounds.proofs.Serving.SendsLaws.{sends_sooner, piece_same, piece_is, gives_piece, next_more, may_go}

-- ---- what is given

-- the polls of an end until nothing is due, with the messages that they give
pub data PollsOut (p : Place) : CallEnd → List Message → CallEnd → Type 0 where
  none_due : (e : CallEnd) → next_of p e.looks ≡ None → PollsOut p e [] e
  gives : (e f : CallEnd) (i : Sending) (ms : List Message) → next_of p e.looks ≡ Some i → PollsOut p (gave p i e) ms f
      → PollsOut p e (message_of p e i ∷ ms) f

-- piece k of a stream as a message
abbrev pub piece_with : Message → Bool → List ℕ → ℕ → ℕ → Bool → Message
piece_with frame client whole k serial asking =
    record frame {
      seq = k;
      serial = serial;
      flags = (if client then CLIENT_INITIATED else 0) + flags_of asking (k == total whole);
      body = bodies.Chunk (piece whole k).payload;
    }

-- messages that bring the pieces behind the first n up to the m-th, in order; the last of the stream asks for an ACK
pub data Burst (frame : Message) (client : Bool) (whole : List ℕ) : ℕ → ℕ → List Message → Type 0 where
  no_piece : (n : ℕ) → Burst frame client whole n n []
  a_piece : (n m serial : ℕ) (asking : Bool) (ms : List Message) → serial < 2 ^ 32
      → (suc n ≡ total whole → asking ≡ true) → Burst frame client whole (suc n) m ms
      → Burst frame client whole n m (piece_with frame client whole (suc n) serial asking ∷ ms)

-- what an ACK of n packets tells
abbrev pub tells_of : ℕ → ℕ → ℕ → ℕ → AckBody
tells_of n previous caused reason =
    record { first = n + 1; previous = previous; serial = caused; reason = reason; marks = []; window = Some 32 }

abbrev pub ack_with : Message → Bool → ℕ → ℕ → ℕ → ℕ → ℕ → Message
ack_with frame client n serial previous caused reason =
    record frame {
      seq = 0;
      serial = serial;
      flags = (if client then CLIENT_INITIATED else 0) + flags_of (reason == ACK_PING) false;
      body = bodies.Ack (tells_of n previous caused reason);
    }

-- no message, or one ACK of n packets
pub data Acks (frame : Message) (client : Bool) (n : ℕ) : List Message → Type 0 where
  no_ack : Acks frame client n []
  an_ack : (serial previous caused reason : ℕ) → serial < 2 ^ 32 → previous < 2 ^ 32 → caused < 2 ^ 32
      → 1 ≤ reason → reason ≤ 8 → (client ≡ false → (reason == ACK_PING) ≡ false)
      → Acks frame client n (ack_with frame client n serial previous caused reason ∷ [])

-- ---- all that it gives

-- the pieces behind the m-th, up to the n-th, were last given at this moment or later
abbrev pub AreGiven : ℕ → ℕ → ℕ → CallLooks → Type 0
AreGiven now m n k = (j : ℕ) → m < j → j ≤ n → IsSomeAnd (last_giving k.sent.givings j) (λ g. now ≤ g.moment)

-- its pieces, as many as may go
pub record PiecesOut (p : Place) (whole : List ℕ) (since a n : ℕ) (e : CallEnd) : Type 0 where
  pub last : ℕ
  pub messages : List Message
  pub behind : CallEnd
  pub more : n ≤ last
  pub burst : Burst p.header p.client whole n last messages
  pub polls : (ms : List Message) (f : CallEnd) → PollsOut p behind ms f → PollsOut p e (messages ++ ms) f
  pub sends : (s : ℕ) → s ≤ p.now → (a < n → s ≤ since) → Sends whole s a last behind.looks
  -- they were given now
  pub new : (m : ℕ) → AreGiven p.now m n e.looks → AreGiven p.now m last behind.looks
  pub over : can_give behind.looks.cwnd behind.looks.sent ≡ false
  pub givings : List Giving
  pub spoke : ℕ
  pub is : behind.looks ≡ record e.looks { sent = record e.looks.sent { givings = givings }; spoke = spoke }
  pub spoke_is : (spoke ≡ p.now) ⊎ ((spoke ≡ e.looks.spoke) × (last ≡ n))
  pub some : can_give e.looks.cwnd e.looks.sent ≡ true → n < last
  pub none : can_give e.looks.cwnd e.looks.sent ≡ false → (last ≡ n) × (messages ≡ [])
      × (givings ≡ e.looks.sent.givings) × (spoke ≡ e.looks.spoke)

message_is : (p : Place) (whole : List ℕ) (since a n : ℕ) (e : CallEnd) → Sends whole since a n e.looks
    → suc n ≤ counting_of e.looks.sent
    → message_of p e (Piece (suc n) false)
    ≡ piece_with p.header p.client whole (suc n) (suc e.given % 2 ^ 32)
    (asks e.looks.cwnd e.looks.sent (suc n) false)
message_is p whole since a n e h counts =
    ap (λ (q : received.Piece). record p.header {
      seq = suc n;
      serial = suc e.given % 2 ^ 32;
      flags = (if p.client then CLIENT_INITIATED else 0)
          + flags_of (asks e.looks.cwnd e.looks.sent (suc n) false) q.last;
      body = bodies.Chunk q.payload;
    }) (piece_same whole since a n e.looks h (suc n) (omega arith) counts)

last_asks : (whole : List ℕ) (since a n : ℕ) (k : CallLooks) → Sends whole since a n k
    → suc n ≤ counting_of k.sent → suc n ≡ total whole → asks k.cwnd k.sent (suc n) false ≡ true
last_asks whole since a n k h counts is =
    let last : (piece_at k.sent (suc n)).last ≡ true =
    ap (λ (q : received.Piece). q.last) (piece_same whole since a n k h (suc n) (omega arith) counts)
    ∙ eq-eqb (suc n) (total whole) is in
    or_left (piece_at k.sent (suc n)).last _ last

-- some bring some messages
pub burst_some : (frame : Message) (client : Bool) (whole : List ℕ) (n m : ℕ) (ms : List Message) → n < m
    → Burst frame client whole n m ms → 1 ≤ length ms
burst_some frame client whole n m ms less (no_piece i) = absurd (omega arith)
burst_some frame client whole n m ms less (a_piece i j serial asking others fits asks rest) = omega arith

-- none goes
none_out : (p : Place) (whole : List ℕ) (since a n : ℕ) (e : CallEnd) → Sends whole since a n e.looks
    → can_give e.looks.cwnd e.looks.sent ≡ false → PiecesOut p whole since a n e
none_out p whole since a n e h may =
    record {
      last = n;
      messages = [];
      behind = e;
      more = omega arith;
      burst = no_piece n;
      polls = λ ms f rest. rest;
      sends = λ s late early. sends_sooner whole since a n e.looks h s early;
      new = λ m before. before;
      over = may;
      givings = e.looks.sent.givings;
      spoke = e.looks.spoke;
      is = refl;
      spoke_is = inr (refl, refl);
      some = λ gives_. absurd (both_ways (can_give e.looks.cwnd e.looks.sent) may gives_);
      none = λ not_. (refl, refl, refl, refl);
    }

pub pieces_out : (fuel : ℕ) (p : Place) (whole : List ℕ) (since a n : ℕ) (e : CallEnd) → a + 32 ≤ n + fuel
    → Sends whole since a n e.looks → PiecesOut p whole since a n e
pieces_out zero p whole since a n e enough h =
    elim (cases_Bool (can_give e.looks.cwnd e.looks.sent)) as (λ c. PiecesOut p whole since a n e) [
      | inl may ↦ (let go = may_go whole since a n e.looks h may in absurd (omega (arith, go.1)))
      | inr none ↦ none_out p whole since a n e h none
    ]
pieces_out (suc fuel) p whole since a n e enough h =
    elim (cases_Bool (can_give e.looks.cwnd e.looks.sent)) as (λ c. PiecesOut p whole since a n e) [
      | inl may ↦ more (pieces_out fuel p whole (least_since (cases_lt a n)) a (suc n) next (omega arith)
          (subst (λ (k : CallLooks). Sends whole (least_since (cases_lt a n)) a (suc n) k)
          (sym (piece_is whole since a n e.looks h p.now))
          (gives_piece whole since a n e.looks h p.now (least_since (cases_lt a n)) (low (cases_lt a n))
          (early (cases_lt a n)) (may_go whole since a n e.looks h may).1 (may_go whole since a n e.looks h may).0)))
          may
      | inr none ↦ none_out p whole since a n e h none
    ]
  where
    next : CallEnd
    next = gave p (Piece (suc n) false) e

    least_since : (a < n) ⊎ (n ≤ a) → ℕ
    least_since (inl less) = min since p.now
    least_since (inr all) = p.now

    low : (c : (a < n) ⊎ (n ≤ a)) → least_since c ≤ p.now
    low (inl less) = omega arith
    low (inr all) = omega arith

    early : (c : (a < n) ⊎ (n ≤ a)) → a < n → least_since c ≤ since
    early (inl less) some = omega arith
    early (inr all) some = absurd (omega arith)

    more : PiecesOut p whole (least_since (cases_lt a n)) a (suc n) next → can_give e.looks.cwnd e.looks.sent ≡ true
        → PiecesOut p whole since a n e
    more rest may =
        let go = may_go whole since a n e.looks h may in
        let first : Message = piece_with p.header p.client whole (suc n) (suc e.given % 2 ^ 32)
        (asks e.looks.cwnd e.looks.sent (suc n) false) in
        let gave_is : next.looks ≡ record e.looks { sent = after_giving p.now (suc n) e.looks.sent; spoke = p.now } =
        piece_is whole since a n e.looks h p.now in
        record {
          last = rest.last;
          messages = first ∷ rest.messages;
          behind = rest.behind;
          more = (let m : suc n ≤ rest.last = rest.more in omega arith);
          burst = a_piece n rest.last (suc e.given % 2 ^ 32) (asks e.looks.cwnd e.looks.sent (suc n) false)
              rest.messages
              (omega arith) (last_asks whole since a n e.looks h go.0) rest.burst;
          polls = λ ms f others. subst (λ (m : Message). PollsOut p e (m ∷ rest.messages ++ ms) f)
              (message_is p whole since a n e h go.0)
              (gives e f (Piece (suc n) false) (rest.messages ++ ms) (next_more whole since a n e.looks h p may)
              (rest.polls ms f others));
          sends = λ s late sooner. rest.sends s late (λ less. of s late sooner (cases_lt a n));
          new = λ m before. rest.new m (subst (λ (k : CallLooks). AreGiven p.now m (suc n) k) (sym gave_is)
              (λ j low high. newly_given m before j low high));
          over = rest.over;
          givings = rest.givings;
          spoke = rest.spoke;
          is = rest.is ∙ ap (λ (k : CallLooks). record k {
            sent = record k.sent { givings = rest.givings };
            spoke = rest.spoke;
          }) gave_is;
          spoke_is = inl (⊎_elim (λ (s : rest.spoke ≡ p.now). s)
              (λ (s : (rest.spoke ≡ p.now) × (rest.last ≡ suc n)). s.0) rest.spoke_is);
          some = λ gives_. (let m : suc n ≤ rest.last = rest.more in omega arith);
          none = λ not_. absurd (both_ways (can_give e.looks.cwnd e.looks.sent) not_ may);
        }
      where
        of : (s : ℕ) → s ≤ p.now → (a < n → s ≤ since) → (c : (a < n) ⊎ (n ≤ a)) → s ≤ least_since c
        of s late sooner (inl less) = (let high : s ≤ since = sooner less in omega arith)
        of s late sooner (inr all) = late

        newly_given : (m : ℕ) → AreGiven p.now m n e.looks → (j : ℕ) → m < j → j ≤ suc n
            → IsSomeAnd (last_giving (record { seq = suc n; moment = p.now } ∷ e.looks.sent.givings) j)
            (λ g. p.now ≤ g.moment)
        newly_given m before j low high =
            elim (cases_eq (suc n) j) as (λ c. IsSomeAnd
            (last_giving (record { seq = suc n; moment = p.now } ∷ e.looks.sent.givings) j) (λ g. p.now ≤ g.moment)) [
              | inl same ↦ subst (λ (b : Bool). IsSomeAnd (if b then Some (record {
                moment = p.now;
                again = is_some
                    (last_giving e.looks.sent.givings j);
                order = suc (orders_of e.looks.sent.givings);
              }) else last_giving
                  e.looks.sent.givings j) (λ g. p.now ≤ g.moment)) (sym (eq-eqb (suc n) j same)) (omega arith)
              | inr apart ↦ subst (λ (b : Bool). IsSomeAnd (if b then Some (record {
                moment = p.now;
                again = is_some
                    (last_giving e.looks.sent.givings j);
                order = suc (orders_of e.looks.sent.givings);
              }) else last_giving
                  e.looks.sent.givings j) (λ g. p.now ≤ g.moment)) (sym (ne_eqb (suc n) j apart))
                  (before j low (omega arith))
            ]
