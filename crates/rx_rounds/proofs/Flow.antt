-- A client that said all before, whose pieces are acknowledged in order and at once: what it gives while no clock
-- moves.
use Rattle.std.proofs.Common.{◌≡◌, ◌<◌, ◌≤◌, ◌+◌, ◌-◌, ◌==◌, not, ℕ, zero, suc, max, min, Bool, true, false, cond}
use Rattle.std.proofs.Common.{List, [], ◌∷◌, ◌++◌, refl, ap, sym, ◌∙◌, ◌⊎◌, inl, inr, arith, Option, Some, None, length}
use Rattle.std.proofs.Common.{filter, le_refl, nat_le, is_some}
use Rattle.std.proofs.lemmas.Bool.{eq-eqb, ne_eqb, cases_eq, cases_lt, lt-ltb, le-ltb, le-leb, lt-leb, and_right}
use Rattle.std.proofs.lemmas.Bool.{or_right, or_left}
use Rattle.rx_model.specs.Body.{AckBody}
use Rattle.rx_model.specs.Body as bodies
use Rattle.rx_model.specs.declared.wire.TheConstants.{ACK_PING}
use Rattle.rx_model.specs.declared.answers.Took.TheVariants as tooks
use Rattle.rx_model.specs.Message.{Message}
use Rattle.rx_rules.specs.CallItems.{CallItem, Piece, again_items, asks, can_give, ping_items}
use Rattle.rx_rules.specs.CallLooks.{CallLooks, NodeView, after_taken, sampled}
use Rattle.rx_rules.specs.Rates.{Rtt, growth}
use Rattle.rx_rules.specs.Received.{nothing_received, reach}
use Rattle.rx_rules.specs.Sent.{Giving, Sent, after_giving, given_of, greatest_given, in_flight, is_acked, last_giving}
use Rattle.rx_rules.specs.Sent.{is_marked, lowest_of, marks_past, opened, orders_of, Newly, newly_of}
use Rattle.rx_rounds.proofs.Pair.{Place, gave, next_of, row_of}
use Rattle.rx_between.proofs.Counting.{count_rest, reach_least, reach_short}

-- what is due of several items
abbrev pub ripe : ℕ → List CallItem → List CallItem
ripe now is = filter (λ (i : CallItem). nat_le i.rank now) is

-- how many pieces these bytes are
abbrev pub total : List ℕ → ℕ
total bytes = max 1 (opened (length bytes))

-- pieces 1 to n were given at the start, the newest first
abbrev pub givings_to : ℕ → List Giving
givings_to zero = []
givings_to (suc n) = record { seq = suc n; moment = 0 } ∷ givings_to n

-- how fast it sends
pub record Speed : Type 0 where
  pub rtt : Rtt
  pub window : ℕ
  pub ssthresh : ℕ

-- n pieces were given, of which the first a are hard acknowledged
abbrev pub flow : List ℕ → ℕ → (ℕ → Bool) → ℕ → Sent
flow bytes a soft n = record {
  said = bytes;
  shut = true;
  givings = givings_to n;
  acked = a;
  soft = soft;
  peer_window = 32;
  since = 0;
}

abbrev pub writer_at : List ℕ → Speed → ℕ → (ℕ → Bool) → ℕ → CallLooks
writer_at bytes v a soft n =
    record {
      received = nothing_received;
      sent = flow bytes a soft n;
      rtt = v.rtt;
      cwnd = record { window = v.window; ssthresh = v.ssthresh; most = 32; prompt = false };
      owed_ack = None;
      heard = 0;
      spoke = 0;
    }

-- the first a are acknowledged and no other: the first h of them hard, the others by marks
pub record Marked (a : ℕ) (soft : ℕ → Bool) : Type 0 where
  pub h : ℕ
  pub within : h ≤ a
  pub marks : (k : ℕ) → h < k → soft k ≡ nat_le k a

module _ (bytes : List ℕ) (a : ℕ) (soft : ℕ → Bool) (hard : Marked a soft) where
  pub given_is : (n : ℕ) → given_of (flow bytes hard.h soft n) ≡ n
  given_is zero = refl
  given_is (suc n) = (let before : greatest_given (givings_to n) ≡ n = given_is n in rw before (omega arith))

  pub acked_low : (n k : ℕ) → k ≤ a → is_acked (flow bytes hard.h soft n) k ≡ true
  acked_low n k low =
      elim (cases_lt hard.h k) as (λ c. is_acked (flow bytes hard.h soft n) k ≡ true) [
        | inl above ↦ or_right (nat_le k hard.h) (soft k) (hard.marks k above ∙ le-leb k a low)
        | inr there ↦ or_left (nat_le k hard.h) (soft k) (le-leb k hard.h there)
      ]

  pub acked_high : (n k : ℕ) → a < k → is_acked (flow bytes hard.h soft n) k ≡ false
  acked_high n k high =
      let inside : hard.h ≤ a = hard.within in
      rw (lt-leb k hard.h (omega arith), hard.marks k (omega arith), lt-leb k a high) refl

  pub flies : (n d : ℕ) → n ≡ a + d → in_flight (flow bytes hard.h soft n) ≡ d
  flies n d whole =
      rw (given_is n)
      (count_rest (λ k. not (is_acked (flow bytes hard.h soft n) k)) a d n whole
      (λ k low high. ap not (acked_low n k high))
      (λ k low high. ap not (acked_high n k low)))

  pub lowest_is : (n : ℕ) → a ≤ n → lowest_of (flow bytes hard.h soft n) ≡ suc a
  lowest_is n within =
      let low : a ≤ reach (is_acked (flow bytes hard.h soft n)) n = reach_least (is_acked (flow bytes hard.h soft n)) n
      a
      within (λ j from to. acked_low n j to) in
      let high : reach (is_acked (flow bytes hard.h soft n)) n < suc a = reach_short
      (is_acked (flow bytes hard.h soft n)) n
      (suc a) (omega arith) (acked_high n (suc a) (omega arith)) in
      rw (given_is n) (omega arith)

  pub last_none : (n k : ℕ) → n < k → last_giving (givings_to n) k ≡ None
  last_none zero k past = refl
  last_none (suc n) k past = rw (ne_eqb (suc n) k (λ (e : suc n ≡ k). omega arith)) (last_none n k (omega arith))

  pub last_some : (n k : ℕ) → 1 ≤ k → k ≤ n
      → (again : Bool) × ((order : ℕ) × (last_giving (givings_to n) k
      ≡ Some (record { moment = 0; again = again; order = order })))
  last_some zero k low high = absurd (omega arith)
  last_some (suc n) k low high =
      elim (cases_eq (suc n) k) as (λ c. (again : Bool) × ((order : ℕ) ×
      (last_giving (givings_to (suc n)) k ≡ Some (record { moment = 0; again = again; order = order })))) [
        | inl same ↦ (
          is_some (last_giving (givings_to n) k),
          (suc (orders_of (givings_to n)), rw (eq-eqb (suc n) k same) refl),
        )
        | inr apart ↦ (
            let before = last_some n k low (omega arith) in
            (before.0, (before.1.0, rw (ne_eqb (suc n) k apart) before.1.1)))
      ]

  -- no piece is due again at the moment of its giving
  pub again_quiet : (rto n : ℕ) → a ≤ n → 0 < rto
      → ripe 0 (again_items rto (lowest_of (flow bytes hard.h soft n))
      (last_giving (givings_to n) (lowest_of (flow bytes hard.h soft n)))) ≡ []
  again_quiet rto n within some =
      rw (lowest_is n within)
      (elim (cases_lt a n) as (λ c. ripe 0 (again_items rto (suc a) (last_giving (givings_to n) (suc a))) ≡ []) [
        | inl less ↦ (
            let g = last_some n (suc a) (omega arith) (omega arith) in
            rw g.1.1 (rw (lt-leb (0 + rto) 0 (omega arith)) refl))
        | inr all ↦ rw (last_none n (suc a) (omega arith)) refl
      ])

  ripe-append : (is js : List CallItem) → ripe 0 (is ++ js) ≡ ripe 0 is ++ ripe 0 js
  ripe-append [] js = refl
  ripe-append (i ∷ is) js =
      elim (nat_le i.rank 0) as (λ b. cond b (i ∷ ripe 0 (is ++ js)) (ripe 0 (is ++ js)) ≡ cond b (i ∷ ripe 0 is)
      (ripe 0 is) ++ ripe 0 js) [
        | true ↦ ap (λ (ks : List CallItem). i ∷ ks) (ripe-append is js)
        | false ↦ ripe-append is js
      ]

  module _ (header : Message) (v : Speed) (some : 0 < v.rtt.rto) where
    abbrev pub place : Place
    place = record { client = true; window = 32; shared = 1984; now = 0; header = header }

    quiet : (n : ℕ) → a ≤ n → ripe 0
        (again_items v.rtt.rto (lowest_of (flow bytes hard.h soft n))
        (last_giving (givings_to n) (lowest_of (flow bytes hard.h soft n))) ++ ping_items true 0) ≡ []
    quiet n within =
        ripe-append (again_items v.rtt.rto (lowest_of (flow bytes hard.h soft n))
        (last_giving (givings_to n) (lowest_of (flow bytes hard.h soft n)))) (ping_items true 0)
        ∙ ap (λ (is : List CallItem). is ++ ripe 0 (ping_items true 0)) (again_quiet v.rtt.rto n within some)

    pub may_more : (n d : ℕ) → n ≡ a + d → n < total bytes → d < v.window → n < hard.h + 32
        → can_give (writer_at bytes v hard.h soft n).cwnd (flow bytes hard.h soft n) ≡ true
    may_more n d whole below slow small =
        rw (flies n d whole, given_is n)
        (rw (lt-ltb n (total bytes) below, lt-ltb d v.window slow, le-leb (suc n) (hard.h + 32) small) refl)

    pub may_none : (n d : ℕ) → n ≡ a + d → (total bytes ≤ n) ⊎ (v.window ≤ d)
        → can_give (writer_at bytes v hard.h soft n).cwnd (flow bytes hard.h soft n) ≡ false
    may_none n d whole (inl all) = rw (given_is n) (rw (le-ltb n (total bytes) all) refl)
    may_none n d whole (inr full) = rw (flies n d whole) (rw (le-ltb d v.window full) (and_right _ _ refl))

    pub next_more : (n d : ℕ) → n ≡ a + d → n < total bytes → d < v.window → n < hard.h + 32
        → next_of place (writer_at bytes v hard.h soft n) ≡ Some (Piece (suc n) false)
    next_more n d whole below slow small =
        rw (may_more n d whole below slow small)
        (rw (quiet n (omega arith))
        (rw (given_is n) refl))

    pub next_none : (n d : ℕ) → n ≡ a + d → (total bytes ≤ n) ⊎ (v.window ≤ d)
        → next_of place (writer_at bytes v hard.h soft n) ≡ None
    next_none n d whole stop =
        rw (may_none n d whole stop) (rw (quiet n (omega arith)) refl)

    pub gave_more : (n given : ℕ) → gave place (Piece (suc n) false)
        (record { looks = writer_at bytes v hard.h soft n; given = given })
        ≡ record { looks = writer_at bytes v hard.h soft (suc n); given = suc given }
    gave_more n given = rw (given_is n) (rw (lt-leb (suc n) n (omega arith)) refl)

    -- the last of those that it may give asks for an ACK
    abbrev pub asking : ℕ → Bool
    asking n = asks (writer_at bytes v hard.h soft n).cwnd (flow bytes hard.h soft n) (suc n) false

    pub asks_end : (n d : ℕ) → n ≡ a + d → (total bytes ≡ suc n) ⊎ (v.window ≤ suc d) → asking n ≡ true
    asks_end n d whole (inl last) = rw (eq-eqb (suc n) (total bytes) (sym last)) refl
    asks_end n d whole (inr full) =
        let flown : in_flight (after_giving 0 (suc n) (flow bytes hard.h soft n)) ≡ suc d = flies (suc n) (suc d)
        (omega arith) in
        let fills : nat_le v.window (in_flight (after_giving 0 (suc n) (flow bytes hard.h soft n))) ≡ true = rw flown
        (le-leb v.window (suc d) full) in
        or_right (suc n == total bytes) _ (rw fills refl)

    -- ---- an ACK of u pieces, with marks behind them

    abbrev pub told_marks : List Bool → ℕ → ℕ → ℕ → ℕ → AckBody
    told_marks marks u previous serial reason = record
        { first = u + 1; previous = previous; serial = serial; reason = reason; marks = marks; window = Some 32 }

    abbrev pub told_message : Message → ℕ → AckBody → Message
    told_message frame serial b = record frame { seq = 0; serial = serial; body = bodies.Ack b }

    abbrev pub newly_marks : List Bool → ℕ → ℕ → Newly
    newly_marks marks u n = newly_of 0 (u + 1) marks (flow bytes hard.h soft n)

    abbrev pub quicker_marks : List Bool → ℕ → ℕ → Speed
    quicker_marks marks u n =
        record {
          rtt = sampled (newly_marks marks u n).sample v.rtt;
          window = min (v.window + growth (newly_marks marks u n).count
              (record { window = v.window; ssthresh = v.ssthresh; most = 32; prompt = false })) 32;
          ssthresh = v.ssthresh;
        }

    pub row_marks : (frame : Message) (marks : List Bool) (u n previous serial caused reason : ℕ) → u ≤ n
        → marks_past marks (u + 1) n ≡ false
        → row_of place (told_message frame serial (told_marks marks u previous caused reason))
        (writer_at bytes v hard.h soft n)
        ≡ tooks.Heard
    row_marks frame marks u n previous serial caused reason within fits =
        let first : u + 1 - 1 ≡ u = omega arith in
        rw (given_is n, ne_eqb (u + 1) 0 (λ (e : u + 1 ≡ 0). omega arith), fits, first)
        (rw (le-ltb n u within) refl)

    pub hears_marks : (view : NodeView) (frame : Message) (marks : List Bool) (u n previous serial caused reason : ℕ)
        → view.now ≡ 0 → hard.h ≤ u → (reason == ACK_PING) ≡ false
        → after_taken view tooks.Heard (told_message frame serial (told_marks marks u previous caused reason))
        (writer_at bytes v hard.h soft n)
        ≡ writer_at bytes (quicker_marks marks u n) u (is_marked (u + 1) marks) n
    hears_marks view frame marks u n previous serial caused reason start known no_ping =
        let first : u + 1 - 1 ≡ u = omega arith in
        rw (start, no_ping, first) (rw (le-ltb u hard.h known) refl)

    -- ---- none is marked

    abbrev pub told : ℕ → ℕ → ℕ → ℕ → AckBody
    told = told_marks []

    abbrev pub newly : ℕ → ℕ → Newly
    newly = newly_marks []

    abbrev pub quicker : ℕ → ℕ → Speed
    quicker = quicker_marks []

    pub row_told : (frame : Message) (u n previous serial caused reason : ℕ) → u ≤ n
        → row_of place (told_message frame serial (told u previous caused reason)) (writer_at bytes v hard.h soft n)
        ≡ tooks.Heard
    row_told frame u n previous serial caused reason within =
        row_marks frame [] u n previous serial caused reason within refl

    pub hears_told : (view : NodeView) (frame : Message) (u n previous serial caused reason : ℕ) → view.now ≡ 0
        → a ≤ u → (reason == ACK_PING) ≡ false
        → after_taken view tooks.Heard (told_message frame serial (told u previous caused reason))
        (writer_at bytes v hard.h soft n)
        ≡ writer_at bytes (quicker u n) u (is_marked (u + 1) []) n
    hears_told view frame u n previous serial caused reason start known no_ping =
        let inside : hard.h ≤ a = hard.within in
        hears_marks view frame [] u n previous serial caused reason start (omega arith) no_ping

    abbrev pub hard_told : (u : ℕ) → Marked u (is_marked (u + 1) [])
    hard_told u =
        record {
          h = u;
          within = le_refl u;
          marks = λ k high. and_right (nat_le (u + 1) k) false refl ∙ sym (lt-leb k u high);
        }

-- it still waits some time before it gives again
pub waits : (o : Option ℕ) (r : Rtt) → 0 < r.rto → 0 < (sampled o r).rto
waits None r some = some
waits (Some ms) r some = waits_by ms r.prompt r refl
  where
    waits_by : (ms : ℕ) (b : Bool) (r : Rtt) → r.prompt ≡ b → 0 < (sampled (Some ms) r).rto
    waits_by ms true r is = rw is (omega arith)
    waits_by ms false r is = rw is (omega arith)
