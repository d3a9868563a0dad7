-- One direction of a call whose sender, polled out, gave no piece though each piece was given long ago: nothing is left
-- to be done.
use Rattle.std.proofs.Common.{◌≡◌, ◌<◌, ◌≤◌, ◌+◌, not, is_some, nat_le, nat_lt, ℕ, suc, Bool, true, false, List, length}
use Rattle.std.proofs.Common.{Some, ap, sym, ◌∙◌, inl, inr, arith}
use Rattle.std.proofs.lemmas.Bool.{and_from, cases_lt, le-leb, lt-ltb, or_left}
use Rattle.rx_model.specs.declared.wire.TheConstants.{MAX_RTO_MS}
use Rattle.rx_model.specs.Message.{Message}
use Rattle.rx_rules.specs.CallItems.{Sending, can_give}
use Rattle.rx_rules.specs.CallLooks.{CallLooks}
use Rattle.rx_rules.specs.Rates.{Cwnd, Rtt}
use Rattle.rx_rules.specs.Received.{Received, front_of, greatest, packet_at, used_of}
use Rattle.rx_rules.specs.Sent.{Sent, counting_by, counting_of, given_of, in_flight, is_acked, last_giving, lowest_of}
use Rattle.rx_rules.specs.Sent.{pieces_by, pieces_of}
use Rattle.rx_rules.specs.Setup.{Setup}
use Rattle.rx_between.specs.Acknowledged.{AreTrue}
use Rattle.rx_between.specs.Agreed.{AreGiven}
use Rattle.rx_between.proofs.Counting.{count_none}
use Rattle.rx_between.proofs.Marks.{front_reaches}
use Rattle.rx_closing.proofs.Ends.BothEnds.{GivenBy, IsFit, RestsOn, Stood}
use Rattle.rx_closing.proofs.Ends.FrozenPolls.{has_piece, polls_end, polls_same, polls_steady}
use Rattle.rx_closing.proofs.Ends.NextGiven.{none_again, none_fresh, view_at}
use Rattle.rx_closing.proofs.Steps.{GivesOut}
use Rattle.rx_rules.proofs.ReachLaws.{reach_within}

-- ---- what may be given

can_from : (c : Cwnd) (s : Sent) → given_of s < counting_of s → in_flight s < c.window
    → suc (given_of s) ≤ s.acked + s.peer_window → can_give c s ≡ true
can_from c s more open_ lets =
    and_from (nat_lt (given_of s) (counting_of s)) _ (lt-ltb (given_of s) (counting_of s) more)
    (and_from (nat_lt (in_flight s) c.window) _ (lt-ltb (in_flight s) c.window open_)
    (le-leb (suc (given_of s)) (s.acked + s.peer_window) lets))

-- nothing is in flight where all is acknowledged
flight_none : (s : Sent) → s.acked ≡ given_of s → in_flight s ≡ 0
flight_none s all =
    count_none (λ k. not (is_acked s k)) (given_of s)
    (λ k low high. ap not (or_left (nat_le k s.acked) (s.soft k) (le-leb k s.acked (omega (arith, all, high)))))

-- ---- nothing is left

-- no piece is in flight: it would have been given again
pub none_flying : (s : Setup) (now start : ℕ) (a a1 : CallLooks) (xs : List Sending) (ms : List Message)
    → GivesOut s now a xs ms a1 → has_piece xs ≡ false → IsFit now a
    → ((j : ℕ) → 1 ≤ j → j ≤ given_of a.sent → GivenBy start a.sent.givings j) → start + MAX_RTO_MS ≤ now
    → given_of a.sent < lowest_of a.sent
none_flying s now start a a1 xs ms gives none fit known late =
    elim (cases_lt (given_of a.sent) (lowest_of a.sent)) as (λ c. given_of a.sent < lowest_of a.sent) [
      | inl below ↦ below
      | inr there ↦ absurd (let same = polls_same s now a xs ms a1 gives none in
          let g = known (lowest_of a.sent) (omega arith) there in
          let is : last_giving a1.sent.givings (lowest_of a1.sent) ≡ Some g.last =
          ap (λ (x : Sent). last_giving x.givings (lowest_of x)) same.sent ∙ g.is in
          let soon = none_again (view_at s now) a1 g.last (polls_steady s now a xs ms a1 gives fit.steady)
          (polls_end s now a xs ms a1 gives) is in
          let rto : a1.rtt.rto ≡ a.rtt.rto = ap (λ (x : Rtt). x.rto) same.rtt in
          let short = fit.soon in
          let by = g.by in
          let early : now < g.last.moment + a1.rtt.rto = soon in
          omega (arith, early, rto, short, by, late))
    ]

-- where all that was given is acknowledged, all that counts was given
pub none_left : (s : Setup) (now : ℕ) (a a1 : CallLooks) (xs : List Sending) (ms : List Message)
    → GivesOut s now a xs ms a1 → has_piece xs ≡ false → IsFit now a → a.sent.acked ≡ given_of a.sent
    → counting_of a.sent ≡ given_of a.sent
none_left s now a a1 xs ms gives none fit acked =
    let same = polls_same s now a xs ms a1 gives none in
    let cannot : can_give a.cwnd a.sent ≡ false =
    ap (λ (c : Cwnd). can_give c a.sent) (sym same.cwnd)
    ∙ (ap (λ (x : Sent). can_give a1.cwnd x) (sym same.sent)
    ∙ none_fresh (view_at s now) a1 (polls_end s now a xs ms a1 gives)) in
    elim (cases_lt (given_of a.sent) (counting_of a.sent)) as (λ c. counting_of a.sent ≡ given_of a.sent) [
      | inl more ↦ absurd (let none_ = flight_none a.sent acked in
          let open_ = fit.open_ in
          let lets = fit.lets in
          let can = can_from a.cwnd a.sent more (omega (arith, none_, open_)) (omega (arith, acked, lets)) in
          cc (can, cannot))
      | inr all ↦ (let counts = fit.counts in omega (arith, all, counts))
    ]

module _ (s : Setup) (now start : ℕ) (a a1 : CallLooks) (xs : List Sending) (ms : List Message) (r : Received) where
  -- so all that counts was given, came, was read and is known to have come
  pub rests : GivesOut s now a xs ms a1 → has_piece xs ≡ false → IsFit now a
      → ((j : ℕ) → 1 ≤ j → j ≤ given_of a.sent → GivenBy start a.sent.givings j) → start + MAX_RTO_MS ≤ now
      → AreTrue a.sent r → AreGiven a.sent r → used_of r ≡ front_of r.kept → a.sent.acked ≡ used_of r → RestsOn a.sent r
  rests gives none fit known late truth given drained all_known =
      let below = none_flying s now start a a1 xs ms gives none fit known late in
      let reaches = front_reaches a.sent r truth in
      let within = reach_within (λ j. is_some (packet_at r.kept j)) (greatest r.kept) in
      let front : front_of r.kept ≡ given_of a.sent = omega (arith, below, reaches, within, given) in
      let acked : a.sent.acked ≡ given_of a.sent = omega (arith, all_known, drained, front) in
      record {
        acked = acked;
        front = front;
        used = drained ∙ front;
        counts = none_left s now a a1 xs ms gives none fit acked;
      }

-- ---- it stays so

counting-by : (n m : ℕ) (b : Bool) → pieces_by n b ≡ pieces_by m b → counting_by n b ≡ counting_by m b
counting-by n m true same = same
counting-by n m false same = omega (arith, same)

-- as many count where there are as many
pub counting_same : (a b : Sent) → b.shut ≡ a.shut → pieces_of b ≡ pieces_of a → counting_of b ≡ counting_of a
counting_same a b shut pieces =
    ap (λ (t : Bool). counting_by (length b.said) t) shut
    ∙ counting-by (length b.said) (length a.said) a.shut
    (ap (λ (t : Bool). pieces_by (length b.said) t) (sym shut) ∙ pieces)

-- where no number moved
pub rests_on : (a a4 b b4 : CallLooks) → Stood a a4 → Stood b b4 → RestsOn a.sent b.received
    → RestsOn a4.sent b4.received
rests_on a a4 b b4 sends takes rests =
    let given = sends.given in
    let acked = sends.acked in
    let front = takes.front in
    let used = takes.used in
    let counts = counting_same a.sent a4.sent sends.shut sends.pieces in
    let was_acked = rests.acked in
    let was_front = rests.front in
    let was_used = rests.used in
    let was_counting = rests.counts in
    record {
      acked = omega (arith, given, acked, was_acked);
      front = omega (arith, given, front, was_front);
      used = omega (arith, given, used, was_used);
      counts = omega (arith, given, counts, was_counting);
    }
