-- What the numbers of a window say of what it stands for.
use Rattle.std.proofs.Common.{◌==◌, ◌≡◌, inl, inr, ◌≤◌, ◌+◌, ◌-◌, not, ◌&&◌, ◌||◌, nat_lt}
use Rattle.std.proofs.Common.{nat_le}
use Rattle.std.proofs.Common.{max, Bool, true, false, ℕ, suc, List, get_or}
use Rattle.std.proofs.Common.{sym, ap, ◌∙◌, arith}
use Rattle.std.proofs.lemmas.Bool.Decides.{nat_tests}
use Rattle.std.proofs.lemmas.Bool.{cases_lt}
use Rattle.rx_model.specs.declared.wire.TheConstants.{LAST_SEQ}
use Rattle.rx_rules.specs.CallItems.{can_give, asks, prompts}
use Rattle.rx_rules.specs.Rates.{Cwnd}
use Rattle.rx_rules.specs.Sent.{Sent, pieces_by, counting_by, pieces_of, counting_of}
use Rattle.rx_rules.specs.Sent.{piece_at}
use Rattle.rx_rules.specs.Sent.{given_of, is_acked, in_flight, after_giving}
use Rattle.rx_pool.specs.Pool.{Slots}
use Rattle.rx_sendwin.specs.Marks.{is_acked_by, flight_by}
use Rattle.rx_sendwin.specs.Window.{SendWindow, StandsSent, IsTied}
use Rattle.rx_sendwin.proofs.Counts.{known_low, known_high}
use Rattle.rx_sendwin.proofs.Acks.{flight_next}

-- ---- which pieces are acknowledged

known_at : (acked : ℕ) (soft : List Bool) (s : Sent) → acked ≡ s.acked →
    ((i : ℕ) → get_or soft i false ≡ s.soft (suc (acked + i))) → (k : ℕ) → is_acked_by acked soft k ≡ is_acked s k
known_at acked soft s is marks k =
    elim (cases_lt acked k) as (λ _. is_acked_by acked soft k ≡ is_acked s k) [
      | inl lt ↦ (
          let back : suc (acked + (k - suc acked)) ≡ k = omega (arith, lt) in
          let gone : nat_le k s.acked ≡ false = grind (arith, nat_tests, lt, is) in
          ap (is_acked_by acked soft) (sym back) ∙ known_high acked soft (k - suc acked) ∙ marks (k - suc acked)
          ∙ ap s.soft back ∙ sym (λ j. gone j || s.soft k))
      | inr le ↦ (
          let yes : nat_le k s.acked ≡ true = grind (arith, nat_tests, le, is) in
          known_low acked soft k le ∙ sym (λ j. yes j || s.soft k))
    ]

pub known_of : (acked : ℕ) (soft : List Bool) (s : Sent) → acked ≡ s.acked →
    ((i : ℕ) → get_or soft i false ≡ s.soft (suc (acked + i))) → is_acked_by acked soft ≡ is_acked s
known_of acked soft s is marks = λ i k. known_at acked soft s is marks k i

pub known_is : (pool : Slots) (w : SendWindow) (s : Sent) → StandsSent pool w s →
    is_acked_by w.acked w.soft ≡ is_acked s
known_is pool w s st = known_of w.acked w.soft s st.acked st.soft

pub flight_is : (pool : Slots) (w : SendWindow) (s : Sent) (low flight : ℕ) → StandsSent pool w s →
    IsTied w low flight →
    flight ≡ in_flight s
flight_is pool w s low flight st tied = tied.in_flight ∙ (λ i. flight_by (known_is pool w s st i) (st.given i))

pub counting_is : (pool : Slots) (w : SendWindow) (s : Sent) → StandsSent pool w s →
    counting_by w.total w.shut ≡ counting_of s
counting_is pool w s st = λ i. counting_by (st.total i) (st.shut i)

pub pieces_is : (pool : Slots) (w : SendWindow) (s : Sent) → StandsSent pool w s →
    pieces_by w.total w.shut ≡ pieces_of s
pieces_is pool w s st = λ i. pieces_by (st.total i) (st.shut i)

pub counting_most : (total : ℕ) (shut : Bool) → counting_by total shut ≤ pieces_by total shut
counting_most total true = omega arith
counting_most total false = omega arith

pub given_within : (w : SendWindow) (low flight : ℕ) → IsTied w low flight → w.given ≤ LAST_SEQ
given_within w low flight tied =
    let a = tied.given_most in
    let b = counting_most w.total w.shut in
    let e = tied.fits in
    omega (arith, a, b, e)

-- ---- a new piece is due

pub can_give_is : (pool : Slots) (w : SendWindow) (s : Sent) (low flight : ℕ) (c : Cwnd) → StandsSent pool w s →
    IsTied w low flight →
    (nat_lt w.given (counting_by w.total w.shut)
    && (nat_lt flight c.window && nat_le (w.given + 1) (w.acked + w.peer_window))) ≡ can_give c s
can_give_is pool w s low flight c st tied =
    let count = counting_is pool w s st in
    let fly = flight_is pool w s low flight st tied in
    let next : w.given + 1 ≡ suc (given_of s) = ap (λ n. n + 1) st.given ∙ omega arith in
    λ i. nat_lt (st.given i) (count i) && (nat_lt (fly i) c.window && nat_le (next i) (st.acked i + st.peer i))

-- it isn't below where it is at most so
full_is : (a b : ℕ) → not (nat_lt a b) ≡ nat_le b a
full_is a b = grind (arith, nat_tests)

pub asks_is : (pool : Slots) (w : SendWindow) (s : Sent) (low flight : ℕ) (c : Cwnd) (last : Bool) →
    StandsSent pool w s →
    IsTied w low flight → last ≡ (piece_at s (w.given + 1)).last →
    (last || ((not (nat_lt (flight + 1) c.window)
    || ((w.given + 1) == w.acked + w.peer_window)) || prompts c (w.given + 1)))
    ≡ asks c s (suc (given_of s)) false
asks_is pool w s low flight c last st tied is =
    let seq : w.given + 1 ≡ suc (given_of s) = ap (λ n. n + 1) st.given ∙ omega arith in
    let most : max (suc (given_of s)) (given_of s) ≡ suc (given_of s) = omega arith in
    let fly : flight + 1 ≡ in_flight (after_giving 0 (suc (given_of s)) s) = (
    omega arith ∙ ap suc tied.in_flight ∙ sym (flight_next w.acked w.given w.soft tied.acked_most tied.quiet)
    ∙ (λ i. flight_by (known_is pool w s st i) (suc (st.given i))) ∙ ap (flight_by (is_acked s)) (sym most)) in
    let full : not (nat_lt (flight + 1) c.window) ≡ nat_le c.window (in_flight (after_giving 0 (suc (given_of s)) s)) =
    (
    full_is (flight + 1) c.window ∙ ap (nat_le c.window) fly) in
    λ i. (is ∙ ap (λ k. (piece_at s k).last) seq) i
    || ((full i || (seq i == st.acked i + st.peer i)) || prompts c (seq i))
