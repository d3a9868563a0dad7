-- What a window keeps of its lost pieces says of what it stands for.
use Rattle.std.proofs.Common.{◌≡◌, inl, inr, ◌<◌, ◌≤◌, ◌+◌, ◌-◌, cond, not, ◌&&◌, nat_lt, nat_le, Bool, true, false}
use Rattle.std.proofs.Common.{ℕ, suc, List, get_or, None, sym, ap, subst, ◌∙◌, arith}
use Rattle.std.proofs.lemmas.Bool.Decides.{nat_tests}
use Rattle.std.proofs.lemmas.Bool.{cases_lt}
use Rattle.rx_rules.specs.Lost.{lowest_to, order_by, order_of, overtakes, is_overtaken, overtaken_of, is_late}
use Rattle.rx_rules.specs.Lost.{late_of, under_way}
use Rattle.rx_rules.specs.Lost.{first_lost, lost_of}
use Rattle.rx_rules.specs.Rates.{Cwnd}
use Rattle.rx_rules.specs.Sent.{Sent, given_of, is_acked, count_to}
use Rattle.rx_pool.specs.Pool.{Slots}
use Rattle.rx_sendwin.specs.declared.lost.Lost.{Lost}
use Rattle.rx_sendwin.specs.Lost.{AreLost, order_in, overtakes_by, is_marked_past, is_overtaken_by, is_late_by}
use Rattle.rx_sendwin.specs.Lost.{is_under_way_by}
use Rattle.rx_sendwin.specs.Marks.{is_acked_by}
use Rattle.rx_sendwin.specs.Window.{SendWindow, StandsSent}
use Rattle.rx_sendwin.proofs.Counts.{known_low}
use Rattle.rx_sendwin.proofs.Losing.{under_acked}
use Rattle.rx_sendwin.proofs.LostLaws.{late_in, lowest_is_found}
use Rattle.rx_sendwin.proofs.Standing.{known_is}

order_is : (pool : Slots) (w : SendWindow) (s : Sent) → StandsSent pool w s → (k : ℕ) → w.acked < k →
    order_in w.pieces (k - suc w.acked) ≡ order_of s k
order_is pool w s st k lt =
    let back : suc (w.acked + (k - suc w.acked)) ≡ k = omega (arith, lt) in
    ap order_by (st.givings (k - suc w.acked)) ∙ ap (order_of s) back

mark_is : (pool : Slots) (w : SendWindow) (s : Sent) → StandsSent pool w s → (k : ℕ) → w.acked < k →
    get_or w.soft (k - suc w.acked) false ≡ s.soft k
mark_is pool w s st k lt =
    let back : suc (w.acked + (k - suc w.acked)) ≡ k = omega (arith, lt) in
    st.soft (k - suc w.acked) ∙ ap s.soft back

overtakes_is : (pool : Slots) (w : SendWindow) (s : Sent) → StandsSent pool w s → (k : ℕ) → w.acked < k → (j : ℕ) →
    overtakes_by w.acked w.soft (order_in w.pieces) k j ≡ overtakes s k j
overtakes_is pool w s st k lt j =
    elim (cases_lt k j) as (λ _. overtakes_by w.acked w.soft (order_in w.pieces) k j ≡ overtakes s k j) [
      | inl less ↦ (
          let more : w.acked < j = omega (arith, lt, less) in
          λ i. nat_lt k j && (mark_is pool w s st j more i
          && nat_lt (order_is pool w s st k lt i) (order_is pool w s st j more i)))
      | inr le ↦ (
          let no : nat_lt k j ≡ false = grind (arith, nat_tests, le) in
          ap (λ b. b && is_marked_past w.acked w.soft (order_in w.pieces) (order_in w.pieces (k - suc w.acked)) j) no
          ∙ sym (ap (λ b. b && (s.soft j && nat_lt (order_of s k) (order_of s j))) no))
    ]

-- tests of pieces that aren't acknowledged are alike where they are alike behind the acknowledged ones
pub alike_above : (pool : Slots) (w : SendWindow) (s : Sent) (a b : ℕ → Bool) → StandsSent pool w s →
    ((k : ℕ) → w.acked < k → a k ≡ b k) → (k : ℕ) →
    (not (is_acked_by w.acked w.soft k) && a k) ≡ (not (is_acked s k) && b k)
alike_above pool w s a b st same k =
    let known : is_acked_by w.acked w.soft k ≡ is_acked s k = ap (λ (f : ℕ → Bool). f k) (known_is pool w s st) in
    elim (cases_lt w.acked k) as (λ _. (not (is_acked_by w.acked w.soft k) && a k) ≡ (not (is_acked s k) && b k)) [
      | inl lt ↦ (λ i. not (known i) && same k lt i)
      | inr le ↦ (
          let low = known_low w.acked w.soft k le in
          ap (λ t. not t && a k) low ∙ sym (ap (λ t. not t && b k) (sym known ∙ low)))
    ]

overtaken_is : (pool : Slots) (w : SendWindow) (s : Sent) → StandsSent pool w s → (k : ℕ) →
    is_overtaken_by w.acked w.soft (order_in w.pieces) w.given k ≡ is_overtaken s k
overtaken_is pool w s st k =
    alike_above pool w s
    (λ j. nat_le 3 (count_to (overtakes_by w.acked w.soft (order_in w.pieces) j) w.given))
    (λ j. nat_le 3 (count_to (overtakes s j) (given_of s))) st
    (λ j lt i. nat_le 3 (count_to (λ m. overtakes_is pool w s st j lt m i) (st.given i))) k

late_is : (pool : Slots) (w : SendWindow) (s : Sent) → StandsSent pool w s → (k : ℕ) →
    is_late_by w.acked w.soft (order_in w.pieces) w.since k ≡ is_late s k
late_is pool w s st k =
    alike_above pool w s (λ j. nat_le (order_in w.pieces (j - suc w.acked)) w.since)
    (λ j. nat_le (order_of s j) s.since) st (λ j lt i. nat_le (order_is pool w s st j lt i) (st.since i)) k

way_is : (pool : Slots) (w : SendWindow) (s : Sent) → StandsSent pool w s → (k : ℕ) →
    is_under_way_by w.acked w.soft (order_in w.pieces) w.since k ≡ (not (is_acked s k) && nat_lt s.since (order_of s k))
way_is pool w s st k =
    alike_above pool w s (λ j. nat_lt w.since (order_in w.pieces (j - suc w.acked)))
    (λ j. nat_lt s.since (order_of s j)) st (λ j lt i. nat_lt (st.since i) (order_is pool w s st j lt i)) k

acked_fails : (w : SendWindow) (b : Bool) (k : ℕ) → k ≤ w.acked → (not (is_acked_by w.acked w.soft k) && b) ≡ false
acked_fails w b k le = ap (λ t. not t && b) (known_low w.acked w.soft k le)

pub overtaken_of_is : (pool : Slots) (w : SendWindow) (s : Sent) (lost : Lost) → StandsSent pool w s →
    AreLost w.acked w.given w.since w.soft (order_in w.pieces) lost → overtaken_of s ≡ lost.overtaken
overtaken_of_is pool w s lost st are =
    let test = is_overtaken_by w.acked w.soft (order_in w.pieces) w.given in
    (λ i. lowest_to (λ k. sym (overtaken_is pool w s st k) i) (sym st.given i))
    ∙ lowest_is_found test w.acked w.given lost.overtaken are.overtaken
    (λ k le. acked_fails w (nat_le 3 (count_to (overtakes_by w.acked w.soft (order_in w.pieces) k) w.given)) k le)

pub late_of_is : (pool : Slots) (w : SendWindow) (s : Sent) (lost : Lost) → StandsSent pool w s →
    AreLost w.acked w.given w.since w.soft (order_in w.pieces) lost → late_of s ≡ lost.late
late_of_is pool w s lost st are =
    let test = is_late_by w.acked w.soft (order_in w.pieces) w.since in
    (λ i. lowest_to (λ k. sym (late_is pool w s st k) i) (sym st.given i))
    ∙ lowest_is_found test w.acked w.given lost.late are.late
    (λ k le. acked_fails w (nat_le (order_in w.pieces (k - suc w.acked)) w.since) k le)

pub under_way_is : (pool : Slots) (w : SendWindow) (s : Sent) (lost : Lost) → StandsSent pool w s →
    AreLost w.acked w.given w.since w.soft (order_in w.pieces) lost → under_way s ≡ lost.under_way
under_way_is pool w s lost st are =
    (λ i. count_to (λ k. sym (way_is pool w s st k) i) (sym st.given i)) ∙ sym are.under_way

-- the piece that is taken for lost
pub lost_of_is : (pool : Slots) (w : SendWindow) (s : Sent) (lost : Lost) (c : Cwnd) → StandsSent pool w s →
    AreLost w.acked w.given w.since w.soft (order_in w.pieces) lost → c.prompt ≡ true →
    lost_of c s ≡ first_lost lost.overtaken (cond (nat_lt lost.under_way c.window) lost.late None)
lost_of_is pool w s lost c st are prompt =
    ap (λ b. cond b (first_lost (overtaken_of s) (late_in c s)) None) prompt
    ∙ (λ i. first_lost (overtaken_of_is pool w s lost st are i)
    (cond (nat_lt (under_way_is pool w s lost st are i) c.window) (late_of_is pool w s lost st are i) None))

-- ---- what stays

-- givings that stay alike say the same
pub lost_same : (acked given since : ℕ) (soft : List Bool) (old new : ℕ → ℕ) (lost : Lost) →
    ((i : ℕ) → new i ≡ old i) → AreLost acked given since soft old lost → AreLost acked given since soft new lost
lost_same acked given since soft old new lost same are =
    let is : old ≡ new = (λ i k. sym (same k) i) in
    subst (λ order. AreLost acked given since soft order lost) is are

-- where all that was given is hard acknowledged nothing is lost
pub lost_none : (acked since : ℕ) (soft : List Bool) (order : ℕ → ℕ) (lost : Lost) →
    lost ≡ record { overtaken = None; late = None; under_way = 0 } → AreLost acked acked since soft order lost
lost_none acked since soft order lost is =
    subst (AreLost acked acked since soft order) (sym is) (record {
      overtaken = λ j more upto. absurd (omega (arith, more, upto));
      late = λ j more upto. absurd (omega (arith, more, upto));
      under_way = sym (under_acked acked since soft order);
    })
