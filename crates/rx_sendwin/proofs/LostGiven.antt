-- A piece is given for the first time: what is lost stays so, and one more is on its way.
use Rattle.std.proofs.Common.{◌≡◌, inl, inr, ◌<◌, ◌≤◌, ◌+◌, ◌-◌, cond, not, ◌&&◌, nat_lt, nat_le, Bool, true, false}
use Rattle.std.proofs.Common.{ℕ, suc, zero, List, get_or, set, map, length}
use Rattle.std.proofs.Common.{Option, Some, None, refl, sym, ap, subst, ◌∙◌, arith}
use Rattle.std.proofs.lemmas.Bool.Decides.{nat_tests}
use Rattle.std.proofs.lemmas.Bool.{cases_eq, cases_lt}
use Rattle.std.proofs.lemmas.List.{length-map, map-set, get_or-set_same, get_or-set_other}
use Rattle.rx_rules.specs.Lost.{order_by}
use Rattle.rx_rules.specs.Sent.{count_to}
use Rattle.rx_sendwin.specs.declared.lost.Lost.{Lost}
use Rattle.rx_sendwin.specs.declared.piece.HeldPiece.{HeldPiece}
use Rattle.rx_sendwin.specs.Marks.{is_acked_by}
use Rattle.rx_sendwin.specs.Lost.{AreLost, IsLowest, order_in, is_marked_past, overtakes_by, is_overtaken_by}
use Rattle.rx_sendwin.specs.Lost.{is_late_by, is_under_way_by}
use Rattle.rx_sendwin.specs.Pieces.{giving_at}
use Rattle.rx_sendwin.proofs.Counts.{count_nothing, and_false, known_low}
use Rattle.rx_sendwin.proofs.Losing.{acked_at}

-- ---- tests

-- tests that are alike count alike
pub count_same : (a b : ℕ → Bool) (n : ℕ) → ((k : ℕ) → 0 < k → k ≤ n → a k ≡ b k) → count_to a n ≡ count_to b n
count_same a b zero same = refl
count_same a b (suc n) same =
    let rest = count_same a b n (λ k lt le. same k lt (omega (arith, le))) in
    λ i. cond (same (suc n) (omega arith) (omega arith) i) (suc (rest i)) (rest i)

-- one number more that fails
lowest_up : (a b : ℕ → Bool) (above n : ℕ) (o : Option ℕ) → ((k : ℕ) → above < k → k ≤ n → b k ≡ a k) →
    b (suc n) ≡ false → IsLowest a above n o → IsLowest b above (suc n) o
lowest_up a b above n None same last low =
    λ j more upto. elim (cases_eq j (suc n)) as (λ _. b j ≡ false) [
      | inl e ↦ ap b e ∙ last
      | inr apart ↦ (
          let within : j ≤ n = omega (arith, upto, apart) in
          same j more within ∙ low j more within)
    ]
lowest_up a b above n (Some k) same last low =
    let within = low.within in
    record {
      past = low.past;
      within = omega (arith, within);
      passes = same k low.past within ∙ low.passes;
      before = λ j more less. same j more (omega (arith, less, within)) ∙ low.before j more less;
    }

-- ---- another giving at a place that isn't marked

marked_same : (acked place : ℕ) (soft : List Bool) (old new : ℕ → ℕ) → get_or soft place false ≡ false →
    ((i : ℕ) → (i ≡ place → ⊥) → new i ≡ old i) → (o j : ℕ) →
    is_marked_past acked soft new o j ≡ is_marked_past acked soft old o j
marked_same acked place soft old new quiet same o j =
    let i = j - suc acked in
    elim (cases_eq i place) as (λ _. is_marked_past acked soft new o j ≡ is_marked_past acked soft old o j) [
      | inl e ↦ (
          let none : get_or soft i false ≡ false = ap (λ m. get_or soft m false) e ∙ quiet in
          ap (λ b. b && nat_lt o (new i)) none ∙ sym (ap (λ b. b && nat_lt o (old i)) none))
      | inr apart ↦ ap (λ n. get_or soft i false && nat_lt o n) (same i apart)
    ]

overtakes_same : (acked place : ℕ) (soft : List Bool) (old new : ℕ → ℕ) → get_or soft place false ≡ false →
    ((i : ℕ) → (i ≡ place → ⊥) → new i ≡ old i) → (k : ℕ) → (k - suc acked ≡ place → ⊥) → (j : ℕ) →
    overtakes_by acked soft new k j ≡ overtakes_by acked soft old k j
overtakes_same acked place soft old new quiet same k apart j =
    ap (λ o. nat_lt k j && is_marked_past acked soft new o j) (same (k - suc acked) apart)
    ∙ ap (λ b. nat_lt k j && b) (marked_same acked place soft old new quiet same (old (k - suc acked)) j)

-- the one behind those that were given isn't marked
count_last : (acked given k : ℕ) (soft : List Bool) (old new : ℕ → ℕ) → acked < k → k ≤ given →
    get_or soft (given - acked) false ≡ false → ((i : ℕ) → (i ≡ given - acked → ⊥) → new i ≡ old i) →
    count_to (overtakes_by acked soft new k) (suc given) ≡ count_to (overtakes_by acked soft old k) given
count_last acked given k soft old new lt le quiet same =
    let apart : k - suc acked ≡ given - acked → ⊥ = (λ e. omega (arith, e, lt, le)) in
    let at : suc given - suc acked ≡ given - acked = omega arith in
    let none : get_or soft (suc given - suc acked) false ≡ false = ap (λ m. get_or soft m false) at ∙ quiet in
    let o = old (k - suc acked) in
    let last : overtakes_by acked soft old k (suc given) ≡ false = (
    and_false (nat_lt k (suc given)) (is_marked_past acked soft old o (suc given))
    (ap (λ b. b && nat_lt o (old (suc given - suc acked))) none)) in
    (λ i. count_to (λ j. overtakes_same acked (given - acked) soft old new quiet same k apart j i) (suc given))
    ∙ ap (λ b. cond b (suc (count_to (overtakes_by acked soft old k) given))
    (count_to (overtakes_by acked soft old k) given)) last

own_count : (acked given : ℕ) (soft : List Bool) (order : ℕ → ℕ) →
    count_to (overtakes_by acked soft order (suc given)) (suc given) ≡ 0
own_count acked given soft order =
    count_nothing (overtakes_by acked soft order (suc given)) (suc given) (λ j lt.
    let no : nat_lt (suc given) (suc j) ≡ false = grind (arith, nat_tests, lt) in
    ap (λ b. b && is_marked_past acked soft order (order (suc given - suc acked)) (suc j)) no)

-- ---- the next piece is given

module _ (acked given since : ℕ) (soft : List Bool) (old new : ℕ → ℕ) (lost next : Lost) where
  pub lost_next : acked ≤ given → get_or soft (given - acked) false ≡ false
      → ((i : ℕ) → (i ≡ given - acked → ⊥) → new i ≡ old i) → since < new (given - acked)
      → AreLost acked given since soft old lost → next ≡ record lost { under_way = lost.under_way + 1 }
      → AreLost acked (suc given) since soft new next
  lost_next le quiet same later are is =
      let at : suc given - suc acked ≡ given - acked = omega arith in
      let apart : (k : ℕ) → acked < k → k ≤ given → k - suc acked ≡ given - acked → ⊥ = (
      λ k lt upto e. omega (arith, lt, upto, e)) in
      let none : get_or soft (suc given - suc acked) false ≡ false = ap (λ m. get_or soft m false) at ∙ quiet in
      let fresh : is_acked_by acked soft (suc given) ≡ false = (
      acked_at acked soft (suc given) false (omega (arith, le)) none) in
      let order_is : new (suc given - suc acked) ≡ new (given - acked) = ap new at in
      let not_late : nat_le (new (suc given - suc acked)) since ≡ false = grind (arith, nat_tests, later, order_is) in
      let on_way : nat_lt since (new (suc given - suc acked)) ≡ true = grind (arith, nat_tests, later, order_is) in
      let way_old = is_under_way_by acked soft old since in
      let way_new = is_under_way_by acked soft new since in
      let way : count_to way_new given ≡ count_to way_old given = (
      count_same way_new way_old given (λ k lt upto. elim (cases_lt acked k) as (λ _. way_new k ≡ way_old k) [
        | inl more ↦ ap (λ n. not (is_acked_by acked soft k) && nat_lt since n)
            (same (k - suc acked) (apart k more upto))
        | inr low ↦ (
            let known = known_low acked soft k low in
            ap (λ b. not b && nat_lt since (new (k - suc acked))) known
            ∙ sym (ap (λ b. not b && nat_lt since (old (k - suc acked))) known))
      ])) in
      let last : way_new (suc given) ≡ true = (λ i. not (fresh i) && on_way i) in
      let counted : count_to way_new (suc given) ≡ suc (count_to way_new given) = (
      ap (λ b. cond b (suc (count_to way_new given)) (count_to way_new given)) last) in
      let before = are.under_way in
      subst (AreLost acked (suc given) since soft new) (sym is) (record {
        overtaken = lowest_up (is_overtaken_by acked soft old given) (is_overtaken_by acked soft new (suc given)) acked
            given lost.overtaken
            (λ k lt upto. ap (λ n. not (is_acked_by acked soft k) && nat_le 3 n)
            (count_last acked given k soft old new lt upto quiet same))
            (and_false (not (is_acked_by acked soft (suc given)))
            (nat_le 3 (count_to (overtakes_by acked soft new (suc given)) (suc given)))
            (ap (nat_le 3) (own_count acked given soft new)))
            are.overtaken;
        late = lowest_up (is_late_by acked soft old since) (is_late_by acked soft new since) acked given lost.late
            (λ k lt upto. ap (λ n. not (is_acked_by acked soft k) && nat_le n since)
            (same (k - suc acked) (apart k lt upto)))
            (and_false (not (is_acked_by acked soft (suc given))) (nat_le (new (suc given - suc acked)) since) not_late)
            are.late;
        under_way = omega (arith, before, way, counted);
      })

-- the orders behind a giving
pub order_other : (hs : List HeldPiece) (place : ℕ) (g : HeldPiece) (i : ℕ) → (i ≡ place → ⊥) →
    order_in (set hs place g) i ≡ order_in hs i
order_other hs place g i apart =
    ap order_by (ap (λ xs. get_or xs i None) (map-set giving_at hs place g)
    ∙ get_or-set_other (map giving_at hs) place i (giving_at g) None apart)

pub order_own : (hs : List HeldPiece) (place : ℕ) (g : HeldPiece) → place < length hs →
    order_in (set hs place g) place ≡ order_by (giving_at g)
order_own hs place g lt =
    let len = length-map hs giving_at in
    ap order_by (ap (λ xs. get_or xs place None) (map-set giving_at hs place g)
    ∙ get_or-set_same (map giving_at hs) place (giving_at g) None (omega (arith, lt, len)))
