-- Which pieces are taken for lost, looked at from the last one down.
use Rattle.std.proofs.Common.{◌≡◌, inl, inr, ◌<◌, ◌≤◌, ◌+◌, ◌-◌, cond, not, ◌&&◌, nat_lt, nat_le, Bool, true, false}
use Rattle.std.proofs.Common.{ℕ, suc, zero, List, get_or, Option, Some, None, refl, sym, ap, subst, ◌∙◌, arith}
use Rattle.std.proofs.lemmas.Bool.Decides.{nat_tests}
use Rattle.std.proofs.lemmas.Bool.{cases_eq, cases_lt}
use Rattle.rx_rules.specs.Sent.{count_to}
use Rattle.rx_sendwin.specs.declared.lost.Latest.{Latest}
use Rattle.rx_sendwin.specs.declared.lost.Lost.{Lost}
use Rattle.rx_sendwin.specs.Marks.{is_acked_by}
use Rattle.rx_sendwin.specs.Lost.{AreLost, Counts, IsLowest, is_marked_past, overtakes_by, is_overtaken_by, is_late_by}
use Rattle.rx_sendwin.specs.Lost.{is_under_way_by}
use Rattle.rx_sendwin.proofs.Counts.{count_nothing, known_high, known_low}

-- ---- counts

-- of those past k
abbrev pub past : (ℕ → Bool) → ℕ → ℕ → Bool
past test k j = nat_lt k j && test j

pub not_past : (test : ℕ → Bool) (k j : ℕ) → j ≤ k → past test k j ≡ false
not_past test k j le =
    let no : nat_lt k j ≡ false = grind (arith, nat_tests, le) in
    ap (λ b. b && test j) no

pub is_past : (test : ℕ → Bool) (k j : ℕ) → k < j → past test k j ≡ test j
is_past test k j lt =
    let yes : nat_lt k j ≡ true = grind (arith, nat_tests, lt) in
    ap (λ b. b && test j) yes

one_more : (b : Bool) (a c d : ℕ) → a + c ≡ d → cond b (suc a) a + c ≡ cond b (suc d) d
one_more true a c d is = omega (arith, is)
one_more false a c d is = is

-- those up to k and those past it are all
pub count_split : (test : ℕ → Bool) (k n : ℕ) → k ≤ n → count_to (past test k) n + count_to test k ≡ count_to test n
count_split test k zero le =
    let is : k ≡ zero = omega (arith, le) in
    ap (λ m. 0 + count_to test m) is ∙ omega arith
count_split test k (suc n) le =
    elim (cases_eq k (suc n)) as (λ _. count_to (past test k) (suc n) + count_to test k ≡ count_to test (suc n)) [
      | inl e ↦ (
          let none = count_nothing (past test k) (suc n) (λ j lt. not_past test k (suc j) (omega (arith, e, lt))) in
          let same : count_to test k ≡ count_to test (suc n) = ap (count_to test) e in
          omega (arith, none, same))
      | inr apart ↦ (
          let up : k ≤ n = omega (arith, le, apart) in
          let rest = count_split test k n up in
          ap (λ b. cond b (suc (count_to (past test k) n)) (count_to (past test k) n) + count_to test k)
          (is_past test k (suc n) (omega (arith, up)))
          ∙ one_more (test (suc n)) (count_to (past test k) n) (count_to test k) (count_to test n) rest)
    ]

-- no fewer are counted up to more
pub count_grows : (test : ℕ → Bool) (k n : ℕ) → k ≤ n → count_to test k ≤ count_to test n
count_grows test k n le = (let all = count_split test k n le in omega (arith, all))

pub count_step : (test : ℕ → Bool) (k : ℕ) (b : Bool) → 0 < k → test k ≡ b →
    count_to test k ≡ cond b (suc (count_to test (k - 1))) (count_to test (k - 1))
count_step test zero b lt is = absurd (omega (arith, lt))
count_step test (suc k) b lt is =
    let back : k ≡ suc k - 1 = omega arith in
    ap (λ t. cond t (suc (count_to test k)) (count_to test k)) is
    ∙ ap (λ m. cond b (suc (count_to test m)) (count_to test m)) back

-- ---- the lowest

-- one number down
pub lowest_down : (test : ℕ → Bool) (k n : ℕ) (b : Bool) (o o2 : Option ℕ) → IsLowest test k n o → 0 < k → k ≤ n →
    test k ≡ b → o2 ≡ cond b (Some k) o → IsLowest test (k - 1) n o2
lowest_down test k n true o o2 low lt le is at =
    subst (IsLowest test (k - 1) n) (sym at) (record {
      past = omega (arith, lt);
      within = le;
      passes = is;
      before = λ j more less. absurd (omega (arith, more, less));
    })
lowest_down test k n false None o2 low lt le is at =
    subst (IsLowest test (k - 1) n) (sym at)
    (λ j more upto. elim (cases_eq j k) as (λ _. test j ≡ false) [
      | inl e ↦ ap test e ∙ is
      | inr apart ↦ low j (omega (arith, more, apart)) upto
    ])
lowest_down test k n false (Some m) o2 low lt le is at =
    let past_k = low.past in
    subst (IsLowest test (k - 1) n) (sym at) (record {
      past = omega (arith, past_k);
      within = low.within;
      passes = low.passes;
      before = λ j more less. elim (cases_eq j k) as (λ _. test j ≡ false) [
        | inl e ↦ ap test e ∙ is
        | inr apart ↦ low.before j (omega (arith, more, apart)) less
      ];
    })

-- ---- one piece

-- how many marked pieces past k were last given behind so many givings
abbrev pub marked_past : ℕ → ℕ → List Bool → (ℕ → ℕ) → ℕ → ℕ → ℕ
marked_past acked given soft order k o =
    count_to (is_marked_past acked soft order o) given - count_to (is_marked_past acked soft order o) k

pub acked_at : (acked : ℕ) (soft : List Bool) (k : ℕ) (b : Bool) → acked < k → get_or soft (k - suc acked) false ≡ b →
    is_acked_by acked soft k ≡ b
acked_at acked soft k b lt is =
    let back : k ≡ suc (acked + (k - suc acked)) = omega (arith, lt) in
    ap (is_acked_by acked soft) back ∙ known_high acked soft (k - suc acked) ∙ is

pub overtaken_here : (acked given k : ℕ) (soft : List Bool) (order : ℕ → ℕ) (latest : Latest) → acked < k →
    k ≤ given → get_or soft (k - suc acked) false ≡ false →
    Counts latest (order (k - suc acked)) (marked_past acked given soft order k (order (k - suc acked))) →
    is_overtaken_by acked soft order given k ≡ nat_lt (order (k - suc acked)) latest.third
overtaken_here acked given k soft order latest lt le mark counts =
    let o = order (k - suc acked) in
    let split = count_split (is_marked_past acked soft order o) k given le in
    let is : count_to (overtakes_by acked soft order k) given ≡ marked_past acked given soft order k o = (
    omega (arith, split)) in
    (λ i. not (acked_at acked soft k false lt mark i) && nat_le 3 (is i)) ∙ sym counts.third

pub late_here : (acked k since : ℕ) (soft : List Bool) (order : ℕ → ℕ) → acked < k →
    get_or soft (k - suc acked) false ≡ false →
    is_late_by acked soft order since k ≡ nat_le (order (k - suc acked)) since
late_here acked k since soft order lt mark =
    λ i. not (acked_at acked soft k false lt mark i) && nat_le (order (k - suc acked)) since

pub under_way_here : (acked k since : ℕ) (soft : List Bool) (order : ℕ → ℕ) → acked < k →
    get_or soft (k - suc acked) false ≡ false →
    is_under_way_by acked soft order since k ≡ nat_lt since (order (k - suc acked))
under_way_here acked k since soft order lt mark =
    λ i. not (acked_at acked soft k false lt mark i) && nat_lt since (order (k - suc acked))

-- one that is marked is none of these
pub marked_here : (acked k : ℕ) (soft : List Bool) (b : Bool) → acked < k → get_or soft (k - suc acked) false ≡ true →
    (not (is_acked_by acked soft k) && b) ≡ false
marked_here acked k soft b lt mark = λ i. not (acked_at acked soft k true lt mark i) && b

module _ (acked given k : ℕ) (soft : List Bool) (order : ℕ → ℕ) (latest : Latest) where
  -- the counts of those past it, where it is marked, or isn't
  pub counts_here : (next : Latest) → 0 < k → k ≤ given → get_or soft (k - suc acked) false ≡ true
      → ((o n : ℕ) → Counts latest o n → o < order (k - suc acked) → Counts next o (suc n))
      → ((o n : ℕ) → Counts latest o n → order (k - suc acked) ≤ o → Counts next o n) → (o : ℕ)
      → Counts latest o (marked_past acked given soft order k o)
      → Counts next o (marked_past acked given soft order (k - 1) o)
  counts_here next lt le mark above below o counts =
      let test = is_marked_past acked soft order o in
      let grows = count_grows test k given le in
      elim (cases_lt o (order (k - suc acked))) as (λ _. Counts next o (marked_past acked given soft order (k - 1) o)) [
        | inl less ↦ (
            let yes : nat_lt o (order (k - suc acked)) ≡ true = grind (arith, nat_tests, less) in
            let step = count_step test k true lt (λ i. mark i && yes i) in
            let is : suc (marked_past acked given soft order k o) ≡ marked_past acked given soft order (k - 1) o = (
            omega (arith, step, grows)) in
            subst (Counts next o) is (above o (marked_past acked given soft order k o) counts less))
        | inr upto ↦ (
            let no : nat_lt o (order (k - suc acked)) ≡ false = grind (arith, nat_tests, upto) in
            let step = count_step test k false lt (λ i. mark i && no i) in
            let is : marked_past acked given soft order k o ≡ marked_past acked given soft order (k - 1) o = (
            omega (arith, step, grows)) in
            subst (Counts next o) is (below o (marked_past acked given soft order k o) counts upto))
      ]

  pub counts_unmarked : 0 < k → k ≤ given → get_or soft (k - suc acked) false ≡ false → (o : ℕ)
      → Counts latest o (marked_past acked given soft order k o)
      → Counts latest o (marked_past acked given soft order (k - 1) o)
  counts_unmarked lt le mark o counts =
      let test = is_marked_past acked soft order o in
      let step = count_step test k false lt (λ i. mark i && nat_lt o (order (k - suc acked))) in
      let is : marked_past acked given soft order k o ≡ marked_past acked given soft order (k - 1) o = (
      omega (arith, step)) in
      subst (Counts latest o) is counts

pub counts_none : (latest : Latest) (o n : ℕ) → latest.first ≡ 0 → latest.second ≡ 0 → latest.third ≡ 0 → n ≡ 0 →
    Counts latest o n
counts_none latest o n one two three none =
    record {
      first = grind (arith, nat_tests, one, none);
      second = grind (arith, nat_tests, two, none);
      third = grind (arith, nat_tests, three, none);
    }

-- ---- one piece down

-- what was seen of the pieces past k
pub record LooksPast (acked given since : ℕ) (soft : List Bool) (order : ℕ → ℕ) (k : ℕ) (lost : Lost)
    (latest : Latest) : Type 0 where
  pub least : acked ≤ k
  pub most : k ≤ given
  pub few : lost.under_way + k ≤ given
  pub overtaken : IsLowest (is_overtaken_by acked soft order given) k given lost.overtaken
  pub late : IsLowest (is_late_by acked soft order since) k given lost.late
  pub under_way : lost.under_way + count_to (is_under_way_by acked soft order since) k
      ≡ count_to (is_under_way_by acked soft order since) given
  pub counts : (o : ℕ) → Counts latest o (marked_past acked given soft order k o)

pub looks_none : (acked given since : ℕ) (soft : List Bool) (order : ℕ → ℕ) (lost : Lost) (latest : Latest) →
    acked ≤ given → lost ≡ record { overtaken = None; late = None; under_way = 0 } → latest.first ≡ 0 →
    latest.second ≡ 0 → latest.third ≡ 0 → LooksPast acked given since soft order given lost latest
looks_none acked given since soft order lost latest le is one two three =
    subst (λ (l : Lost). LooksPast acked given since soft order given l latest) (sym is) (record {
      least = le;
      most = omega arith;
      few = omega arith;
      overtaken = λ j more upto. absurd (omega (arith, more, upto));
      late = λ j more upto. absurd (omega (arith, more, upto));
      under_way = omega arith;
      counts = λ o. counts_none latest o (marked_past acked given soft order given o) one two three (omega arith);
    })

module _ (acked given since : ℕ) (soft : List Bool) (order : ℕ → ℕ) (k : ℕ) (lost : Lost) where
  pub looks_same : (now : Lost) (latest next : Latest) → now ≡ lost → next ≡ latest
      → LooksPast acked given since soft order k lost latest → LooksPast acked given since soft order k now next
  looks_same now latest next is next_is so =
      subst (λ (l : Lost). LooksPast acked given since soft order k l next) (sym is)
      (subst (LooksPast acked given since soft order k lost) (sym next_is) so)

  -- a piece that is marked
  pub looks_marked : (latest next : Latest) → LooksPast acked given since soft order k lost latest → acked < k
      → get_or soft (k - suc acked) false ≡ true
      → ((o n : ℕ) → Counts latest o n → o < order (k - suc acked) → Counts next o (suc n))
      → ((o n : ℕ) → Counts latest o n → order (k - suc acked) ≤ o → Counts next o n)
      → LooksPast acked given since soft order (k - 1) lost next
  looks_marked latest next so lt mark above below =
      let some : 0 < k = omega (arith, lt) in
      let most = so.most in
      let few = so.few in
      let way = so.under_way in
      let overtaken = is_overtaken_by acked soft order given in
      let late = is_late_by acked soft order since in
      let on_way = is_under_way_by acked soft order since in
      let count = (
      count_step on_way k false some (marked_here acked k soft (nat_lt since (order (k - suc acked))) lt mark)) in
      record {
        least = omega (arith, lt);
        most = omega (arith, most);
        few = omega (arith, few);
        overtaken = lowest_down overtaken k given false lost.overtaken lost.overtaken so.overtaken some most
            (marked_here acked k soft (nat_le 3 (count_to (overtakes_by acked soft order k) given)) lt mark) refl;
        late = lowest_down late k given false lost.late lost.late so.late some most
            (marked_here acked k soft (nat_le (order (k - suc acked)) since) lt mark) refl;
        under_way = omega (arith, way, count);
        counts = λ o. counts_here acked given k soft order latest next some most mark above below o (so.counts o);
      }

way_on : (b : Bool) (n a c : ℕ) → n + cond (not b) (suc c) c ≡ a → cond b n (n + 1) + c ≡ a
way_on true n a c is = is
way_on false n a c is = omega (arith, is)

way_few : (b : Bool) (n k given : ℕ) → n + k ≤ given → 0 < k → cond b n (n + 1) + (k - 1) ≤ given
way_few true n k given le lt = omega (arith, le, lt)
way_few false n k given le lt = omega (arith, le, lt)

not_late : (o since : ℕ) → nat_lt since o ≡ not (nat_le o since)
not_late o since = grind (arith, nat_tests)

module _ (acked given since : ℕ) (soft : List Bool) (order : ℕ → ℕ) (k : ℕ) (lost next : Lost) (latest : Latest) where
  -- one that isn't
  pub looks_unmarked : LooksPast acked given since soft order k lost latest → acked < k
      → get_or soft (k - suc acked) false ≡ false
      → next.overtaken ≡ cond (nat_lt (order (k - suc acked)) latest.third) (Some k) lost.overtaken
      → next.late ≡ cond (nat_le (order (k - suc acked)) since) (Some k) lost.late
      → next.under_way ≡ cond (nat_le (order (k - suc acked)) since) lost.under_way (lost.under_way + 1)
      → LooksPast acked given since soft order (k - 1) next latest
  looks_unmarked so lt mark overtaken_is late_is way_is =
      let some : 0 < k = omega (arith, lt) in
      let most = so.most in
      let way = so.under_way in
      let o = order (k - suc acked) in
      let overtaken = is_overtaken_by acked soft order given in
      let late = is_late_by acked soft order since in
      let on_way = is_under_way_by acked soft order since in
      let count = (
      count_step on_way k (not (nat_le o since)) some
      (under_way_here acked k since soft order lt mark ∙ not_late o since)) in
      record {
        least = omega (arith, lt);
        most = omega (arith, most);
        few = subst (λ n. n + (k - 1) ≤ given) (sym way_is)
            (way_few (nat_le o since) lost.under_way k given so.few some);
        overtaken = lowest_down overtaken k given (nat_lt o latest.third) lost.overtaken next.overtaken so.overtaken
            some
            most (overtaken_here acked given k soft order latest lt most mark (so.counts o)) overtaken_is;
        late = lowest_down late k given (nat_le o since) lost.late next.late so.late some most
            (late_here acked k since soft order lt mark) late_is;
        under_way = ap (λ n. n + count_to on_way (k - 1)) way_is
            ∙ way_on (nat_le o since) lost.under_way (count_to on_way given) (count_to on_way (k - 1))
            (ap (λ n. lost.under_way + n) (sym count) ∙ way);
        counts = λ q. counts_unmarked acked given k soft order latest some most mark q (so.counts q);
      }

pub under_acked : (acked since : ℕ) (soft : List Bool) (order : ℕ → ℕ) →
    count_to (is_under_way_by acked soft order since) acked ≡ 0
under_acked acked since soft order =
    count_nothing (is_under_way_by acked soft order since) acked
    (λ j lt. ap (λ b. not b && nat_lt since (order (suc j - suc acked)))
    (known_low acked soft (suc j) (omega (arith, lt))))

-- at the hard acknowledged ones all were seen
pub looks_all : (acked given since : ℕ) (soft : List Bool) (order : ℕ → ℕ) (k : ℕ) (lost : Lost) (latest : Latest) →
    LooksPast acked given since soft order k lost latest → k ≤ acked → AreLost acked given since soft order lost
looks_all acked given since soft order k lost latest so le =
    let least = so.least in
    let at : k ≡ acked = omega (arith, least, le) in
    let overtaken = is_overtaken_by acked soft order given in
    let late = is_late_by acked soft order since in
    let on_way = is_under_way_by acked soft order since in
    let way = so.under_way in
    let none : count_to on_way k ≡ 0 = ap (count_to on_way) at ∙ under_acked acked since soft order in
    record {
      overtaken = subst (λ n. IsLowest overtaken n given lost.overtaken) at so.overtaken;
      late = subst (λ n. IsLowest late n given lost.late) at so.late;
      under_way = omega (arith, way, none);
    }
