-- The order of a queue's keys, behind each change of their numbers.
use Rattle.std.proofs.Common.{◌≡◌, ◌≢◌, ◌<◌, ◌≤◌, ◌+◌, ◌-◌, ◌==◌, ◌||◌, ◌++◌, ◌∷◌, ◌⊎◌, inl, inr, ℕ, zero, suc, cond}
use Rattle.std.proofs.Common.{if◌then◌else◌}
use Rattle.std.proofs.Common.{Bool, true, false, List, [], Option, Some, None, refl, ◌∙◌, ap, sym, subst, arith}
use Rattle.std.proofs.Common.{is_some}
use Rattle.std.proofs.Common.{not, filter}
use Rattle.std.specs.List.{cons_option, filter_map, find, list_any}
use Rattle.std.specs.Option.{option_or}
use Rattle.std.proofs.lemmas.Bool.Decides.{nat_tests}
use Rattle.std.proofs.lemmas.List.Folds.{find-append, list_any-append}
use Rattle.std.proofs.lemmas.List.Elements.{filter-append}
use Rattle.rx_due.specs.Book.{moment_of}
use Rattle.rx_queue.specs.Counts.{IsApart, key_at, order_of, upto}
use Rattle.rx_queue.proofs.Keys.{Changes, key_has, key_is, key_none, key_same, mapped_below, mapped_more, split_key}

append-none : {X : Type 0} (xs : List X) → xs ++ [] ≡ xs
append-none [] = refl
append-none (x ∷ xs) = ap (λ (ys : List _). x ∷ ys) (append-none xs)

-- where two numbers stand to each other
module _ where
  three : (m n : ℕ) → (m < n) ⊎ ((m ≡ n) ⊎ (n < m))
  three zero zero = inr (inl refl)
  three zero (suc n) = inl (omega arith)
  three (suc m) zero = inr (inr (omega arith))
  three (suc m) (suc n) = of (three m n)
    where
      of : (m < n) ⊎ ((m ≡ n) ⊎ (n < m)) → (suc m < suc n) ⊎ ((suc m ≡ suc n) ⊎ (suc n < suc m))
      of (inl less) = inl (omega (arith, less))
      of (inr (inl same)) = inr (inl (ap (λ (k : ℕ). suc k) same))
      of (inr (inr more)) = inr (inr (omega (arith, more)))

-- ---- a key comes last

pub order_push : (cs ds : List (Option ℕ)) (k next : ℕ) → IsApart cs → IsApart ds
    → ((q n : ℕ) → moment_of cs q ≡ Some n → n < next) → moment_of cs k ≡ None → Changes cs ds k (Some next)
    → order_of ds (suc next) ≡ order_of cs next ++ k ∷ []
order_push cs ds k next apart bpart below none c =
    mapped_more (key_at ds) next
    ∙ (λ i. mapped_below (key_at ds) (key_at cs) next same i ++ cons_option (key_is ds next k bpart c.here i) [])
  where
    same : (n : ℕ) → n < next → key_at ds n ≡ key_at cs n
    same n low = key_same cs ds n apart bpart to from
      where
        to : (q : ℕ) → moment_of cs q ≡ Some n → moment_of ds q ≡ Some n
        to q is = c.others q (λ at. absurd (let there = sym is ∙ ap (moment_of cs) at ∙ none in cc (there))) ∙ is

        from : (q : ℕ) → moment_of ds q ≡ Some n → moment_of cs q ≡ Some n
        from q is = split_key cs ds k q n (Some next) c is (moment_of cs q ≡ Some n)
            (λ at own. absurd (let there : next ≡ n = cc (own) in omega (arith, there, low))) (λ ne was. was)

-- ---- a key goes

-- what is there, where it isn't that key
abbrev without : ℕ → Option ℕ → Option ℕ
without k None = None
without k (Some q) = if not (q == k) then Some q else None

mapped-without : (k : ℕ) (f : ℕ → Option ℕ) (n : ℕ)
    → filter_map (λ i. without k (f i)) (upto n) ≡ filter (λ q. not (q == k)) (filter_map f (upto n))
unfolding upto
mapped-without k f zero = refl
mapped-without k f (suc n) =
    mapped_more (λ i. without k (f i)) n
    ∙ (λ i. mapped-without k f n i ++ last (f n) i)
    ∙ sym (filter-append (λ q. not (q == k)) (filter_map f (upto n)) (cons_option (f n) []))
    ∙ ap (filter (λ q. not (q == k))) (sym (mapped_more f n))
  where
    last : (o : Option ℕ) → cons_option (without k o) [] ≡ filter (λ q. not (q == k)) (cons_option o [])
    last None = refl
    last (Some q) = (elim (q == k) as (λ b. cons_option (if not b then Some q else None) []
        ≡ cond (not b) (q ∷ []) []) [
          | true ↦ refl
          | false ↦ refl
        ])

pub order_without : (cs ds : List (Option ℕ)) (k next : ℕ) → IsApart cs → IsApart ds → Changes cs ds k None
    → order_of ds next ≡ filter (λ q. not (q == k)) (order_of cs next)
order_without cs ds k next apart bpart c =
    mapped_below (key_at ds) (λ n. without k (key_at cs n)) next (λ n low. same n)
    ∙ mapped-without k (key_at cs) next
  where
    same : (n : ℕ) → key_at ds n ≡ without k (key_at cs n)
    same n = of (key_at cs n) refl
      where
        kept : (q : ℕ) → key_at cs n ≡ Some q → q ≢ k → key_at ds n ≡ Some q
        kept q found ne = key_is ds n q bpart (c.others q ne ∙ key_has cs n q found)

        gone : (q : ℕ) → key_at cs n ≡ Some q → q ≡ k → key_at ds n ≡ None
        gone q found at = key_none ds n (λ p is. split_key cs ds k p n None c is ⊥
            (λ own none. cc (none))
            (λ ne was. ne (apart p q n was (key_has cs n q found) ∙ at)))

        by : (q : ℕ) (b : Bool) → (q == k) ≡ b → key_at cs n ≡ Some q
            → key_at ds n ≡ (if not b then Some q else None)
        by q true at found = gone q found (grind (arith, nat_tests))
        by q false at found = kept q found (grind (arith, nat_tests))

        of : (o : Option ℕ) → key_at cs n ≡ o → key_at ds n ≡ without k o
        of None found = key_none ds n (λ p is. split_key cs ds k p n None c is ⊥ (λ own none. cc (none))
            (λ ne was. (let there = sym found ∙ key_is cs n p apart was in cc (there))))
        of (Some q) found = by q (q == k) refl found

-- ---- a key's number falls past none

module _ (cs ds : List (Option ℕ)) (k low high : ℕ) (apart : IsApart cs) (bpart : IsApart ds)
    (was : moment_of cs k ≡ Some high) (c : Changes cs ds k (Some low))
    (empty : (q n : ℕ) → moment_of cs q ≡ Some n → low ≤ n → n < high → ⊥) (falls : low ≤ high) where
  -- elsewhere the same keys have each number
  aside : (n : ℕ) → n ≢ low → n ≢ high → key_at ds n ≡ key_at cs n
  aside n nlow nhigh = key_same cs ds n apart bpart to from
    where
      to : (q : ℕ) → moment_of cs q ≡ Some n → moment_of ds q ≡ Some n
      to q is = c.others q (λ at. nhigh (let there = sym is ∙ ap (moment_of cs) at ∙ was in
          let same : n ≡ high = cc (there) in same)) ∙ is

      from : (q : ℕ) → moment_of ds q ≡ Some n → moment_of cs q ≡ Some n
      from q is = split_key cs ds k q n (Some low) c is (moment_of cs q ≡ Some n)
          (λ at own. absurd (nlow (let there : low ≡ n = cc (own) in sym there))) (λ ne before. before)

  -- and where it is the one that it was, all are
  still : low ≡ high → (n : ℕ) → key_at ds n ≡ key_at cs n
  still same n = key_same cs ds n apart bpart to from
    where
      to : (q : ℕ) → moment_of cs q ≡ Some n → moment_of ds q ≡ Some n
      to q is = of (q == k) refl
        where
          of : (b : Bool) → (q == k) ≡ b → moment_of ds q ≡ Some n
          of true at = (let own : q ≡ k = grind (arith, nat_tests) in
              ap (moment_of ds) own ∙ c.here ∙ ap (λ (x : ℕ). Some x) same ∙ sym was ∙ ap (moment_of cs) (sym own) ∙ is)
          of false at = (let ne : q ≢ k = grind (arith, nat_tests) in c.others q ne ∙ is)

      from : (q : ℕ) → moment_of ds q ≡ Some n → moment_of cs q ≡ Some n
      from q is = split_key cs ds k q n (Some low) c is (moment_of cs q ≡ Some n)
          (λ at own. ap (moment_of cs) at ∙ was ∙ ap (λ (x : ℕ). Some x) (sym same) ∙ own) (λ ne before. before)

  module _ (less : low < high) where
    none-low : key_at cs low ≡ None
    none-low = key_none cs low (λ q is. empty q low is (omega arith) less)

    none-high : key_at ds high ≡ None
    none-high = key_none ds high (λ q is. split_key cs ds k q high (Some low) c is ⊥
        (λ at own. (let there : low ≡ high = cc (own) in omega (arith, there, less)))
        (λ ne before. ne (apart q k high before was)))

    none-between : (n : ℕ) → low < n → n < high → key_at cs n ≡ None
    none-between n from to = key_none cs n (λ q is. empty q n is (omega (arith, from)) to)

    -- up to the number that it has now
    before : (n : ℕ) → n ≤ low → order_of ds n ≡ order_of cs n
    before n to = mapped_below (key_at ds) (key_at cs) n
        (λ i under. aside i (omega (arith, under, to)) (omega (arith, under, to, less)))

    -- up to the one that it had
    between : (d : ℕ) → low + suc d ≤ high → order_of ds (suc (low + d)) ≡ order_of cs (suc (low + d)) ++ k ∷ []
    between zero to =
        (let at : low + 0 ≡ low = omega arith in
        mapped_more (key_at ds) (low + 0)
        ∙ (λ i. before (low + 0) (omega arith) i
        ++ cons_option ((ap (key_at ds) at ∙ key_is ds low k bpart c.here) i) [])
        ∙ ap (λ (xs : List ℕ). xs ++ k ∷ []) (sym (mapped_more (key_at cs) (low + 0)
        ∙ (λ i. order_of cs (low + 0) ++ cons_option ((ap (key_at cs) at ∙ none-low) i) [])
        ∙ append-none (order_of cs (low + 0)))))
    between (suc d) to =
        (let n : ℕ = low + suc d in
        let step : suc (low + d) ≡ low + suc d = omega arith in
        let none = none-between n (omega arith) (omega (arith, to)) in
        let other = aside n (omega arith) (omega (arith, to)) ∙ none in
        mapped_more (key_at ds) n
        ∙ (λ i. order_of ds n ++ cons_option (other i) [])
        ∙ append-none (order_of ds n)
        ∙ subst (λ (m : ℕ). order_of ds m ≡ order_of cs m ++ k ∷ []) step (between d (omega (arith, to)))
        ∙ ap (λ (xs : List ℕ). xs ++ k ∷ []) (sym (mapped_more (key_at cs) n
        ∙ (λ i. order_of cs n ++ cons_option (none i) []) ∙ append-none (order_of cs n))))

    -- past both
    past : (d : ℕ) → order_of ds (suc (high + d)) ≡ order_of cs (suc (high + d))
    past zero =
        (let at : high + 0 ≡ high = omega arith in
        let gap : ℕ = high - suc low in
        let reach : suc (low + gap) ≡ high + 0 = omega (arith, less) in
        mapped_more (key_at ds) (high + 0)
        ∙ (λ i. order_of ds (high + 0) ++ cons_option ((ap (key_at ds) at ∙ none-high) i) [])
        ∙ append-none (order_of ds (high + 0))
        ∙ subst (λ (m : ℕ). order_of ds m ≡ order_of cs m ++ k ∷ []) reach (between gap (omega (arith, less)))
        ∙ sym (mapped_more (key_at cs) (high + 0)
        ∙ (λ i. order_of cs (high + 0) ++ cons_option ((ap (key_at cs) at ∙ key_is cs high k apart was) i) [])))
    past (suc d) =
        (let n : ℕ = high + suc d in
        let step : suc (high + d) ≡ high + suc d = omega arith in
        mapped_more (key_at ds) n
        ∙ (λ i. subst (λ (m : ℕ). order_of ds m ≡ order_of cs m) step (past d) i
        ++ cons_option (aside n (omega (arith, less)) (omega arith) i) [])
        ∙ sym (mapped_more (key_at cs) n))

  pub order_falls : (next : ℕ) → high < next → order_of ds next ≡ order_of cs next
  order_falls next far = of (three low high)
    where
      of : (low < high) ⊎ ((low ≡ high) ⊎ (high < low)) → order_of ds next ≡ order_of cs next
      of (inl less) =
          (let d : ℕ = next - suc high in let reach : suc (high + d) ≡ next = omega (arith, far) in
          subst (λ (m : ℕ). order_of ds m ≡ order_of cs m) reach (past less d))
      of (inr (inl same)) = mapped_below (key_at ds) (key_at cs) next (λ n under. still same n)
      of (inr (inr more)) = absurd (omega (arith, more, falls))

-- ---- the next number falls past none

pub order_less : (cs : List (Option ℕ)) (low d : ℕ) → ((q n : ℕ) → moment_of cs q ≡ Some n → n < low)
    → order_of cs (low + d) ≡ order_of cs low
order_less cs low zero below = (let at : low + 0 ≡ low = omega arith in ap (order_of cs) at)
order_less cs low (suc d) below =
    (let step : low + suc d ≡ suc (low + d) = omega arith in
    let none = key_none cs (low + d) (λ q is. (let under = below q (low + d) is in omega (arith, under))) in
    ap (order_of cs) step
    ∙ mapped_more (key_at cs) (low + d)
    ∙ (λ i. order_of cs (low + d) ++ cons_option (none i) [])
    ∙ append-none (order_of cs (low + d))
    ∙ order_less cs low d below)

-- ---- which keys are in it

any-one : (k : ℕ) (o : Option ℕ) → o ≡ Some k → list_any (λ q. q == k) (cons_option o []) ≡ true
any-one k None is = absurd (cc (is))
any-one k (Some q) is =
    (let same : q ≡ k = cc (is) in let test : (q == k) ≡ true = grind (arith, nat_tests) in ap
    (λ (b : Bool). b || false) test)

or-right : (a b : Bool) → b ≡ true → (a || b) ≡ true
or-right true b is = refl
or-right false b is = is

or-left : (a b : Bool) → a ≡ true → (a || b) ≡ true
or-left true b is = refl
or-left false b is = absurd (cc (is))

-- one that has a number
pub listed_by : (cs : List (Option ℕ)) (k n next : ℕ) → IsApart cs → moment_of cs k ≡ Some n → n < next
    → list_any (λ q. q == k) (order_of cs next) ≡ true
unfolding upto
listed_by cs k n zero apart is low = absurd (omega (arith, low))
listed_by cs k n (suc m) apart is low =
    ap (list_any (λ q. q == k)) (mapped_more (key_at cs) m)
    ∙ list_any-append (λ q. q == k) (order_of cs m) (cons_option (key_at cs m) [])
    ∙ of (three n m) (λ less. listed_by cs k n m apart is less)
  where
    of : (n < m) ⊎ ((n ≡ m) ⊎ (m < n)) → (n < m → list_any (λ q. q == k) (order_of cs m) ≡ true)
        → (list_any (λ q. q == k) (order_of cs m)
        || list_any (λ q. q == k) (cons_option (key_at cs m) [])) ≡ true
    of (inl less) before = or-left (list_any (λ q. q == k) (order_of cs m)) _ (before less)
    of (inr (inl same)) before = or-right (list_any (λ q. q == k) (order_of cs m)) _
        (any-one k (key_at cs m) (ap (key_at cs) (sym same) ∙ key_is cs n k apart is))
    of (inr (inr more)) before = absurd (omega (arith, more, low))

-- no other
pub listed_not : (cs : List (Option ℕ)) (k next : ℕ) → moment_of cs k ≡ None
    → list_any (λ q. q == k) (order_of cs next) ≡ false
unfolding upto
listed_not cs k zero none = refl
listed_not cs k (suc m) none =
    ap (list_any (λ q. q == k)) (mapped_more (key_at cs) m)
    ∙ list_any-append (λ q. q == k) (order_of cs m) (cons_option (key_at cs m) [])
    ∙ (λ i. listed_not cs k m none i || last (key_at cs m) refl i)
  where
    last : (o : Option ℕ) → key_at cs m ≡ o → list_any (λ q. q == k) (cons_option o []) ≡ false
    last None found = refl
    last (Some q) found = by (q == k) refl
      where
        by : (b : Bool) → (q == k) ≡ b → (b || false) ≡ false
        by true test = absurd (let same : q ≡ k = grind (arith, nat_tests) in
            let there = sym (key_has cs m q found) ∙ ap (moment_of cs) same ∙ none in cc (there))
        by false test = refl

-- ---- the first that is ready

find-none : {X : Type 0} (p : X → Bool) (xs : List X) → ((x : X) → p x ≡ false) → find p xs ≡ None
find-none p [] none = refl
find-none p (x ∷ xs) none = ap (λ (b : Bool). cond b (Some x) (find p xs)) (none x) ∙ find-none p xs none

-- none is
pub first_none : (ready order : List _) → ((q : ℕ) → moment_of ready q ≡ None)
    → find (λ q. is_some (moment_of ready q)) order ≡ None
first_none ready order none = find-none (λ q. is_some (moment_of ready q)) order
    (λ q. ap (λ (o : Option ℕ). is_some o) (none q))

module _ (cs ready : List (Option ℕ)) (k m : ℕ) (apart : IsApart cs)
    (told : (q n : ℕ) → moment_of ready q ≡ Some n → moment_of cs q ≡ Some n) (there : moment_of ready k ≡ Some m)
    (least : (q n : ℕ) → moment_of ready q ≡ Some n → m ≤ n) where
  abbrev test : ℕ → Bool
  test q = is_some (moment_of ready q)

  unready : (n : ℕ) → n < m → find test (cons_option (key_at cs n) []) ≡ None
  unready n low = of (key_at cs n) refl
    where
      of : (o : Option ℕ) → key_at cs n ≡ o → find test (cons_option o []) ≡ None
      of None found = refl
      of (Some q) found = by (moment_of ready q) refl
        where
          by : (r : Option ℕ) → moment_of ready q ≡ r → cond (is_some r) (Some q) None ≡ None
          by None is = refl
          by (Some i) is = absurd (let its = sym (told q i is) ∙ key_has cs n q found in
              let same : i ≡ n = cc (its) in let more = least q i is in omega (arith, same, more, low))

  none-before : (n : ℕ) → n ≤ m → find test (order_of cs n) ≡ None
  unfolding upto
  none-before zero low = refl
  none-before (suc n) low =
      ap (find test) (mapped_more (key_at cs) n)
      ∙ find-append test (order_of cs n) (cons_option (key_at cs n) [])
      ∙ (λ i. option_or (none-before n (omega (arith, low)) i) (unready n (omega (arith, low)) i))

  -- that of the least number
  pub first_found : (d : ℕ) → find test (order_of cs (suc (m + d))) ≡ Some k
  first_found zero =
      (let at : m + 0 ≡ m = omega arith in
      ap (find test) (mapped_more (key_at cs) (m + 0))
      ∙ find-append test (order_of cs (m + 0)) (cons_option (key_at cs (m + 0)) [])
      ∙ (λ i. option_or (none-before (m + 0) (omega arith) i)
      (find test (cons_option ((ap (key_at cs) at ∙ key_is cs m k apart (told k m there)) i) [])))
      ∙ ap (λ (o : Option ℕ). cond (is_some o) (Some k) None) there)
  first_found (suc d) =
      (let n : ℕ = m + suc d in
      let step : suc (m + d) ≡ m + suc d = omega arith in
      ap (find test) (mapped_more (key_at cs) n)
      ∙ find-append test (order_of cs n) (cons_option (key_at cs n) [])
      ∙ (λ i. option_or (subst (λ (j : ℕ). find test (order_of cs j) ≡ Some k) step (first_found d) i)
      (find test (cons_option (key_at cs n) []))))
