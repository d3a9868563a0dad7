-- One key is given its new number: the least of those that are ready.
use Rattle.std.proofs.Common.{◌++◌, ◌^◌, ◌-◌, nat_le, ◌≡◌, ◌≢◌, ◌<◌, ◌≤◌, ◌+◌, ◌==◌, ◌⊎◌, inl, inr, ℕ, zero, suc, cond}
use Rattle.std.proofs.Common.{Bool, true, false, List, []}
use Rattle.std.proofs.Common.{◌∷◌, Option, Some, None, refl, ◌∙◌, ap, sym, subst, arith, is_some, length}
use Rattle.std.specs.Prelude.{slice_index_or, slice_set, take}
use Rattle.std.specs.List.{list_any}
use Rattle.std.proofs.lemmas.Bool.{false≢true}
use Rattle.std.proofs.lemmas.Bool.Decides.{nat_tests}
use Rattle.std.proofs.lemmas.List.{get_or-set_other, get_or-set_same}
use Rattle.std.proofs.lemmas.List.Sums.{sum_by-set}
use Rattle.rx_due.specs.Book.{IsLeast, entries_of, moment_of}
use Rattle.rx_queue.specs.Counts.{IsApart, IsQueue, order_of}
use Rattle.rx_queue.proofs.Keys.{Changes, split_key}
use Rattle.rx_queue.proofs.Orders.{listed_by, order_falls, order_less, order_push}

-- ---- one cell is written

pub within : (xs : List (Option ℕ)) (k n : ℕ) → moment_of xs k ≡ Some n → k < length xs
within [] k n is = absurd (cc (is))
within (x ∷ xs) zero n is = omega arith
within (x ∷ xs) (suc k) n is = (let low = within xs k n is in omega (arith, low))

pub length_set : (xs : List (Option ℕ)) (j : ℕ) (v : Option ℕ) → length (slice_set xs j v) ≡ length xs
length_set [] j v = refl
length_set (x ∷ xs) zero v = refl
length_set (x ∷ xs) (suc j) v = ap (λ (n : ℕ). suc n) (length_set xs j v)

-- what is there, whatever stands for what isn't
pub at_index : (xs : List (Option ℕ)) (k : ℕ) (d : Option ℕ) → k < length xs → moment_of xs k ≡ slice_index_or xs k d
at_index [] k d low = absurd (omega (arith, low))
at_index (x ∷ xs) zero d low = refl
at_index (x ∷ xs) (suc k) d low = at_index xs k d (omega (arith, low))

pub changes_set : (cs : List (Option ℕ)) (k : ℕ) (v : Option ℕ) → k < length cs → Changes cs (slice_set cs k v) k v
changes_set cs k v low =
    record {
      here = get_or-set_same cs k v None low;
      others = λ q ne. get_or-set_other cs k q v None ne;
    }

-- a key that goes leaves the others apart
pub apart_none : (cs ds : List (Option ℕ)) (k : ℕ) → IsApart cs → Changes cs ds k None → IsApart ds
apart_none cs ds k apart c p q n pis qis =
    split_key cs ds k p n None c pis (p ≡ q) (λ at own. absurd (cc (own)))
    (λ pne pwas. split_key cs ds k q n None c qis (p ≡ q) (λ at own. absurd (cc (own)))
    (λ qne qwas. apart p q n pwas qwas))

-- a new number does
pub apart_next : (cs ds : List (Option ℕ)) (k next : ℕ) → IsApart cs
    → ((q n : ℕ) → moment_of cs q ≡ Some n → n < next) → Changes cs ds k (Some next) → IsApart ds
apart_next cs ds k next apart below c p q n pis qis =
    split_key cs ds k p n (Some next) c pis (p ≡ q)
    (λ pat pown. split_key cs ds k q n (Some next) c qis (p ≡ q) (λ qat qown. pat ∙ sym qat)
    (λ qne qwas. absurd (let low = below q n qwas in let same : next ≡ n = cc (pown) in omega (arith, low, same))))
    (λ pne pwas. split_key cs ds k q n (Some next) c qis (p ≡ q)
    (λ qat qown. absurd (let low = below p n pwas in let same : next ≡ n = cc (qown) in omega (arith, low, same)))
    (λ qne qwas. apart p q n pwas qwas))

-- ---- how many are ready

pub entries_less : (book : List (Option ℕ)) (k n : ℕ) → moment_of book k ≡ Some n
    → entries_of (slice_set book k None) + 1 ≡ entries_of book
entries_less book k n is =
    (let low = within book k n is in
    let sums = sum_by-set (λ (x : Option ℕ). cond (is_some x) 1 0) book k None None low in
    let one : ◌≡◌ {A = ℕ} (cond (is_some (moment_of book k)) 1 0) 1 = ap (λ (o : Option ℕ). cond (is_some o) 1 0) is in
    omega (arith, sums, one))

pub entries_none : (book : List (Option ℕ)) → entries_of book ≡ 0 → (k : ℕ) → moment_of book k ≡ None
entries_none book none k = of (moment_of book k) refl
  where
    of : (o : Option ℕ) → moment_of book k ≡ o → o ≡ None
    of None is = refl
    of (Some n) is = absurd (let less = entries_less book k n is in omega (arith, less, none))

-- ---- a step

-- those that are ready have the numbers that they had, and the others those below
pub record Renumbers (was cs ready : List (Option ℕ)) (next count : ℕ) : Type 0 where
  pub queue : IsQueue cs ready next
  pub order : order_of cs next ≡ order_of was next
  pub same : (key : ℕ) → is_some (moment_of cs key) ≡ is_some (moment_of was key)
  pub given : (key n : ℕ) → moment_of cs key ≡ Some n → (n < count) ⊎ (moment_of ready key ≡ Some n)
  pub least : (key n : ℕ) → moment_of ready key ≡ Some n → count ≤ n
  pub few : count + entries_of ready ≤ length cs

module _ (was cs ready : List (Option ℕ)) (next count k m : ℕ) (r : Renumbers was cs ready next count)
    (first : IsLeast ready (m, k)) where
  abbrev ds : List (Option ℕ)
  ds = slice_set cs k (Some count)

  abbrev left : List (Option ℕ)
  left = slice_set ready k None

  its : moment_of cs k ≡ Some m
  its = r.queue.told k m first.there

  pub key_within : k < length cs
  key_within = within cs k m its

  c : Changes cs ds k (Some count)
  c = changes_set cs k (Some count) key_within

  gone : Changes ready left k None
  gone = changes_set ready k None (within ready k m first.there)

  falls : count ≤ m
  falls = r.least k m first.there

  -- no key has one between
  empty : (q n : ℕ) → moment_of cs q ≡ Some n → count ≤ n → n < m → ⊥
  empty q n is from to = of (r.given q n is)
    where
      of : (n < count) ⊎ (moment_of ready q ≡ Some n) → ⊥
      of (inl less) = omega (arith, less, from)
      of (inr there) = (let low = (first.least q n there).moment in omega (arith, low, to))

  -- a key with that number is that key
  only : (q : ℕ) → moment_of cs q ≡ Some count → q ≡ k
  only q is = of (r.given q count is)
    where
      of : (count < count) ⊎ (moment_of ready q ≡ Some count) → q ≡ k
      of (inl less) = absurd (omega (arith, less))
      of (inr there) = (let low = (first.least q count there).moment in
          let same : m ≡ count = omega (arith, low, falls) in
          r.queue.apart q k m (is ∙ ap (λ (x : ℕ). Some x) (sym same)) its)

  apart : IsApart ds
  apart p q n pis qis =
      split_key cs ds k p n (Some count) c pis (p ≡ q)
      (λ pat pown. split_key cs ds k q n (Some count) c qis (p ≡ q) (λ qat qown. pat ∙ sym qat)
      (λ qne qwas. absurd (qne (only q (let same : count ≡ n = cc (pown) in
      qwas ∙ ap (λ (x : ℕ). Some x) (sym same))))))
      (λ pne pwas. split_key cs ds k q n (Some count) c qis (p ≡ q)
      (λ qat qown. absurd (pne (only p (let same : count ≡ n = cc (qown) in
      pwas ∙ ap (λ (x : ℕ). Some x) (sym same)))))
      (λ qne qwas. r.queue.apart p q n pwas qwas))

  told : (q n : ℕ) → moment_of left q ≡ Some n → (q ≢ k) × (moment_of ready q ≡ Some n)
  told q n is = split_key ready left k q n None gone is ((q ≢ k) × (moment_of ready q ≡ Some n))
      (λ at own. absurd (cc (own))) (λ ne before. (ne, before))

  -- behind it
  pub renumbers_more : Renumbers was ds left next (count + 1)
  renumbers_more =
      record {
        queue = record {
          room = lengths;
          limit = (let more = r.queue.limit in let size = length_set cs k (Some count) in omega (arith, more, size));
          below = λ q n is. split_key cs ds k q n (Some count) c is (n < next)
              (λ at own. (let same : count ≡ n = cc (own) in let under = r.queue.below k m its in
              omega (arith, same, under, falls))) (λ ne before. r.queue.below q n before);
          apart = apart;
          told = λ q n is. (let both = told q n is in c.others q both.0 ∙ r.queue.told q n both.1);
        };
        order = order_falls cs ds k count m r.queue.apart apart its c empty falls next (r.queue.below k m its)
            ∙ r.order;
        same = λ q. same q (q == k) refl;
        given = λ q n is. split_key cs ds k q n (Some count) c is ((n < count + 1) ⊎ (moment_of left q ≡ Some n))
            (λ at own. inl (let same : count ≡ n = cc (own) in omega (arith, same)))
            (λ ne before. given q n ne (r.given q n before));
        least = λ q n is. least q n (told q n is);
        few = (let few = r.few in let less = entries_less ready k m first.there in
            let size = length_set cs k (Some count) in omega (arith, few, less, size));
      }
    where
      lengths : length ds ≡ length left
      lengths = length_set cs k (Some count) ∙ r.queue.room ∙ sym (length_set ready k None)

      same : (q : ℕ) (b : Bool) → (q == k) ≡ b → is_some (moment_of ds q) ≡ is_some (moment_of was q)
      same q true at = (let own : q ≡ k = grind (arith, nat_tests) in
          ap (λ (j : ℕ). is_some (moment_of ds j)) own ∙ ap (λ (o : Option ℕ). is_some o) c.here
          ∙ sym (ap (λ (o : Option ℕ). is_some o) its) ∙ r.same k ∙ ap (λ (j : ℕ). is_some (moment_of was j)) (sym own))
      same q false at = (let ne : q ≢ k = grind (arith, nat_tests) in
          ap (λ (o : Option ℕ). is_some o) (c.others q ne) ∙ r.same q)

      given : (q n : ℕ) → q ≢ k → (n < count) ⊎ (moment_of ready q ≡ Some n)
          → (n < count + 1) ⊎ (moment_of left q ≡ Some n)
      given q n ne (inl less) = inl (omega (arith, less))
      given q n ne (inr there) = inr (gone.others q ne ∙ there)

      least : (q n : ℕ) → (q ≢ k) × (moment_of ready q ≡ Some n) → count + 1 ≤ n
      least q n both =
          (let low = r.least q n both.1 in
          let other : n ≢ count = λ at. both.0 (only q (r.queue.told q n both.1 ∙ ap (λ (x : ℕ). Some x) at)) in
          omega (arith, low, other))

-- ---- the end

-- none is ready any more
pub renumbers_all : (was cs ready full : List (Option ℕ)) (next count : ℕ) → Renumbers was cs ready next count
    → entries_of ready ≡ 0 → length full ≡ length ready → ((key : ℕ) → moment_of full key ≡ moment_of cs key)
    → IsQueue cs full count × (order_of cs count ≡ order_of was next) × (count < 2 ^ 32)
renumbers_all was cs ready full next count r none size each = (
  record {
    room = r.queue.room ∙ sym size;
    limit = r.queue.limit;
    below = below;
    apart = r.queue.apart;
    told = λ key n is. sym (each key) ∙ is;
  },
  of (nat_le count next) refl,
  (let few = r.few in let limit = r.queue.limit in omega (arith, few, limit)),
)
  where
    below : (key n : ℕ) → moment_of cs key ≡ Some n → n < count
    below key n is = by (r.given key n is)
      where
        by : (n < count) ⊎ (moment_of ready key ≡ Some n) → n < count
        by (inl less) = less
        by (inr there) = absurd (let gone = sym (entries_none ready none key) ∙ there in cc (gone))

    of : (b : Bool) → nat_le count next ≡ b → order_of cs count ≡ order_of was next
    of true low =
        (let less : count ≤ next = grind (arith, nat_tests) in
        let reach : count + (next - count) ≡ next = omega (arith, less) in
        sym (subst (λ (n : ℕ). order_of cs n ≡ order_of cs count) reach (order_less cs count (next - count) below))
        ∙ r.order)
    of false high =
        (let more : next < count = grind (arith, nat_tests) in
        let reach : next + (count - next) ≡ count = omega (arith, more) in
        subst (λ (n : ℕ). order_of cs n ≡ order_of cs next) reach (order_less cs next (count - next) r.queue.below)
        ∙ r.order)

-- ---- a key comes

-- one that isn't in it has no number
pub none_unlisted : (cs : List (Option ℕ)) (k next : ℕ) → IsApart cs
    → ((q n : ℕ) → moment_of cs q ≡ Some n → n < next)
    → list_any (λ q. q == k) (order_of cs next) ≡ false → moment_of cs k ≡ None
none_unlisted cs k next apart below is = of (moment_of cs k) refl
  where
    of : (o : Option ℕ) → moment_of cs k ≡ o → o ≡ None
    of None there = refl
    of (Some n) there = absurd (false≢true (sym is ∙ listed_by cs k n next apart there (below k n there)))

-- one without a number has none where it is said to be so
pub none_same : (o p : Option ℕ) → is_some o ≡ is_some p → p ≡ None → o ≡ None
none_same None p same none = refl
none_same (Some n) p same none = absurd (false≢true (sym (ap (λ (x : Option ℕ). is_some x) none) ∙ sym same))

module _ (cs ready : List (Option ℕ)) (k next : ℕ) (q : IsQueue cs ready next) (low : k < length cs)
    (none : moment_of cs k ≡ None) where
  came : Changes cs (slice_set cs k (Some next)) k (Some next)
  came = changes_set cs k (Some next) low

  pub queue_push : IsQueue (slice_set cs k (Some next)) ready (next + 1)
  queue_push =
      record {
        room = length_set cs k (Some next) ∙ q.room;
        limit = (let more = q.limit in let size = length_set cs k (Some next) in omega (arith, more, size));
        below = λ p n is. split_key cs (slice_set cs k (Some next)) k p n (Some next) came is (n < next + 1)
            (λ at own. (let same : next ≡ n = cc (own) in omega (arith, same)))
            (λ ne was. (let under = q.below p n was in omega (arith, under)));
        apart = apart_next cs (slice_set cs k (Some next)) k next q.apart q.below came;
        told = λ p n is. told p n (q.told p n is) (p == k) refl;
      }
    where
      told : (p n : ℕ) → moment_of cs p ≡ Some n → (b : Bool) → (p == k) ≡ b
          → moment_of (slice_set cs k (Some next)) p ≡ Some n
      told p n is true at = absurd (let own : p ≡ k = grind (arith, nat_tests) in
          let there = sym is ∙ ap (moment_of cs) own ∙ none in cc (there))
      told p n is false at = (let ne : p ≢ k = grind (arith, nat_tests) in came.others p ne ∙ is)

  pub order_came : order_of (slice_set cs k (Some next)) (next + 1) ≡ order_of cs next ++ k ∷ []
  order_came =
      (let step : next + 1 ≡ suc next = omega arith in
      ap (order_of (slice_set cs k (Some next))) step
      ∙ order_push cs (slice_set cs k (Some next)) k next q.apart
      (apart_next cs (slice_set cs k (Some next)) k next q.apart q.below came) q.below none came)

-- ---- a slice that was lent

pub take_front : {X : Type 0} (xs ys : List X) (n : ℕ) → n ≡ length xs → take n (xs ++ ys) ≡ xs
take_front [] ys zero is = refl
take_front [] ys (suc n) is = absurd (omega (arith, is))
take_front (x ∷ xs) ys zero is = absurd (omega (arith, is))
take_front (x ∷ xs) ys (suc n) is = ap (λ (zs : List _). x ∷ zs) (take_front xs ys n (omega (arith, is)))
