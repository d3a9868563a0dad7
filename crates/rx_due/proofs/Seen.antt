-- What a contract sees of a heap: the moments of all keys.
use Rattle.std.proofs.Common.{◌≡◌, ◌<◌, ◌≤◌, ◌+◌, ◌^◌, ◌-◌, ◌==◌, ℕ, suc, zero, false, Option, Some}
use Rattle.std.proofs.Common.{None, List, ◌∷◌, length, get_or, set, map, replicate, is_some, cond, refl, sym, ap}
use Rattle.std.proofs.Common.{◌∙◌, arith, inl, inr}
use Rattle.std.specs.List.{count_by}
use Rattle.std.proofs.lemmas.Bool.{cases_eq, cases_lt, false≢true}
use Rattle.std.proofs.lemmas.List.{length-set, ext_get_or, get_or-set_same, get_or-set_other, length-map}
use Rattle.std.proofs.lemmas.List.{length-replicate, get_or-replicate, get_or_past}
use Rattle.std.proofs.lemmas.Bool.Decides.{nat_tests}
use Rattle.std.proofs.lemmas.List.Folds.{sum_by-replicate}
use Rattle.std.proofs.lemmas.List.Sums.{count_by-le-length, sum_by-set}
use Rattle.std.proofs.Math.ListN.{get_or-map}
use Rattle.rx_due.specs.declared.heap.Heap.{Heap}
use Rattle.rx_due.specs.Book.{moment_of, IsLeast, IsNotAfter}
use Rattle.rx_due.specs.Heap.{entry_at, key_at, place_of, rank, rank_at, moment_by, moment_in, moments, IsHeap}
use Rattle.rx_due.specs.Heap.{IsBook, len_with, len_without, KeepsOthers}
use Rattle.rx_due.proofs.Orders.{root_least}
use Rattle.rx_due.proofs.Writes.{moment_at, moment_none, place_cases}

-- the moment of a key in the list is that in the heap
pub moment_seen : (h : Heap) (key : ℕ) → moment_of (moments h) key ≡ moment_in h key
moment_seen h key = get_or-map (moment_by h.entries) h.places key (0, 0)

-- as many moments as places
pub length_moments : (h : Heap) → length (moments h) ≡ length h.places
length_moments h = length-map h.places (moment_by h.entries)

-- one key's moment alone changed
pub moments_set : (h new : Heap) (key : ℕ) (moment : Option ℕ) → key < length h.places
    → length new.places ≡ length h.places → moment_in new key ≡ moment
    → ((q : ℕ) → (q ≡ key → ⊥) → moment_in new q ≡ moment_in h q) → moments new ≡ set (moments h) key moment
moments_set h new key moment key_in places is others =
    let size = length-set (moments h) key moment in
    ext_get_or None (moments new) (set (moments h) key moment)
    (omega (arith, length_moments new, length_moments h, places, size)) (λ q _.
    elim (cases_eq q key) [
      | inl same ↦ (
          let there : key < length (moments h) = omega (arith, key_in, length_moments h) in
          ap (moment_of (moments new)) same ∙ moment_seen new key ∙ is
          ∙ sym (get_or-set_same (moments h) key moment None there)
          ∙ sym (ap (moment_of (set (moments h) key moment)) same))
      | inr isnt ↦ moment_seen new q ∙ others q isnt ∙ sym (moment_seen h q)
          ∙ sym (get_or-set_other (moments h) key q moment None isnt)
    ])

-- 1 for a moment, 0 for none
abbrev pub one_if : Option ℕ → ℕ
one_if o = cond (is_some o) 1 0

-- how many have a moment, once one place is written
pub count_set : (xs : List (Option ℕ)) (k : ℕ) (v : Option ℕ) → k < length xs
    → count_by is_some (set xs k v) + one_if (get_or xs k None) ≡ count_by is_some xs + one_if v
count_set xs k v within = sum_by-set one_if xs k v None within

-- where one has no moment, fewer have one than there are
pub count_room : (xs : List (Option ℕ)) (k : ℕ) → k < length xs → get_or xs k None ≡ None
    → count_by is_some xs < length xs
count_room xs k within none =
    let more = count_set xs k (Some 0) within in
    let most = count_by-le-length is_some (set xs k (Some 0)) in
    omega (arith, more, most, length-set xs k (Some 0), ap one_if none)

-- the order of ranks is that of pairs
not_after : (a b : ℕ × ℕ) → a.1 < 2 ^ 32 → b.1 < 2 ^ 32 → rank a ≤ rank b → IsNotAfter a b
not_after a b a_in b_in le =
    record { moment = omega (arith, a_in, b_in, le); key = λ same. omega (arith, a_in, b_in, le, same) }

some_is : (m n : ℕ) → Some m ≡ Some n → m ≡ n
some_is m n same = cc

-- the first cell has the least pair
pub first_least : (h : Heap) → IsHeap h → (h.len ≡ 0 → ⊥) → IsLeast (moments h) (entry_at h 0)
first_least h so some =
    let key_small : (i : ℕ) → i < h.len → key_at h i < 2 ^ 32 =
    λ i within. omega (arith, so.tied.key_within i within, so.sized.keys, so.sized.limit) in
    let root_in : 0 < h.len = omega (arith, some) in
    record {
      there = moment_seen h (key_at h 0) ∙ moment_at h (key_at h 0) 0 (so.tied.stands 0 root_in);
      least = λ key moment is.
          let seen : moment_in h key ≡ Some moment = sym (moment_seen h key) ∙ is in
          let place_some : place_of h key ≡ 0 → ⊥ =
          λ none. false≢true (ap is_some (sym (moment_none h key none) ∙ seen)) in
          let found = place_cases h key place_some in
          let i = found.0 in
          let within = so.tied.leads_within key i found.1 in
          let key_is = so.tied.leads key i found.1 in
          let moment_is = some_is (entry_at h i).0 moment (sym (moment_at h key i found.1) ∙ seen) in
          let le = root_least (rank_at h) h.len so.ordered.order i within in
          let small = key_small i within in
          not_after (entry_at h 0) (moment, key) (key_small 0 root_in) (omega (arith, small, key_is))
          (omega (arith, le, key_is, moment_is));
    }

map_replicate : (f : ℕ × ℕ → Option ℕ) (n : ℕ) (x : ℕ × ℕ) → map f (replicate n x) ≡ replicate n (f x)
map_replicate f zero x = refl
map_replicate f (suc n) x = ap (λ ys. f x ∷ ys) (map_replicate f n x)

moments_empty : (h : Heap) (n : ℕ) → h.places ≡ replicate n (0, 0) → moments h ≡ replicate n None
moments_empty h n places = ap (map (moment_by h.entries)) places ∙ map_replicate (moment_by h.entries) n (0, 0)

abbrev never : Option ℕ
never = None

count_none : (n : ℕ) → count_by is_some (replicate n never) ≡ 0
count_none n = sum_by-replicate one_if n never ∙ (grind arith)

place_none : (h : Heap) (n key : ℕ) → h.places ≡ replicate n (0, 0) → place_of h key ≡ 0
place_none h n key places =
    ap (λ (cells : List (ℕ × ℕ)). (get_or cells key (0, 0)).0) places
    ∙ (elim (cases_lt key n) [
      | inl within ↦ ap (λ (p : ℕ × ℕ). p.0) (get_or-replicate n key (0, 0) (0, 0) within)
      | inr past ↦ ap (λ (p : ℕ × ℕ). p.0)
          (get_or_past (replicate n (0, 0)) key (0, 0) (omega (arith, past, length-replicate {A = ℕ × ℕ} n (0, 0))))
    ])

heap_empty : (h : Heap) (n : ℕ) → n < 2 ^ 32 → h.entries ≡ replicate n (0, 0) → h.places ≡ replicate n (0, 0)
    → h.len ≡ 0 → IsHeap h
heap_empty h n fits entries places none =
    let cells : length h.entries ≡ n = ap length entries ∙ length-replicate n (0, 0) in
    let keys : length h.places ≡ n = ap length places ∙ length-replicate n (0, 0) in
    record {
      sized = record { room = omega (arith, none); keys = keys ∙ sym cells; limit = omega (arith, cells, fits) };
      tied = record {
        key_within = λ i within. absurd (omega (arith, within, none));
        stands = λ i within. absurd (omega (arith, within, none));
        leads_within = λ key i is. absurd (omega (arith, is, place_none h n key places));
        leads = λ key i is. absurd (omega (arith, is, place_none h n key places));
      };
      ordered = record { order = λ i c _ within. absurd (omega (arith, within, none)) };
    }

-- a heap that no key has a place in
pub book_empty : (h : Heap) (n : ℕ) → n < 2 ^ 32 → h.entries ≡ replicate n (0, 0) → h.places ≡ replicate n (0, 0)
    → h.len ≡ 0 → (moments h ≡ replicate n None) × IsBook h
book_empty h n fits entries places none =
    let seen : moments h ≡ replicate n None = moments_empty h n places in (
      seen,
      record {
        heap = heap_empty h n fits entries places none;
        counted = ap (count_by is_some) seen ∙ count_none n ∙ sym none;
      },
    )

-- a place and a moment are there both, or neither is
one_of : (h : Heap) (key : ℕ) → one_if (moment_of (moments h) key) ≡ cond (place_of h key == 0) 0 1
one_of h key =
    elim (cases_eq (place_of h key) 0) [
      | inl none ↦ ap one_if (moment_seen h key ∙ moment_none h key none) ∙ (rw none refl)
      | inr some ↦ (
          let found = place_cases h key some in
          let test : (place_of h key == 0) ≡ false = grind (arith, nat_tests, some) in
          ap one_if (moment_seen h key ∙ moment_at h key found.0 found.1) ∙ sym (ap (λ b. cond b 0 1) test))
    ]

counted_with : (h new : Heap) (key count : ℕ) → IsBook h → new.len ≡ len_with h key
    → count + one_if (moment_of (moments h) key) ≡ count_by is_some (moments h) + 1 → count ≡ new.len
counted_with h new key count was len more =
    elim (cases_eq (place_of h key) 0) [
      | inl none ↦ (
          let here : len_with h key ≡ h.len + 1 = rw none refl in
          let gone : one_if (moment_of (moments h) key) ≡ 0 = one_of h key ∙ (rw none refl) in
          omega (arith, here, gone, len, more, was.counted))
      | inr some ↦ (
          let test : (place_of h key == 0) ≡ false = grind (arith, nat_tests, some) in
          let here : len_with h key ≡ h.len = ap (λ b. cond b (h.len + 1) h.len) test in
          let there : one_if (moment_of (moments h) key) ≡ 1 = one_of h key ∙ ap (λ b. cond b 0 1) test in
          omega (arith, here, there, len, more, was.counted))
    ]

counted_without : (h new : Heap) (key count : ℕ) → IsBook h → new.len ≡ len_without h key
    → count + one_if (moment_of (moments h) key) ≡ count_by is_some (moments h) + 0 → count ≡ new.len
counted_without h new key count was len fewer =
    elim (cases_eq (place_of h key) 0) [
      | inl none ↦ (
          let here : len_without h key ≡ h.len = rw none refl in
          let gone : one_if (moment_of (moments h) key) ≡ 0 = one_of h key ∙ (rw none refl) in
          omega (arith, here, gone, len, fewer, was.counted))
      | inr some ↦ (
          let test : (place_of h key == 0) ≡ false = grind (arith, nat_tests, some) in
          let here : len_without h key ≡ h.len - 1 = ap (λ b. cond b h.len (h.len - 1)) test in
          let there : one_if (moment_of (moments h) key) ≡ 1 = one_of h key ∙ ap (λ b. cond b 0 1) test in
          omega (arith, here, there, len, fewer, was.counted))
    ]

-- a key has a moment: the book is one still, with as many entries as its list says
pub book_set : (h new : Heap) (key moment : ℕ) → IsBook h → key < length h.places → IsHeap new
    → moment_in new key ≡ Some moment → KeepsOthers (record h { len = len_with h key }) new key
    → (moments new ≡ set (moments h) key (Some moment)) × IsBook new
book_set h new key moment was key_in heap is keeps =
    let seen = moments_set h new key (Some moment) key_in keeps.places is keeps.others in
    let there : key < length (moments h) = omega (arith, key_in, length_moments h) in
    let more = count_set (moments h) key (Some moment) there in (
      seen,
      record {
        heap = heap;
        counted = ap (count_by is_some) seen
            ∙ counted_with h new key (count_by is_some (set (moments h) key (Some moment))) was keeps.len more;
      },
    )

-- a key has none
pub book_clear : (h new : Heap) (key : ℕ) → IsBook h → key < length h.places → IsHeap new → moment_in new key ≡ None
    → KeepsOthers (record h { len = len_without h key }) new key
    → (moments new ≡ set (moments h) key None) × IsBook new
book_clear h new key was key_in heap is keeps =
    let seen = moments_set h new key None key_in keeps.places is keeps.others in
    let there : key < length (moments h) = omega (arith, key_in, length_moments h) in
    let fewer = count_set (moments h) key None there in (
      seen,
      record {
        heap = heap;
        counted = ap (count_by is_some) seen
            ∙ counted_without h new key (count_by is_some (set (moments h) key None)) was keeps.len fewer;
      },
    )

-- a key without a place leaves room for one more entry
pub book_room : (h : Heap) (key : ℕ) → IsBook h → key < length h.places → place_of h key ≡ 0 → h.len < length h.entries
book_room h key was key_in none =
    let room =
    count_room (moments h) key (omega (arith, key_in, length_moments h)) (moment_seen h key
    ∙ moment_none h key none) in
    omega (arith, room, length_moments h, was.counted, was.heap.sized.keys)
