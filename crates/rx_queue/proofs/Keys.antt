-- The key with a number, and the keys by their numbers.
use Rattle.std.proofs.Common.{◌≡◌, ◌≢◌, ◌<◌, ◌+◌, ◌==◌, ◌++◌, ◌∷◌, ℕ, zero, suc, if◌then◌else◌, Bool, true, false}
use Rattle.std.proofs.Common.{List, [], Option, Some, None, refl, ◌∙◌, ap, sym, subst, arith, is_some}
use Rattle.std.specs.List.{cons_option, filter_map}
use Rattle.std.proofs.lemmas.List.Elements.{filter_map-append}
use Rattle.std.proofs.lemmas.Bool.{false≢true}
use Rattle.std.proofs.lemmas.Bool.Decides.{nat_tests}
use Rattle.rx_due.specs.Book.{moment_of}
use Rattle.rx_queue.specs.Counts.{IsApart, is_count, key_at, key_from, upto}

-- ---- the key with a number

one : (n : ℕ) → (n == n) ≡ true
one n = grind (arith, nat_tests)

only : (m n : ℕ) → (m == n) ≡ true → m ≡ n
only m n is = grind (arith, nat_tests)

-- the key that is found has the number
has_count : (i : ℕ) (cs : List (Option ℕ)) (n k : ℕ) → key_from i cs n ≡ Some k
    → (j : ℕ) × (k ≡ i + j) × (moment_of cs j ≡ Some n)
unfolding key_from
has_count i [] n k is = absurd (cc (is))
has_count i (c ∷ cs) n k is = of c (is_count c n) refl is
    (λ found. (let it = has_count (suc i) cs n k found in let at = it.1 in (suc it.0, omega (arith, at), it.2)))
  where
    here : (o : Option ℕ) → is_count o n ≡ true → o ≡ Some n
    here None test = absurd (cc (test))
    here (Some m) test = ap (λ (x : ℕ). Some x) (only m n test)

    of : (o : Option ℕ) (b : Bool) → is_count c n ≡ b → (if b then Some i else key_from (suc i) cs n) ≡ Some k
        → (key_from (suc i) cs n ≡ Some k → (j : ℕ) × (k ≡ i + j) × (moment_of (c ∷ cs) j ≡ Some n))
        → (j : ℕ) × (k ≡ i + j) × (moment_of (c ∷ cs) j ≡ Some n)
    of o true test found later = (let same : i ≡ k = cc (found) in (0, omega (arith, same), here c test))
    of o false test found later = later found

pub key_has : (cs : List (Option ℕ)) (n k : ℕ) → key_at cs n ≡ Some k → moment_of cs k ≡ Some n
key_has cs n k is =
    (let it = has_count 0 cs n k is in let at = it.1 in
    let same : it.0 ≡ k = omega (arith, at) in subst (λ (j : ℕ). moment_of cs j ≡ Some n) same it.2)

-- a key with the number is found, if not that one
found_some : (i : ℕ) (cs : List (Option ℕ)) (n j : ℕ) → moment_of cs j ≡ Some n → is_some (key_from i cs n) ≡ true
unfolding key_from
found_some i [] n j is = absurd (cc (is))
found_some i (c ∷ cs) n zero is = ap
    (λ (o : Option ℕ). is_some (if is_count o n then Some i else key_from (suc i) cs n)) is
    ∙ ap (λ (b : Bool). is_some (if b then Some i else key_from (suc i) cs n)) (one n)
found_some i (c ∷ cs) n (suc j) is =
    (elim (is_count c n) as (λ b. is_some (if b then Some i else key_from (suc i) cs n) ≡ true) [
      | true ↦ refl
      | false ↦ found_some (suc i) cs n j is
    ])

-- so it is that one, where no two keys have one number
pub key_is : (cs : List (Option ℕ)) (n k : ℕ) → IsApart cs → moment_of cs k ≡ Some n → key_at cs n ≡ Some k
key_is cs n k apart is = of (key_at cs n) refl (found_some 0 cs n k is)
  where
    of : (o : Option ℕ) → key_at cs n ≡ o → is_some o ≡ true → o ≡ Some k
    of None found some = absurd (cc (some))
    of (Some q) found some = ap (λ (x : ℕ). Some x) (apart q k n (key_has cs n q found) is)

-- none is, where none has it
pub key_none : (cs : List (Option ℕ)) (n : ℕ) → ((k : ℕ) → moment_of cs k ≡ Some n → ⊥) → key_at cs n ≡ None
key_none cs n none = of (key_at cs n) refl
  where
    of : (o : Option ℕ) → key_at cs n ≡ o → o ≡ None
    of None found = refl
    of (Some q) found = absurd (none q (key_has cs n q found))

-- the same is found where the same keys have the number
pub key_same : (cs ds : List (Option ℕ)) (n : ℕ) → IsApart cs → IsApart ds
    → ((k : ℕ) → moment_of cs k ≡ Some n → moment_of ds k ≡ Some n)
    → ((k : ℕ) → moment_of ds k ≡ Some n → moment_of cs k ≡ Some n) → key_at ds n ≡ key_at cs n
key_same cs ds n apart bpart to from = of (key_at cs n) refl
  where
    of : (o : Option ℕ) → key_at cs n ≡ o → key_at ds n ≡ o
    of None found = key_none ds n (λ k is. (
        let there = key_is cs n k apart (from k is) in absurd (cc (sym found ∙ there))))
    of (Some q) found = key_is ds n q bpart (to q (key_has cs n q found))

-- ---- one key's number changes

-- of two lists of numbers, this key has this in the other, and every other key the same
pub record Changes (cs ds : List (Option ℕ)) (k : ℕ) (v : Option ℕ) : Type 0 where
  pub here : moment_of ds k ≡ v
  pub others : (q : ℕ) → q ≢ k → moment_of ds q ≡ moment_of cs q

-- a key either is that one or has the number that it had
pub split_key : (cs ds : List (Option ℕ)) (k q n : ℕ) (v : Option ℕ) → Changes cs ds k v → moment_of ds q ≡ Some n
    → (P : Type 0) → (q ≡ k → v ≡ Some n → P) → (q ≢ k → moment_of cs q ≡ Some n → P) → P
split_key cs ds k q n v c is P own other = of (q == k) refl
  where
    of : (b : Bool) → (q == k) ≡ b → P
    of true same = (let at = only q k same in own at (sym c.here ∙ ap (moment_of ds) (sym at) ∙ is))
    of false apart =
        (let ne : q ≢ k = λ at. false≢true (sym apart ∙ ap (λ (x : ℕ). x == k) at ∙ one k) in
        other ne (sym (c.others q ne) ∙ is))

-- ---- lists of numbers

-- a map that gives the same of each below
pub mapped_below : (f g : ℕ → Option ℕ) (n : ℕ) → ((i : ℕ) → i < n → f i ≡ g i)
    → filter_map f (upto n) ≡ filter_map g (upto n)
unfolding upto
mapped_below f g zero same = refl
mapped_below f g (suc n) same =
    filter_map-append f (upto n) (n ∷ [])
    ∙ (λ i. mapped_below f g n (λ j low. same j (omega (arith, low))) i ++ cons_option (same n (omega arith) i) [])
    ∙ sym (filter_map-append g (upto n) (n ∷ []))

-- one more
pub mapped_more : (f : ℕ → Option ℕ) (n : ℕ)
    → filter_map f (upto (suc n)) ≡ filter_map f (upto n) ++ cons_option (f n) []
unfolding upto
mapped_more f n = filter_map-append f (upto n) (n ∷ [])
