-- A key that was noted has its moment, every other has what it had, and how many have one.
use Rattle.std.proofs.Common.{◌≡◌, ◌≤◌, ◌<◌, ◌+◌, ℕ, zero, suc, cond, List, [], ◌∷◌, length, replicate}
use Rattle.std.proofs.Common.{Option, Some, None, refl, ap, arith}
use Rattle.std.proofs.lemmas.List.Sums.{sum_by-cons}
use Rattle.std.specs.Prelude.{count_by, is_some, slice_index_or, slice_set}
use Rattle.rx_due.specs.Book.{entries_of, moment_of}

-- ---- one key

pub set_here : {X : Type 0} (xs : List X) (k : ℕ) (v d : X) → k < length xs → slice_index_or (slice_set xs k v) k d ≡ v
set_here [] k v d low = absurd (omega (arith, low))
set_here (x ∷ xs) zero v d low = refl
set_here (x ∷ xs) (suc k) v d low = set_here xs k v d (omega (arith, low))

pub set_aside : {X : Type 0} (xs : List X) (k q : ℕ) (v d : X) → (q ≡ k → ⊥)
    → slice_index_or (slice_set xs k v) q d ≡ slice_index_or xs q d
set_aside [] k q v d apart = refl
set_aside (x ∷ xs) zero zero v d apart = absurd (apart refl)
set_aside (x ∷ xs) zero (suc q) v d apart = refl
set_aside (x ∷ xs) (suc k) zero v d apart = refl
set_aside (x ∷ xs) (suc k) (suc q) v d apart = set_aside xs k q v d (λ same. apart (ap (λ (n : ℕ). suc n) same))

pub set_length : {X : Type 0} (xs : List X) (k : ℕ) (v : X) → length (slice_set xs k v) ≡ length xs
set_length [] k v = refl
set_length (x ∷ xs) zero v = refl
set_length (x ∷ xs) (suc k) v = ap (λ (n : ℕ). suc n) (set_length xs k v)

-- ---- an empty book

pub none_made : (keys key : ℕ) → moment_of (replicate keys None) key ≡ None
none_made zero key = refl
none_made (suc keys) zero = refl
none_made (suc keys) (suc key) = none_made keys key

pub none_there : (book : List (Option ℕ)) (key : ℕ) → count_by is_some book ≡ 0 → slice_index_or book key None ≡ None
none_there [] key is = refl
none_there (None ∷ rest) zero is = refl
none_there (None ∷ rest) (suc key) is = none_there rest key is
none_there (Some m ∷ rest) key is =
    (let more : count_by is_some (Some m ∷ rest) ≡ 1 + count_by is_some rest =
    sum_by-cons (λ x. cond (is_some x) 1 0) (Some m) rest in
    absurd (omega (arith, is, more)))

-- ---- entries

-- no more keys have a moment than are below the first from which on none has
pub few_entries : (book : List (Option ℕ)) (n : ℕ) → ((k : ℕ) → n ≤ k → moment_of book k ≡ None) → entries_of book ≤ n
few_entries [] n none = omega arith
few_entries (None ∷ rest) zero none = few_entries rest zero (λ k low. none (suc k) (omega (arith, low)))
few_entries (Some m ∷ rest) zero none = absurd (let is = none zero (omega arith) in cc (is))
few_entries (None ∷ rest) (suc n) none =
    (let less = few_entries rest n (λ k low. none (suc k) (omega (arith, low))) in
    let more : count_by is_some (None ∷ rest) ≡ 0 + count_by is_some rest =
    sum_by-cons (λ x. cond (is_some x) 1 0) None rest in
    omega (arith, less, more))
few_entries (Some m ∷ rest) (suc n) none =
    (let less = few_entries rest n (λ k low. none (suc k) (omega (arith, low))) in
    let more : count_by is_some (Some m ∷ rest) ≡ 1 + count_by is_some rest =
    sum_by-cons (λ x. cond (is_some x) 1 0) (Some m) rest in
    omega (arith, less, more))

-- one that is taken away leaves one fewer
pub one_fewer : (book : List (Option ℕ)) (key moment : ℕ) → moment_of book key ≡ Some moment
    → entries_of (slice_set book key None) + 1 ≡ entries_of book
one_fewer [] key moment is = absurd (cc (is))
one_fewer (None ∷ rest) zero moment is = absurd (cc (is))
one_fewer (Some m ∷ rest) zero moment is =
    (let one : count_by is_some (Some m ∷ rest) ≡ 1 + count_by is_some rest =
    sum_by-cons (λ x. cond (is_some x) 1 0) (Some m) rest in
    let none : count_by is_some (None ∷ rest) ≡ 0 + count_by is_some rest =
    sum_by-cons (λ x. cond (is_some x) 1 0) None rest in
    omega (arith, one, none))
one_fewer (x ∷ rest) (suc key) moment is =
    (let less = one_fewer rest key moment is in
    let before : count_by is_some (x ∷ rest) ≡ cond (is_some x) 1 0 + count_by is_some rest =
    sum_by-cons (λ x. cond (is_some x) 1 0) x rest in
    let after : count_by is_some (x ∷ slice_set rest key None)
    ≡ cond (is_some x) 1 0 + count_by is_some (slice_set rest key None) =
    sum_by-cons (λ x. cond (is_some x) 1 0) x (slice_set rest key None) in
    omega (arith, less, before, after))
