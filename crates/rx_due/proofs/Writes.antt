-- What is in the cells of a heap after an entry was written, and the moment that a place leads to.
use Rattle.std.proofs.Common.{◌≡◌, ◌<◌, ◌+◌, ◌-◌, ◌==◌, ℕ, Some, None, length}
use Rattle.std.proofs.Common.{false, refl, ap, arith}
use Rattle.std.proofs.lemmas.Bool.Decides.{nat_tests}
use Rattle.std.proofs.lemmas.List.{get_or-set_same, get_or-set_other}
use Rattle.rx_due.specs.declared.heap.Heap.{Heap}
use Rattle.rx_due.specs.Heap.{entry_at, place_of, moment_in, stood}

-- the cell that was written has the entry
pub entry_same : (h : Heap) (place : ℕ) (e : ℕ × ℕ) → place < length h.entries → entry_at (stood h place e) place ≡ e
entry_same h place e within = get_or-set_same h.entries place e (0, 0) within

-- every other cell has what it had
pub entry_other : (h : Heap) (place : ℕ) (e : ℕ × ℕ) (i : ℕ) → (i ≡ place → ⊥)
    → entry_at (stood h place e) i ≡ entry_at h i
entry_other h place e i apart = get_or-set_other h.entries place i e (0, 0) apart

-- the key's place is where its entry was written
pub place_same : (h : Heap) (place : ℕ) (e : ℕ × ℕ) → e.1 < length h.places → place_of (stood h place e) e.1 ≡ place + 1
place_same h place e within = ap (λ (p : ℕ × ℕ). p.0) (get_or-set_same h.places e.1 (place + 1, 0) (0, 0) within)

-- every other key has the place that it had
pub place_other : (h : Heap) (place : ℕ) (e : ℕ × ℕ) (q : ℕ) → (q ≡ e.1 → ⊥)
    → place_of (stood h place e) q ≡ place_of h q
place_other h place e q apart = ap (λ (p : ℕ × ℕ). p.0) (get_or-set_other h.places e.1 q (place + 1, 0) (0, 0) apart)

-- a place that is one leads to the moment there
pub moment_at : (h : Heap) (q i : ℕ) → place_of h q ≡ i + 1 → moment_in h q ≡ Some (entry_at h i).0
moment_at h q i is =
    let test : (place_of h q == 0) ≡ false = grind (arith, nat_tests, is) in
    let back : place_of h q - 1 ≡ i = omega (arith, is) in
    rw (test, back) refl

-- place 0 leads to none
pub moment_none : (h : Heap) (q : ℕ) → place_of h q ≡ 0 → moment_in h q ≡ None
moment_none h q is = rw is refl

-- a place that isn't 0 is one more than another number
pub place_cases : (h : Heap) (q : ℕ) → (place_of h q ≡ 0 → ⊥) → (i : ℕ) × (place_of h q ≡ i + 1)
place_cases h q some = (place_of h q - 1, omega arith)
