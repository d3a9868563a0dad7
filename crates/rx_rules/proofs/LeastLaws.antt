-- The least of a list is one of the list.
use Rattle.std.proofs.Common.{◌≡◌, ℕ, nat_le, if◌then◌else◌, true, false, List, [], ◌∷◌, Option, Some, None, refl}
use Rattle.std.proofs.Common.{subst}
use Rattle.rx_rules.specs.Least.{least_by, lesser_by}
use Rattle.rx_rules.proofs.EveryLaws.{Every}

some_is : {X : Type 0} (x y : X) → Some x ≡ Some y → x ≡ y
some_is x y is = cc

lesser-keeps : {X : Type 0} (P : X → Type 0) (rank : X → ℕ) (x : X) (o : Option X)
    → P x → ((y : X) → o ≡ Some y → P y) → P (lesser_by rank x o)
lesser-keeps P rank x None own rest = own
lesser-keeps P rank x (Some y) own rest =
    (elim (nat_le (rank x) (rank y)) as (λ b. P (if b then x else y)) [
      | true ↦ own
      | false ↦ rest y refl
    ])

-- what holds of each of a list holds of its least
pub least-keeps : {X : Type 0} (P : X → Type 0) (rank : X → ℕ) (xs : List X) → Every P xs
    → (x : X) → least_by rank xs ≡ Some x → P x
least-keeps P rank [] all x none = absurd cc
least-keeps P rank (y ∷ ys) all x is =
    subst P (some_is (lesser_by rank y (least_by rank ys)) x is)
    (lesser-keeps P rank y (least_by rank ys) all.0 (λ z there. least-keeps P rank ys all.1 z there))
