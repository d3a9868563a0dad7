-- Two lists whose elements stand in a relation, place by place.
use Rattle.std.proofs.Common.{◌≡◌, Bool, false, List, [], ◌∷◌, map, length, refl, ap, ◌∙◌, ℕ, suc}
use Rattle.rx_rules.proofs.EveryLaws.{Every}
use Rattle.rx_history.proofs.Differ.{Differ}

-- each with the one of its place
abbrev pub Pairwise : {X : Type 0} → (X → X → Type 0) → List X → List X → Type 0
Pairwise R [] [] = Unit {0}
Pairwise R [] (y ∷ ys) = ⊥
Pairwise R (x ∷ xs) [] = ⊥
Pairwise R (x ∷ xs) (y ∷ ys) = R x y × Pairwise R xs ys

-- each with what it becomes
pub pairs_map : {X : Type 0} (R : X → X → Type 0) (change : X → X) (xs : List X) → ((x : X) → R x (change x))
    → Pairwise R xs (map change xs)
pairs_map R change [] each = tt
pairs_map R change (x ∷ xs) each = (each x, pairs_map R change xs each)

-- each with itself
pub pairs_refl : {X : Type 0} (R : X → X → Type 0) (xs : List X) → ((x : X) → R x x) → Pairwise R xs xs
pairs_refl R [] each = tt
pairs_refl R (x ∷ xs) each = (each x, pairs_refl R xs each)

-- one relation behind another
pub pairs_trans : {X : Type 0} (R : X → X → Type 0) (xs ys zs : List X) → ((x y z : X) → R x y → R y z → R x z)
    → Pairwise R xs ys → Pairwise R ys zs → Pairwise R xs zs
pairs_trans R [] [] zs goes p q = q
pairs_trans R [] (y ∷ ys) zs goes p q = absurd p
pairs_trans R (x ∷ xs) [] zs goes p q = absurd p
pairs_trans R (x ∷ xs) (y ∷ ys) [] goes p q = absurd q
pairs_trans R (x ∷ xs) (y ∷ ys) (z ∷ zs) goes p q = (goes x y z p.0 q.0, pairs_trans R xs ys zs goes p.1 q.1)

-- a weaker relation
pub pairs_weaken : {X : Type 0} (R S : X → X → Type 0) (xs ys : List X) → ((x y : X) → R x y → S x y)
    → Pairwise R xs ys → Pairwise S xs ys
pairs_weaken R S [] [] weaker p = tt
pairs_weaken R S [] (y ∷ ys) weaker p = absurd p
pairs_weaken R S (x ∷ xs) [] weaker p = absurd p
pairs_weaken R S (x ∷ xs) (y ∷ ys) weaker p = (weaker x y p.0, pairs_weaken R S xs ys weaker p.1)

-- what holds of each of the one holds of each of the other
pub pairs_every : {X : Type 0} (R : X → X → Type 0) (P Q : X → Type 0) (xs ys : List X)
    → ((x y : X) → R x y → P x → Q y)
    → Pairwise R xs ys → Every P xs → Every Q ys
pairs_every R P Q [] [] keeps p all = tt
pairs_every R P Q [] (y ∷ ys) keeps p all = absurd p
pairs_every R P Q (x ∷ xs) [] keeps p all = tt
pairs_every R P Q (x ∷ xs) (y ∷ ys) keeps p all = (keeps x y p.0 all.0, pairs_every R P Q xs ys keeps p.1 all.1)

-- as many
pub pairs_length : {X : Type 0} (R : X → X → Type 0) (xs ys : List X) → Pairwise R xs ys → length ys ≡ length xs
pairs_length R [] [] p = refl
pairs_length R [] (y ∷ ys) p = absurd p
pairs_length R (x ∷ xs) [] p = absurd p
pairs_length R (x ∷ xs) (y ∷ ys) p = ap (λ (n : ℕ). suc n) (pairs_length R xs ys p.1)

-- they differ as the others do
pub pairs_differ : {X : Type 0} (R : X → X → Type 0) (same : X → X → Bool) (xs ys : List X)
    → ((x y x' y' : X) → R x y → R x' y' → same y y' ≡ same x x') → Pairwise R xs ys → Differ same xs → Differ same ys
pairs_differ R same [] [] keeps p differ = tt
pairs_differ R same [] (y ∷ ys) keeps p differ = absurd p
pairs_differ R same (x ∷ xs) [] keeps p differ = tt
pairs_differ R same (x ∷ xs) (y ∷ ys) keeps p differ = (
  pairs_every R (λ z. same z x ≡ false) (λ z. same z y ≡ false) xs ys (λ a b r other. keeps a b x y r p.0
      ∙ other) p.1 differ.0,
  pairs_differ R same xs ys keeps p.1 differ.1,
)
