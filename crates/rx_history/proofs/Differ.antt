-- Lists no two of which test as one, and a change of the one that is found.
use Rattle.std.proofs.Common.{◌≡◌, cond, Bool, true, false, List, [], ◌∷◌, ◌++◌, map, Some, refl, ◌∙◌, ap, subst}
use Rattle.std.specs.List.{find, list_any}
use Rattle.rx_model.specs.Names.{same_connection, same_name}
use Rattle.rx_rules.specs.Looks.{CallRecord, ConnLooks}
use Rattle.rx_model.proofs.NameLaws.{neither}
use Rattle.rx_rules.proofs.EveryLaws.{Every}

-- no two of the list test as one
abbrev pub Differ : {X : Type 0} → (X → X → Bool) → List X → Type 0
Differ same [] = Unit {0}
Differ same (x ∷ xs) = Every (λ y. same y x ≡ false) xs × Differ same xs

-- the names of two calls test as one
abbrev pub by_name : CallRecord → CallRecord → Bool
by_name a b = same_name a.name b.name

-- the names of two connections
abbrev pub by_connection : ConnLooks → ConnLooks → Bool
by_connection a b = same_connection a.connection b.connection

-- what holds of each, and of what it becomes
pub every_map : {X : Type 0} (P Q : X → Type 0) (change : X → X) (xs : List X) → ((x : X) → P x → Q (change x))
    → Every P xs
    → Every Q (map change xs)
every_map P Q change [] keeps all = tt
every_map P Q change (x ∷ xs) keeps all = (keeps x all.0, every_map P Q change xs keeps all.1)

-- what holds of each holds of the one that is found
pub every_found : {X : Type 0} (P : X → Type 0) (p : X → Bool) (xs : List X) (x : X) → Every P xs
    → find p xs ≡ Some x → P x
every_found P p [] x all found = absurd cc
every_found P p (y ∷ ys) x all found =
    (elim (p y) as (λ b. cond b (Some y) (find p ys) ≡ Some x → P x) [
      | true ↦ λ is. (let same : y ≡ x = cc (is) in subst P same all.0)
      | false ↦ λ is. every_found P p ys x all.1 is
    ]) found

-- none passes where none is found
pub every_other : {X : Type 0} (p : X → Bool) (xs : List X) → list_any p xs ≡ false → Every (λ x. p x ≡ false) xs
every_other p [] none = tt
every_other p (x ∷ xs) none = (let t = neither (p x) (list_any p xs) none in (t.0, every_other p xs t.1))

-- a change that keeps the test keeps them apart
pub differ_map : {X : Type 0} (same : X → X → Bool) (change : X → X) (xs : List X)
    → ((x y : X) → same (change x) (change y) ≡ same x y) → Differ same xs → Differ same (map change xs)
differ_map same change [] keeps apart = tt
differ_map same change (x ∷ xs) keeps apart = (
  every_map (λ y. same y x ≡ false) (λ y. same y (change x) ≡ false) change xs (λ y other. keeps y x ∙ other) apart.0,
  differ_map same change xs keeps apart.1,
)

-- a further one that is none of them
pub differ_more : {X : Type 0} (same : X → X → Bool) (xs : List X) (new : X) → ((x y : X) → same x y ≡ same y x)
    → Every (λ x. same x new ≡ false) xs → Differ same xs → Differ same (xs ++ new ∷ [])
differ_more same [] new turned apart differ = (tt, tt)
differ_more same (x ∷ xs) new turned apart differ =
    (behind xs differ.0, differ_more same xs new turned apart.1 differ.1)
  where
    behind : (ys : List _) → Every (λ y. same y x ≡ false) ys → Every (λ y. same y x ≡ false) (ys ++ new ∷ [])
    behind [] all = (turned new x ∙ apart.0, tt)
    behind (y ∷ ys) all = (all.0, behind ys all.1)

-- ---- a change of those that pass a test

-- a change of those that pass
abbrev pub where_passes : {X : Type 0} → (X → Bool) → (X → X) → X → X
where_passes p change x = cond (p x) (change x) x

-- none of them changes
pub none_change : {X : Type 0} (p : X → Bool) (change : X → X) (xs : List X) → Every (λ x. p x ≡ false) xs
    → map (where_passes p change) xs ≡ xs
none_change p change [] none = refl
none_change p change (x ∷ xs) none =
    rw none.0 (ap (λ (ys : List _). x ∷ ys) (none_change p change xs none.1))
