-- The values of enums, one member and one type more.
use Rattle.std.proofs.Common.{◌≡◌, ℕ, ℤ, ◌+◌, ◌<◌, ◌≤◌, Bool, true, false, cond, ◌&&◌, ◌||◌, nat_eq, ltb, List, [], ◌∷◌}
use Rattle.std.proofs.Common.{◌++◌, length, take, get_or, slice_get, Option, Some, None, refl, sym, ap, ◌∙◌, arith, inl}
use Rattle.std.proofs.Common.{inr}
use Rattle.std.specs.Ordering.{int_eq}
use Rattle.std.proofs.lemmas.Bool.{false_from_ne_true, lt-ltb, ltb-true}
use Rattle.std.proofs.lemmas.Bool.Decides.{Decides-eqb}
use Rattle.std.proofs.lemmas.List.{take_more}
use Rattle.std.proofs.lemmas.Option.{slice_get_past}
use Rattle.xg_parse.specs.declared.tree.MembItem.{MembItem}
use Rattle.xg_parse.specs.declared.tree.Part.{Part}
use Rattle.xg_check.specs.Constants.{ConstantDef, value_named}
use Rattle.xg_check.specs.Tags.{is_value, members_have, enum_has}
use Rattle.xg_check.proofs.PlaceLaws.{less_or_more}
use Rattle.xg_check.proofs.MetLaws.{numbers_turn, or_more, or_none}

added : (c d o : Bool) → c ≡ d → cond c true o ≡ (o || d)
added true true true e = refl
added true true false e = refl
added false false true e = refl
added false false false e = refl
added true false o e = absurd cc
added false true o e = absurd cc

-- a pair more in a set
pub pair_added : (place i : ℕ) (v z : ℤ) (o : Bool)
    → cond (nat_eq place i && int_eq v z) true o ≡ (o || (nat_eq i place && is_value (Some v) z))
pair_added place i v z o = added (nat_eq place i && int_eq v z) (nat_eq i place && int_eq v z) o
    (ap (λ (b : Bool). b && int_eq v z) (numbers_turn place i))

members_both : (cs : List ConstantDef) (xs ys : List MembItem) (z : ℤ)
    → members_have cs (xs ++ ys) z ≡ (members_have cs xs z || members_have cs ys z)
members_both cs [] ys z = refl
members_both cs (x ∷ xs) ys z =
    ap (λ (b : Bool). is_value (value_named cs x.name) z || b) (members_both cs xs ys z)
    ∙ or_more (is_value (value_named cs x.name) z) (members_have cs xs z) (members_have cs ys z)

-- a member more
pub members_more : (cs : List ConstantDef) (ms : List MembItem) (i : ℕ) (d : MembItem) (z : ℤ) → i < length ms
    → members_have cs (take (i + 1) ms) z
    ≡ (members_have cs (take i ms) z || is_value (value_named cs (get_or ms i d).name) z)
members_more cs ms i d z lt =
    ap (λ (xs : List MembItem). members_have cs xs z) (take_more ms i d lt)
    ∙ members_both cs (take i ms) (get_or ms i d ∷ []) z
    ∙ ap (λ (b : Bool). members_have cs (take i ms) z || b)
    (or_none (is_value (value_named cs (get_or ms i d).name) z))

spread : (o e h v : Bool) → ((o || (e && h)) || (e && v)) ≡ (o || (e && (h || v)))
spread true e h v = refl
spread false true h v = refl
spread false false h v = refl

module _ (cs : List ConstantDef) (ms : List MembItem) (k : ℕ) (d : MembItem) (place i : ℕ) (z : ℤ) (was o new : Bool)
  where
    -- what a set has after a member more
    pub set_more : k < length ms → was ≡ (o || (nat_eq i place && members_have cs (take k ms) z))
        → new ≡ (was || (nat_eq i place && is_value (value_named cs (get_or ms k d).name) z))
        → new ≡ (o || (nat_eq i place && members_have cs (take (k + 1) ms) z))
    set_more lt e n =
        n ∙ ap (λ (b : Bool). b || (nat_eq i place && is_value (value_named cs (get_or ms k d).name) z)) e
        ∙ spread o (nat_eq i place) (members_have cs (take k ms) z) (is_value (value_named cs (get_or ms k d).name) z)
        ∙ ap (λ (b : Bool). o || (nat_eq i place && b)) (sym (members_more cs ms k d z lt))

nothing_added : (o e : Bool) → o ≡ (o || (e && false))
nothing_added true e = refl
nothing_added false true = refl
nothing_added false false = refl

-- a member without a value adds nothing
pub none_added : (o e : Bool) (v : Option ℤ) (z : ℤ) → v ≡ None → o ≡ (o || (e && is_value v z))
none_added o e v z none = nothing_added o e ∙ ap (λ (w : Option ℤ). o || (e && is_value w z)) (sym none)

less : (i k : ℕ) → i < k → ltb i k ≡ true
less i k lt = lt-ltb i k lt

not_less : (i k : ℕ) → k ≤ i → ltb i k ≡ false
not_less i k le = false_from_ne_true (ltb i k) (λ t. absurd (omega (arith, ltb-true i k t, le)))

apart : (i k : ℕ) → (i ≡ k → ⊥) → nat_eq i k ≡ false
apart i k ne = false_from_ne_true (nat_eq i k) (λ t. ne ((Decides-eqb i k).0 t))

-- a type more
pub types_more : (f : ℕ → Bool) (i place : ℕ) (was new : Bool) → was ≡ (ltb i place && f i)
    → new ≡ (was || (nat_eq i place && f place)) → new ≡ (ltb i (place + 1) && f i)
types_more f i place was new e n = n ∙ elim (less_or_more i place) [
  | inl lt ↦
      let before : was ≡ f i = e ∙ ap (λ (b : Bool). b && f i) (less i place lt) in
      let differ : nat_eq i place ≡ false = apart i place (λ same. omega (arith, same, lt)) in
      ap (λ (b : Bool). was || (b && f place)) differ ∙ or_none was ∙ before
      ∙ ap (λ (b : Bool). b && f i) (sym (less i (place + 1) (omega (arith, lt))))
  | inr (inl gt) ↦
      let before : was ≡ false = e ∙ ap (λ (b : Bool). b && f i) (not_less i place (omega (arith, gt))) in
      let differ : nat_eq i place ≡ false = apart i place (λ same. omega (arith, same, gt)) in
      ap (λ (b : Bool). was || (b && f place)) differ ∙ or_none was ∙ before
      ∙ ap (λ (b : Bool). b && f i) (sym (not_less i (place + 1) (omega (arith, gt))))
  | inr (inr same) ↦
      let before : was ≡ false = e ∙ ap (λ (b : Bool). b && f i) (not_less i place (omega (arith, same))) in
      let here : nat_eq i place ≡ true = (Decides-eqb i place).1 same in
      ap (λ (b : Bool). b || (nat_eq i place && f place)) before
      ∙ ap (λ (b : Bool). b && f place) here ∙ ap f (sym same)
      ∙ ap (λ (b : Bool). b && f i) (sym (less i (place + 1) (omega (arith, same))))
]

pub no_types : (i : ℕ) (b : Bool) → false ≡ (ltb i 0 && b)
no_types i b = ap (λ (a : Bool). a && b) (sym (not_less i 0 (omega arith)))

-- all types
pub types_all : (cs : List ConstantDef) (ts : List Part) (i k : ℕ) (z : ℤ) (has : Bool) → length ts ≤ k
    → has ≡ (ltb i k && enum_has cs (slice_get ts i) z) → has ≡ enum_has cs (slice_get ts i) z
types_all cs ts i k z has le e = e ∙ elim (less_or_more i k) [
  | inl lt ↦ ap (λ (b : Bool). b && enum_has cs (slice_get ts i) z) (less i k lt)
  | inr (inl gt) ↦ past (omega (arith, gt, le))
  | inr (inr same) ↦ past (omega (arith, same, le))
]
  where
    nothing : (b : Bool) → (b && false) ≡ false
    nothing true = refl
    nothing false = refl

    past : length ts ≤ i → (ltb i k && enum_has cs (slice_get ts i) z) ≡ enum_has cs (slice_get ts i) z
    past out =
        let none : slice_get ts i ≡ None = slice_get_past ts i out in
        ap (λ (o : Option Part). ltb i k && enum_has cs o z) none ∙ nothing (ltb i k)
        ∙ sym (ap (λ (o : Option Part). enum_has cs o z) none)

pub none_more : (o e : Bool) → o ≡ (o || (e && false))
none_more o e = nothing_added o e
