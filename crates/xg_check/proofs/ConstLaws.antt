-- To which others constants lead, and how large their values are.
use Rattle.std.proofs.Common.{◌≡◌, ℕ, ℤ, zero, suc, ◌+◌, ◌^◌, ◌<◌, ◌≤◌, ◌<ℤ◌, ◌+ℤ◌, pos, Bool, true, List, [], ◌∷◌}
use Rattle.std.proofs.Common.{◌++◌, length, set, replicate, get_or, take, slice_get, Option, Some, None, option_map}
use Rattle.std.proofs.Common.{IfSome, refl, sym, ap, subst, ◌∙◌, arith, inl, inr}
use Rattle.std.specs.List.{AllByRecursion}
use Rattle.std.specs.Option.{SomeIff}
use Rattle.std.specs.Int.RustNames.{FitsSigned}
use mir.Syntax.{w128}
use Rattle.std.proofs.lemmas.Int.{ints}
use Rattle.std.proofs.lemmas.List.{take_more, length-map, length-take-le}
use Rattle.std.proofs.lemmas.Option.{slice_get-map, slice_get-get_or, slice_get_within, get_or_from_slice_get}
use Rattle.xg_parse.specs.declared.tree.ConstWord.TheVariants as consts
use Rattle.xg_check.specs.declared.constants.Constant.{Constant as CodeConstant}
use Rattle.xg_check.specs.Graphs.{IsGraph, AreOrdered}
use Rattle.xg_check.specs.Constants.{Given, word, first, next, ConstantDef, constant_names, one_or_none, given_source}
use Rattle.xg_check.specs.Constants.{given_value, ways_from, constant_ways}
use Rattle.xg_check.specs.Views.{constant_of, constants_of}
use Rattle.xg_check.specs.Held.{flat, held_value, AreFound, AreBelow, AreBounded}
use Rattle.xg_check.proofs.RingLaws.{place_inside, length_ways}
use Rattle.xg_check.proofs.SearchLaws.{same_or_not, set_here, set_there}
use Rattle.xg_check.proofs.FuelLaws.{found_more}

-- ---- ways

ways_both : (all : List ConstantDef) (k : ℕ) (xs ys : List ConstantDef)
    → ways_from all k (xs ++ ys) ≡ ways_from all k xs ++ ways_from all (k + length xs) ys
ways_both all k [] ys = let e : k ≡ k + 0 = omega arith in ap (λ (n : ℕ). ways_from all n ys) e
ways_both all k (x ∷ xs) ys =
    let e : suc k + length xs ≡ k + suc (length xs) = omega arith in
    ap (λ (zs : List (List ℕ)). one_or_none (given_source all k x.given) ∷ zs)
    (ways_both all (suc k) xs ys ∙ ap (λ (n : ℕ). ways_from all (suc k) xs ++ ways_from all n ys) e)

pub ways_more : (all cs : List ConstantDef) (i : ℕ) (d : ConstantDef) → i < length cs
    → ways_from all 0 (take (i + 1) cs)
    ≡ ways_from all 0 (take i cs) ++ one_or_none (given_source all i (get_or cs i d).given) ∷ []
ways_more all cs i d lt =
    let e : 0 + length (take i cs) ≡ i = omega (arith, length-take-le i cs (omega (arith, lt))) in
    ap (ways_from all 0) (take_more cs i d lt) ∙ ways_both all 0 (take i cs) (get_or cs i d ∷ [])
    ∙ ap (λ (n : ℕ). ways_from all 0 (take i cs) ++ one_or_none (given_source all n (get_or cs i d).given) ∷ []) e

pub ways_at : (all cs : List ConstantDef) (i : ℕ) (c : ConstantDef) → slice_get cs i ≡ Some c
    → ways_from all 0 (take (i + 1) cs) ≡ ways_from all 0 (take i cs) ++ one_or_none (given_source all i c.given) ∷ []
ways_at all cs i c at =
    ways_more all cs i c (slice_get_within cs i c at)
    ∙ ap (λ (d : ConstantDef). ways_from all 0 (take i cs) ++ one_or_none (given_source all i d.given) ∷ [])
    (get_or_from_slice_get cs i c c at)

one_inside : (n : ℕ) (o : Option ℕ) → ((j : ℕ) → o ≡ Some j → j < n) → AllByRecursion (λ i. i < n) (one_or_none o)
one_inside n None h = tt
one_inside n (Some j) h = (h j refl, tt)

source_inside : (cs : List ConstantDef) (i j : ℕ) (w : Given) → i < length cs → given_source cs i w ≡ Some j
    → j < length cs
source_inside cs i j (word (consts.Literal minus n)) lt e = absurd cc
source_inside cs i j (word (consts.Name name)) lt e =
    omega (arith, place_inside name (constant_names cs) j e, length-map cs (λ (c : ConstantDef). c.name))
source_inside cs i j first lt e = absurd cc
source_inside cs zero j next lt e = absurd cc
source_inside cs (suc i) j next lt e = let is : i ≡ j = cc in omega (arith, is, lt)

from_inside : (all : List ConstantDef) (k : ℕ) (cs : List ConstantDef) → k + length cs ≤ length all
    → AllByRecursion (λ ws. AllByRecursion (λ i. i < length all) ws) (ways_from all k cs)
from_inside all k [] le = tt
from_inside all k (c ∷ cs) le = (
  one_inside (length all) (given_source all k c.given)
      (λ j e. source_inside all k j c.given (omega (arith, le)) e),
  from_inside all (suc k) cs (omega (arith, le)),
)

ways_inside : (cs : List ConstantDef) → IsGraph (constant_ways cs)
ways_inside cs =
    subst (λ (n : ℕ). AllByRecursion (λ ws. AllByRecursion (λ i. i < n) ws) (constant_ways cs))
    (sym (length_ways cs 0 cs)) (from_inside cs 0 cs (omega arith))

pub graph_made : (cs : List ConstantDef) (g : List (List ℕ)) → g ≡ constant_ways cs → IsGraph g
graph_made cs g e = subst (λ (h : List (List ℕ)). IsGraph h) (sym e) (ways_inside cs)

-- ---- bounds

pub none_large : (n k : ℕ) → AreBelow n (replicate k None)
none_large n zero i z e = absurd cc
none_large n (suc k) zero z e = absurd cc
none_large n (suc k) (suc i) z e = none_large n k i z e

pub large_more : (n i : ℕ) (values : List (Option ℤ)) (v : Option ℤ) → AreBelow n values → i < length values
    → IfSome v (λ z. z <ℤ pos (2 ^ 64 + (n + 1))) → AreBelow (n + 1) (set values i v)
large_more n i values v below lt h j z e = elim (same_or_not j i) [
  | inl same ↦
      let at : held_value (set values i v) i ≡ Some z =
      subst (λ (q : ℕ). held_value (set values i v) q ≡ Some z) same e in
      by_value v (sym (ap flat (set_here values i v lt)) ∙ at) h
  | inr ne ↦
      let was : z <ℤ pos (2 ^ 64 + n) = below j z (sym (ap flat (set_there values i j v ne)) ∙ e) in
      omega (arith, ints, was)
]
  where
    by_value : (o : Option ℤ) → o ≡ Some z → IfSome o (λ y. y <ℤ pos (2 ^ 64 + (n + 1))) → z <ℤ pos (2 ^ 64 + (n + 1))
    by_value None e k = absurd cc
    by_value (Some y) e k = let is : y ≡ z = cc in subst (λ (x : ℤ). x <ℤ pos (2 ^ 64 + (n + 1))) is k

pub bounded : (n : ℕ) (values : List (Option ℤ)) → n < 2 ^ 64 + 1 → AreBelow n values → AreBounded values
bounded n values lt below i z e =
    let h : z <ℤ pos (2 ^ 64 + n) = below i z e in omega (arith, ints, h, lt)

pub behind_below : (n i : ℕ) (values : List (Option ℤ)) (v r : Option ℤ) → AreBelow n values → v ≡ held_value values i
    → r ≡ option_map (λ z. z +ℤ pos 1) v → IfSome r (λ z. z <ℤ pos (2 ^ 64 + (n + 1)))
behind_below n i values v r below e is =
    subst (λ (o : Option ℤ). IfSome o (λ z. z <ℤ pos (2 ^ 64 + (n + 1)))) (sym is) (by_value v e)
  where
    by_value : (o : Option ℤ) → o ≡ held_value values i
        → IfSome (option_map (λ z. z +ℤ pos 1) o) (λ z. z <ℤ pos (2 ^ 64 + (n + 1)))
    by_value None h = tt
    by_value (Some z) h = let lt : z <ℤ pos (2 ^ 64 + n) = below i z (sym h) in omega (arith, ints, lt)

-- one more fits
fits_more : (z : ℤ) → FitsSigned w128 z → z <ℤ pos (2 ^ 67) → FitsSigned w128 (z +ℤ pos 1)
fits_more z fit h = omega (arith, ints, fit, h)

pub one_behind : (r : Option ℤ) (z w : ℤ) → FitsSigned w128 z → z <ℤ pos (2 ^ 67) → w ≡ z
    → SomeIff r (FitsSigned w128 (w +ℤ pos 1)) (w +ℤ pos 1) → r ≡ Some (z +ℤ pos 1)
one_behind None z w fit h e k =
    absurd (k (subst (λ (x : ℤ). FitsSigned w128 (x +ℤ pos 1)) (sym e) (fits_more z fit h)))
one_behind (Some x) z w fit h e k = ap Some (k.1 ∙ ap (λ (y : ℤ). y +ℤ pos 1) e)

-- ---- values along an order

pub constant_at : (list : List CodeConstant) (i : ℕ) (c : CodeConstant) → i < length list → c ≡ get_or list i c
    → slice_get (constants_of list) i ≡ Some (constant_of c)
constant_at list i c lt e =
    slice_get-map constant_of list i ∙ ap (option_map constant_of) (slice_get-get_or list i c lt)
    ∙ ap (λ (x : CodeConstant). Some (constant_of x)) (sym e)

module _ (cs : List ConstantDef) (nodes items : List ℕ) (ended : List Bool)
    (o : AreOrdered (constant_ways cs) nodes ended) (is : items ≡ nodes) where
  pub along : AreOrdered (constant_ways cs) items ended
  along = subst (λ (ns : List ℕ). AreOrdered (constant_ways cs) ns ended) (sym is) o

  pub node_small : (k : ℕ) → k < length items → get_or items k 0 < length cs
  node_small k lt =
      let here = along.there k (get_or items k 0) (slice_get-get_or items k 0 lt) in
      omega (arith, slice_get_within ended (get_or items k 0) true here, o.size, length_ways cs 0 cs)

  pub found_next : (k : ℕ) (c : ConstantDef) (values : List (Option ℤ)) (v : Option ℤ) → k < length items
      → slice_get cs (get_or items k 0) ≡ Some c → AreFound cs items k values
      → v ≡ given_value (held_value values) cs (get_or items k 0) c.given
      → AreFound cs items (k + 1) (set values (get_or items k 0) v)
  found_next k c values v lt at f e =
      subst (λ (w : Option ℤ). AreFound cs items (k + 1) (set values (get_or items k 0) w)) (sym e)
      (found_more cs items ended k (get_or items k 0) c values along f (slice_get-get_or items k 0 lt) at)
