-- Judging the values of arguments one after the other.
use Rattle.std.proofs.Common.{◌≡◌, ℕ, suc, ◌+◌, ◌≤◌, true, false, List, [], ◌∷◌, ◌++◌, length, length-append, take}
use Rattle.std.proofs.Common.{drop, ◌-◌, get_or, map, Ok, refl, sym, ap, ◌∙◌, subst, arith}
use Rattle.std.proofs.lemmas.List.{take_all}
use Rattle.serde_json.specs.Data.{depth as nesting, items_depth}
use Rattle.serde_json.specs.View.{view, items_view}
use Rattle.serde_json.specs.declared.value.Value.{Value as JsonValue}
use Rattle.xdr_value.specs.declared.def.Arg.{Arg}
use Rattle.xdr_value.specs.Data.{Datum, Data, end, more, Kind, Param, Types}
use Rattle.xdr_value.specs.View.{param_of}
use Rattle.xdr_value.proofs.Lists.{append, append_end}
use Rattle.xdr_json.specs.Args.{args_judged, comes_in, in_kinds}
use Rattle.xdr_json.specs.Judged.{Judged, below, index_step}
use Rattle.xdr_json.specs.Judging.{judged}
use Rattle.xdr_json.proofs.Loop.{with_front, regroup}

-- what stands first in a list that isn't empty, and what follows it
pub first_is : {X : Type 0} (xs : List X) (x : X) → 1 ≤ length xs → x ≡ get_or xs 0 x
    → xs ≡ x ∷ take (length xs - 1) (drop 1 xs)
first_is [] x some is = absurd (omega arith)
first_is {X} (y ∷ ys) x some is =
    let same : y ≡ x = sym is in
    let all : take (length (y ∷ ys) - 1) ys ≡ ys = take_all (length (y ∷ ys) - 1) ys (omega arith) in
    rw all (ap (λ (z : X). z ∷ ys) same)

-- one value more, as many as were judged
pub length-push : {X : Type 0} (xs ys : List X) (x : X) → ys ≡ xs ++ x ∷ [] → length ys ≡ suc (length xs)
length-push xs ys x is = rw is (let n = length-append xs (x ∷ []) in omega (arith, n))

kinds_go : (p : Param) (ps : List Param) → comes_in p.mode ≡ true → in_kinds (p ∷ ps) ≡ p.kind ∷ in_kinds ps
kinds_go p ps e = rw e refl

kinds_stay : (p : Param) (ps : List Param) → comes_in p.mode ≡ false → in_kinds (p ∷ ps) ≡ in_kinds ps
kinds_stay p ps e = rw e refl

-- the types that are left, where the first argument is IN or INOUT, and where it isn't
pub left_go : (left rest : List Arg) (a : Arg) → left ≡ a ∷ rest → comes_in a.mode ≡ true
    → in_kinds (map param_of left) ≡ (param_of a).kind ∷ in_kinds (map param_of rest)
left_go left rest a is e = rw is (kinds_go (param_of a) (map param_of rest) e)

pub left_stay : (left rest : List Arg) (a : Arg) → left ≡ a ∷ rest → comes_in a.mode ≡ false
    → in_kinds (map param_of left) ≡ in_kinds (map param_of rest)
left_stay left rest a is e = rw is (kinds_stay (param_of a) (map param_of rest) e)

pub less_deep : (j : JsonValue) (js left : List JsonValue) (n : ℕ) → left ≡ j ∷ js → items_depth (items_view left) ≤ n
    → (nesting (view j) ≤ n) × (items_depth (items_view js) ≤ n)
less_deep j js left n is deep =
    let all : items_depth (items_view (j ∷ js)) ≤ n = subst (λ xs. items_depth (items_view xs) ≤ n) is deep in
    grind (arith, all)

module _ (t : Types) (k : Kind) (ks all : List Kind) (front : Data) (i : ℕ) (j : JsonValue) (left js : List JsonValue)
    (d : Datum) (total : Judged Data) where
  -- one value more was judged
  pub args_go_on : left ≡ j ∷ js → all ≡ k ∷ ks → below (index_step i) (judged t (view j) k) ≡ Ok d
      → with_front front (args_judged t all (items_view left) i) ≡ total
      → with_front (append front (more d end)) (args_judged t ks (items_view js) (suc i)) ≡ total
  args_go_on is kinds h so_far =
      let one : with_front front (args_judged t all (items_view left) i)
      ≡ with_front (append front (more d end)) (args_judged t ks (items_view js) (suc i)) =
      rw (is, kinds, h) (regroup front d (args_judged t ks (items_view js) (suc i))) in
      sym one ∙ so_far

-- no argument is left
pub args_done : (t : Types) (front : Data) (all : List Kind) (i : ℕ) (left : List JsonValue) (total : Judged Data)
    → all ≡ []
    → with_front front (args_judged t all (items_view left) i) ≡ total → total ≡ Ok front
args_done t front all i left total none so_far = sym so_far ∙ rw none (ap Ok (append_end front))
