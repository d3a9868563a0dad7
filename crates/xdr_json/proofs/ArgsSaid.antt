-- The values that a JSON array is judged to be are those that it says, and they fit their types.
use Rattle.std.proofs.Common.{◌≡◌, ℕ, suc, ◌==◌, List, [], ◌∷◌, length, Bool, true, false, Some, Ok, refl, ap, subst}
use Rattle.std.proofs.Common.{arith, if◌then◌else◌}
use Rattle.std.proofs.lemmas.Bool.{eqb-true, eq-eqb}
use Rattle.std.specs.Prelude.{codes}
use Rattle.serde_json.specs.Data.{Data as Json, Items}
use Rattle.serde_json.specs.Data as json
use Rattle.serde_json.specs.Events.{items_len}
use Rattle.serde_json.specs.Read.{read}
use Rattle.xdr_value.specs.Data.{Kind, Param, Data, end, more, Types}
use Rattle.xdr_value.proofs.FitsLaw.{fits_is}
use Rattle.xdr_json.specs.Args.{args_judged, array_of_args, args_in, in_kinds, no_args}
use Rattle.xdr_json.specs.Judged.{◌>>=◌, below, index_step}
use Rattle.xdr_json.specs.Judging.{judged}
use Rattle.xdr_json.specs.Says.{SaysEach, no_value, one_value, TextSaysArgs, EachFits}
use Rattle.xdr_json.proofs.Names.{Forms}
use Rattle.xdr_json.proofs.Said.{below_is, bound, judged_says}
use Rattle.xdr_json.proofs.Heard.{said_judged}

abbrev EachRight : Types → List Kind → Items → Data → Type 0
EachRight t ks js ds = SaysEach t ks js ds × EachFits t ks ds

each_says : (t : Types) → Forms t → (ks : List Kind) (js : Items) (i : ℕ) (ds : Data) → items_len js ≡ length ks
    → args_judged t ks js i ≡ Ok ds → EachRight t ks js ds
each_says t sound [] json.no_items i ds len found =
    let same : end ≡ ds = cc found in
    subst (λ (es : Data). EachRight t [] json.no_items es) same (no_value, tt)
each_says t sound [] (json.item j js) i ds len found = absurd (omega (arith, len))
each_says t sound (k ∷ ks) json.no_items i ds len found = cc found
each_says t sound (k ∷ ks) (json.item j js) i ds len found =
    let first = bound (below (index_step i) (judged t j k)) (λ d. args_judged t ks js (suc i) >>= λ es. Ok (more d es))
    ds found in
    let others = bound (args_judged t ks js (suc i)) (λ es. Ok (more first.0 es)) ds first.2 in
    let one = judged_says t sound j k first.0 (below_is (index_step i) _ first.0 first.1) in
    let rest = each_says t sound ks js (suc i) others.0 (omega (arith, len)) others.1 in
    let same : more first.0 others.0 ≡ ds = let eq = others.2 in cc eq in
    subst (λ (es : Data). EachRight t (k ∷ ks) (json.item j js) es) same (
      one_value k ks j js first.0 others.0 one.0 rest.0,
      ((fits_is t k first.0).0 one.1, rest.1),
    )

counted : (t : Types) → Forms t → (ks : List Kind) (js : Items) (ds : Data) (b : Bool) → (items_len js == length ks) ≡ b
    → (if b then args_judged t ks js 0 else no_args) ≡ Ok ds → EachRight t ks js ds
counted t sound ks js ds false test found = cc found
counted t sound ks js ds true test found =
    each_says t sound ks js 0 ds (eqb-true (items_len js) (length ks) test) found

array_says : (t : Types) → Forms t → (ks : List Kind) (j : Json) (ds : Data) → array_of_args t ks j ≡ Ok ds
    → (js : Items) × (j ≡ json.array js) × EachRight t ks js ds
array_says t sound ks json.null ds found = cc found
array_says t sound ks (json.boolean b) ds found = cc found
array_says t sound ks (json.number n) ds found = cc found
array_says t sound ks (json.string s) ds found = cc found
array_says t sound ks (json.array js) ds found = (js, refl, counted t sound ks js ds _ refl found)
array_says t sound ks (json.object ms) ds found = cc found

-- a text that reads as JSON which is judged to be values says them, and they fit
pub text_says_args : (t : Types) → Forms t → (ps : List Param) (text : List ℕ) (j : Json) (ds : Data)
    → read text ≡ Some j → below (codes "$") (array_of_args t (in_kinds ps) j) ≡ Ok ds
    → TextSaysArgs t ps text ds × EachFits t (in_kinds ps) ds
text_says_args t sound ps text j ds is found =
    let array = array_says t sound (in_kinds ps) j ds (below_is (codes "$") (array_of_args t (in_kinds ps) j) ds found)
    in
    ((array.0, subst (λ (i : Json). read text ≡ Some i) array.1 is, array.2.0), array.2.1)

each_judged : (t : Types) → Forms t → (ks : List Kind) (js : Items) (i : ℕ) (ds : Data) → SaysEach t ks js ds
    → EachFits t ks ds → (items_len js ≡ length ks) × (args_judged t ks js i ≡ Ok ds)
each_judged t sound ks js i ds no_value fit = (refl, refl)
each_judged t sound ks js i ds (one_value k ks' j js' d ds' first others) fit =
    let rest = each_judged t sound ks' js' (suc i) ds' others fit.1 in
    let one = said_judged t sound k j d first ((fits_is t k d).1 fit.0) in
    (ap suc rest.0, rw (one, rest.1) refl)

-- a text that says values which fit is read as them
pub text_heard_args : (t : Types) → Forms t → (ps : List Param) (text : List ℕ) (ds : Data)
    → TextSaysArgs t ps text ds → EachFits t (in_kinds ps) ds → args_in t ps text ≡ Some (Ok ds)
text_heard_args t sound ps text ds said fit =
    let each = each_judged t sound (in_kinds ps) said.0 0 ds said.2 fit in
    rw (said.1, eq-eqb (items_len said.0) (length (in_kinds ps)) each.0, each.1) refl
