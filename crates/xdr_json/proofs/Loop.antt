-- Judging values one after the other, as a loop does.
use Rattle.std.proofs.Common.{◌≡◌, ℕ, ◌+◌, List, [], ◌∷◌, Option, map, Ok, Err, refl, sym, ap, ◌∙◌}
use Rattle.serde_json.specs.View.{view, items_view}
use Rattle.serde_json.specs.declared.value.Value.{Value as JsonValue}
use Rattle.xdr_value.specs.Data.{Datum, Data, end, more, Kind, Types}
use Rattle.xdr_value.specs.View.{kind_of, part_of}
use Rattle.xdr_value.specs.declared.def.Field.{Field}
use Rattle.xdr_value.proofs.Lists.{append, append_end, append_more}
use Rattle.std.specs.String.{string_bytes}
use Rattle.xdr_json.specs.declared.fault.Stop.TheVariants as stops
use Rattle.xdr_json.specs.Judged.{Judged, ◌>>=◌, below, field_step, index_step}
use Rattle.xdr_json.specs.Judging.{Judge, asked, judged, parts_judged, elements_judged}

-- what was judged before, and what is still judged
abbrev pub with_front : Data → Judged Data → Judged Data
with_front front r = r >>= λ ds. Ok (append front ds)

pub regroup : (front : Data) (d : Datum) (r : Judged Data)
    → with_front front (r >>= λ ds. Ok (more d ds)) ≡ with_front (append front (more d end)) r
regroup front d (Ok ds) = ap Ok (sym (append_more front d ds))
regroup front d (Err m) = refl

-- ---- elements

pub elements_go_on : (t : Types) (k : Kind) (front : Data) (i : ℕ) (j : JsonValue) (left js : List JsonValue)
    (d : Datum) (total : Judged Data)
    → left ≡ j ∷ js
    → below (index_step i) (judged t (view j) k) ≡ Ok d
    → with_front front (elements_judged t (items_view left) k i) ≡ total
    → with_front (append front (more d end)) (elements_judged t (items_view js) k (i + 1)) ≡ total
elements_go_on t k front i j left js d total is h so_far =
    let one : with_front front (elements_judged t (items_view left) k i) ≡ with_front (append front (more d end))
    (elements_judged t (items_view js) k (i + 1)) =
    rw (is, h) (regroup front d (elements_judged t (items_view js) k (i + 1))) in
    sym one ∙ so_far

pub elements_done : (t : Types) (k : Kind) (front : Data) (i : ℕ) (left : List JsonValue) (total : Judged Data)
    → left ≡ []
    → with_front front (elements_judged t (items_view left) k i) ≡ total → total ≡ Ok front
elements_done t k front i left total is so_far = sym so_far ∙ rw is (ap Ok (append_end front))

-- ---- parts

pub parts_go_on : (found : List ℕ → Option Judge) (front : Data) (f : Field) (left fs : List Field) (d : Datum)
    (total : Judged Data)
    → left ≡ f ∷ fs
    → below (field_step (string_bytes f.name)) (asked (found (string_bytes f.name)) (kind_of f.ty)) ≡ Ok d
    → with_front front (parts_judged (map part_of left) found) ≡ total
    → with_front (append front (more d end)) (parts_judged (map part_of fs) found) ≡ total
parts_go_on found front f left fs d total is h so_far =
    let one : with_front front (parts_judged (map part_of left) found) ≡ with_front (append front (more d end))
    (parts_judged (map part_of fs) found) =
    rw (is, h) (regroup front d (parts_judged (map part_of fs) found)) in
    sym one ∙ so_far

pub parts_done : (found : List ℕ → Option Judge) (front : Data) (left : List Field) (total : Judged Data) → left ≡ []
    → with_front front (parts_judged (map part_of left) found) ≡ total → total ≡ Ok front
parts_done found front left total is so_far = sym so_far ∙ rw is (ap Ok (append_end front))
