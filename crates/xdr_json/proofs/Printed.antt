-- What is printed of a value: it has no float and nests little, so it is read again.
use Rattle.std.proofs.Common.{◌≡◌, ℕ, ◌≤◌, List, false, Some, ap, ◌∙◌, arith}
use Rattle.serde_json.specs.Data.{Data as Json, depth as nesting}
use Rattle.serde_json.specs.Read.{read}
use Rattle.serde_json.specs.Written.{has_float}
use Rattle.xdr_value.specs.Data.{Kind, Datum, Types}
use Rattle.xdr_value.specs.Fits.{Fits, depth}
use Rattle.xdr_value.proofs.FitsLaw.{fits_is}
use Rattle.xdr_json.specs.Bytes.{OctetsAreBytes}
use Rattle.xdr_json.specs.Json.{json_of}
use Rattle.xdr_json.specs.Says.{TextSays}
use Rattle.xdr_json.proofs.Back.{value_back}
use Rattle.xdr_json.proofs.Names.{Forms}
use Rattle.xdr_json.proofs.Plain.{json_plain}
use Rattle.xdr_json.proofs.Said.{judged_says}

pub no_float : (t : Types) (k : Kind) (d : Datum) (j : Json) → j ≡ json_of t k d → depth d ≤ 64 → has_float j ≡ false
no_float t k d j is deep = ap has_float is ∙ (json_plain t k d 64 deep).whole

-- a text from which JSON that nests little is read back
pub reads : (t : Types) (k : Kind) (d : Datum) (j : Json) (text : List ℕ) → j ≡ json_of t k d → depth d ≤ 64
    → (nesting j ≤ 127 → read text ≡ Some j) → read text ≡ Some (json_of t k d)
reads t k d j text is deep back =
    let shallow = (json_plain t k d 64 deep).shallow in
    let same = ap nesting is in
    back (omega (arith, shallow, same)) ∙ ap (λ (i : Json). Some i) is

-- a text that reads as the JSON of a value that fits says it
pub says : (t : Types) → Forms t → (k : Kind) (d : Datum) (text : List ℕ) → OctetsAreBytes d → Fits t k d
    → read text ≡ Some (json_of t k d) → TextSays t k text d
says t sound k d text held fit is =
    let back = value_back t sound k d held ((fits_is t k d).1 fit) in
    (json_of t k d, is, (judged_says t sound (json_of t k d) k d back).0)
