-- What the answers of the code say, by the format alone.
use Rattle.std.proofs.Common.{◌≡◌, ℕ, List, Option, Some, None, Result, Ok, Err, Vec, IfOk, refl, sym, ◌∙◌}
use Rattle.std.specs.Global.{Global}
use Rattle.std.specs.Prelude.{codes, option_map}
use Rattle.serde_json.specs.Data.{Data as Json}
use Rattle.serde_json.specs.Read.{read}
use Rattle.xdr_value.specs.declared.value.Value.{Value}
use Rattle.xdr_value.specs.Data.{Kind, Datum, Data, Param, Types}
use Rattle.xdr_value.specs.View.{value_of, values_of}
use Rattle.xdr_value.specs.Fits.{Fits}
use Rattle.xdr_json.specs.declared.fault.JsonFault.{JsonFault}
use Rattle.xdr_json.specs.declared.fault.JsonFault.TheVariants as faults
use Rattle.xdr_json.specs.Answers.{value_in, IsJudged, IsValue}
use Rattle.xdr_json.specs.Args.{args_in, array_of_args, AreArgs, IsValues, in_kinds}
use Rattle.xdr_json.specs.Judged.{below}
use Rattle.xdr_json.specs.Judging.{judged}
use Rattle.xdr_json.specs.Says.{TextSays, TextSaysArgs, EachFits}
use Rattle.xdr_json.proofs.Names.{Forms}
use Rattle.xdr_json.proofs.Said.{text_says}
use Rattle.xdr_json.proofs.Heard.{text_heard}
use Rattle.xdr_json.proofs.ArgsSaid.{text_says_args, text_heard_args}

-- what was found in a text was found in its JSON
mapped : {A B : Type 0} (f : A → B) (o : Option A) (y : B) → option_map f o ≡ Some y
    → (x : A) × (o ≡ Some x) × (f x ≡ y)
mapped f None y is = cc is
mapped f (Some x) y is = (x, refl, cc is)

value_said : (t : Types) → Forms t → (k : Kind) (text : List ℕ) (d : Datum) → value_in t k text ≡ Some (Ok d)
    → TextSays t k text d × Fits t k d
value_said t sound k text d is =
    let j = mapped (λ (j : Json). below (codes "$") (judged t j k)) (read text) (Ok d) is in
    text_says t sound k text j.0 d j.1 j.2

-- a value that was read fits
pub judged_fits : (t : Types) → Forms t → (k : Kind) (text : List ℕ) (r : Result Value JsonFault) → IsJudged t k text r
    → IfOk r (λ v. Fits t k (value_of v))
judged_fits t sound k text (Ok v) is = (value_said t sound k text (value_of v) is).1
judged_fits t sound k text (Err e) is = tt

-- and the text says it
pub judged_is_said : (t : Types) → Forms t → (k : Kind) (text : List ℕ) (r : Result Value JsonFault)
    → IsJudged t k text r → IfOk r (λ v. TextSays t k text (value_of v))
judged_is_said t sound k text (Ok v) is = (value_said t sound k text (value_of v) is).0
judged_is_said t sound k text (Err e) is = tt

-- a value that the text says and that fits is the answer
pub said_is_judged : (t : Types) → Forms t → (k : Kind) (text : List ℕ) (d : Datum) (r : Result Value JsonFault)
    → IsJudged t k text r → Fits t k d → TextSays t k text d → IsValue d r
said_is_judged t sound k text d (Ok v) is fit said =
    let found = sym is ∙ text_heard t sound k text d said fit in cc found
said_is_judged t sound k text d (Err faults.NotJson) is fit said = let some = said.1 in cc (some, is)
said_is_judged t sound k text d (Err (faults.Mismatch path want)) is fit said =
    let found = sym is ∙ text_heard t sound k text d said fit in cc found
said_is_judged t sound k text d (Err faults.OutOfMemory) is fit said = tt

args_said : (t : Types) → Forms t → (ps : List Param) (text : List ℕ) (ds : Data) → args_in t ps text ≡ Some (Ok ds)
    → TextSaysArgs t ps text ds × EachFits t (in_kinds ps) ds
args_said t sound ps text ds is =
    let j = mapped (λ (j : Json). below (codes "$") (array_of_args t (in_kinds ps) j)) (read text) (Ok ds) is in
    text_says_args t sound ps text j.0 ds j.1 j.2

-- values that were read fit
pub args_fit : (t : Types) → Forms t → (ps : List Param) (text : List ℕ) (r : Result (Vec Value Global) JsonFault)
    → AreArgs t ps text r → IfOk r (λ vs. EachFits t (in_kinds ps) (values_of vs.items))
args_fit t sound ps text (Ok vs) is = (args_said t sound ps text (values_of vs.items) is).1
args_fit t sound ps text (Err e) is = tt

-- and the text says them
pub args_are_said : (t : Types) → Forms t → (ps : List Param) (text : List ℕ)
    (r : Result (Vec Value Global) JsonFault) → AreArgs t ps text r
    → IfOk r (λ vs. TextSaysArgs t ps text (values_of vs.items))
args_are_said t sound ps text (Ok vs) is = (args_said t sound ps text (values_of vs.items) is).0
args_are_said t sound ps text (Err e) is = tt

-- values that the text says and that fit are the answer
pub said_are_args : (t : Types) → Forms t → (ps : List Param) (text : List ℕ) (ds : Data)
    (r : Result (Vec Value Global) JsonFault) → AreArgs t ps text r → EachFits t (in_kinds ps) ds
    → TextSaysArgs t ps text ds → IsValues ds r
said_are_args t sound ps text ds (Ok vs) is fit said =
    let found = sym is ∙ text_heard_args t sound ps text ds said fit in cc found
said_are_args t sound ps text ds (Err faults.NotJson) is fit said = let some = said.1 in cc (some, is)
said_are_args t sound ps text ds (Err (faults.Mismatch path want)) is fit said =
    let found = sym is ∙ text_heard_args t sound ps text ds said fit in cc found
said_are_args t sound ps text ds (Err faults.OutOfMemory) is fit said = tt
