-- The array that is printed is judged to be the values.
use Rattle.std.proofs.Common.{◌≡◌, ℕ, suc, ◌==◌, true, List, [], ◌∷◌, length, map, Ok, refl, ap}
use Rattle.std.proofs.lemmas.Bool.{eq-eqb}
use Rattle.serde_json.specs.Data.{array}
use Rattle.serde_json.specs.Events.{items_len}
use Rattle.xdr_value.specs.Data.{Kind, Part, Types, Procs, Data, end, more}
use Rattle.xdr_value.specs.Facts.{IsSound}
use Rattle.xdr_value.specs.Fits.{PartsFit}
use Rattle.xdr_value.proofs.FitsLaw.{fits_is}
use Rattle.xdr_json.specs.Args.{args_judged, array_of_args}
use Rattle.xdr_json.specs.Bytes.{AllAreBytes}
use Rattle.xdr_json.proofs.Back.{value_back}
use Rattle.xdr_json.proofs.Names.{Forms}
use Rattle.rx_reply.specs.Replies.{values_json}

-- the types of fields
abbrev kinds_of : List Part → List Kind
kinds_of parts = map (λ (p : Part). p.kind) parts

-- as many elements as fields
counted : (t : Types) (parts : List Part) (vs : Data) → PartsFit t parts vs
    → items_len (values_json t parts vs) ≡ length (kinds_of parts)
counted t [] end fits = refl
counted t [] (more v vs) fits = absurd fits
counted t (p ∷ parts) end fits = absurd fits
counted t (p ∷ parts) (more v vs) fits = ap suc (counted t parts vs fits.1)

judged_again : (t : Types) → Forms t → (parts : List Part) (vs : Data) (i : ℕ) → AllAreBytes vs
    → PartsFit t parts vs → args_judged t (kinds_of parts) (values_json t parts vs) i ≡ Ok vs
judged_again t sound [] end i held fits = refl
judged_again t sound [] (more v vs) i held fits = absurd fits
judged_again t sound (p ∷ parts) end i held fits = absurd fits
judged_again t sound (p ∷ parts) (more v vs) i held fits =
    let first = value_back t sound p.kind v held.0 ((fits_is t p.kind v).1 fits.0) in
    rw (first, judged_again t sound parts vs (suc i) held.1 fits.1) refl

-- the array of values that fit is judged to be them
pub array_again : (t : Types) (ps : Procs) (parts : List Part) (vs : Data) → IsSound t ps → AllAreBytes vs
    → PartsFit t parts vs → array_of_args t (kinds_of parts) (array (values_json t parts vs)) ≡ Ok vs
array_again t ps parts vs sound held fits =
    let many : (items_len (values_json t parts vs) == length (kinds_of parts)) ≡ true =
    eq-eqb _ _ (counted t parts vs fits) in
    rw many (judged_again t sound.forms parts vs 0 held fits)
