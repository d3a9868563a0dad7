-- What the answers of the code say of the judging. Public clauses cite `IsJudged`.
use Rattle.std.specs.Prelude.{◌≡◌, ℕ, List, codes, Option, Some, None, option_map, Result, Ok, Err}
use Rattle.std.specs.String.{string_bytes}
use Rattle.serde_json.specs.Read.{read}
use Rattle.xdr_value.specs.Data.{Kind, Datum, Types}
use Rattle.xdr_value.specs.View.{value_of}
use Rattle.xdr_value.specs.declared.value.Value.{Value}
use Rattle.xdr_json.specs.declared.fault.Stop.{Stop}
use Rattle.xdr_json.specs.declared.fault.Stop.TheVariants as stops
use Rattle.xdr_json.specs.declared.fault.Misfit.{Misfit as CodeMisfit}
use Rattle.xdr_json.specs.declared.fault.JsonFault.{JsonFault}
use Rattle.xdr_json.specs.declared.fault.JsonFault.TheVariants as faults
use Rattle.xdr_json.specs.Judged.{Judged, Misfit, below}
use Rattle.xdr_json.specs.Judging.{judged}

-- the place, as the code has it
abbrev pub misfit_of : CodeMisfit → Misfit
misfit_of m = record { path = string_bytes m.path; want = string_bytes m.want }

-- What a function returned, seen by view, is what the judging gives, unless memory ran out.
abbrev pub Fails : {Y : Type 0} → Stop → Judged Y → Type 0
Fails stops.Memory r = Unit {0}
Fails (stops.Misfit m) r = r ≡ Err (misfit_of m)

-- what a function gave, or why it gave nothing
abbrev pub Gives : {X Y : Type 0} → (X → Y) → Result X Stop → Judged Y → Type 0
Gives view (Ok x) r = r ≡ Ok (view x)
Gives view (Err e) r = Fails e r

-- the value of the type that a text is, or where it is none, or nothing where it is no JSON
abbrev pub value_in : Types → Kind → List ℕ → Option (Judged Datum)
value_in t k text = option_map (λ j. below (codes "$") (judged t j k)) (read text)

-- what each answer of `from_json` says
abbrev pub IsJudged : Types → Kind → List ℕ → Result Value JsonFault → Type 0
IsJudged t k text (Ok v) = value_in t k text ≡ Some (Ok (value_of v))
IsJudged t k text (Err faults.NotJson) = read text ≡ None
IsJudged t k text (Err (faults.Mismatch path want)) =
    value_in t k text ≡ Some (Err (record { path = string_bytes path; want = string_bytes want }))
IsJudged t k text (Err faults.OutOfMemory) = Unit {0}

-- the answer is this value, unless memory ran out
abbrev pub IsValue : Datum → Result Value JsonFault → Type 0
IsValue d (Ok v) = value_of v ≡ d
IsValue d (Err faults.NotJson) = ⊥
IsValue d (Err (faults.Mismatch path want)) = ⊥
IsValue d (Err faults.OutOfMemory) = Unit {0}
