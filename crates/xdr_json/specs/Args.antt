-- The values of a procedure's IN and INOUT arguments as one JSON array. Public clauses cite this module.
use Rattle.std.specs.Prelude.{◌≡◌, ℕ, suc, ◌==◌, List, [], ◌∷◌, length, codes, Bool, true, false, Option, Some, None}
use Rattle.std.specs.Prelude.{option_map, Result, Ok, Err, if◌then◌else◌, Vec}
use Rattle.std.specs.Global.{Global}
use Rattle.std.specs.String.{string_bytes}
use Rattle.serde_json.specs.Data.{Data as Json, Items}
use Rattle.serde_json.specs.Data as json
use Rattle.serde_json.specs.Events.{items_len}
use Rattle.serde_json.specs.Read.{read}
use Rattle.xdr_value.specs.declared.def.Mode.{Mode}
use Rattle.xdr_value.specs.declared.def.Mode.TheVariants as modes
use Rattle.xdr_value.specs.declared.value.Value.{Value}
use Rattle.xdr_value.specs.Data.{Kind, Param, Types, Data, end, more}
use Rattle.xdr_value.specs.View.{values_of}
use Rattle.xdr_json.specs.declared.fault.JsonFault.{JsonFault}
use Rattle.xdr_json.specs.declared.fault.JsonFault.TheVariants as faults
use Rattle.xdr_json.specs.Judged.{Judged, ◌>>=◌, below, index_step}
use Rattle.xdr_json.specs.Judging.{judged}

-- an IN or INOUT argument
abbrev pub comes_in : Mode → Bool
comes_in modes.In = true
comes_in modes.Out = false
comes_in modes.InOut = true

-- the types of the IN and INOUT arguments, in order
abbrev pub in_kinds : List Param → List Kind
in_kinds [] = []
in_kinds (p ∷ ps) = if comes_in p.mode then p.kind ∷ in_kinds ps else in_kinds ps

-- no array with one value for each argument
abbrev pub no_args : {A : Type 0} → Judged A
no_args = Err (record { path = []; want = codes "args" })

-- one value of each type, of which the first is the i-th
abbrev pub args_judged : Types → List Kind → Items → ℕ → Judged Data
args_judged t [] js i = Ok end
args_judged t (k ∷ ks) json.no_items i = no_args
args_judged t (k ∷ ks) (json.item j js) i =
    below (index_step i) (judged t j k) >>= λ d. args_judged t ks js (suc i) >>= λ ds. Ok (more d ds)

-- the values of the types that JSON is, which has one for each
abbrev pub array_of_args : Types → List Kind → Json → Judged Data
array_of_args t ks (json.array js) = if items_len js == length ks then args_judged t ks js 0 else no_args
array_of_args t ks _ = no_args

-- the values of the IN and INOUT arguments that a text is, or where it is none, or nothing where it is no JSON
abbrev pub args_in : Types → List Param → List ℕ → Option (Judged Data)
args_in t ps text = option_map (λ j. below (codes "$") (array_of_args t (in_kinds ps) j)) (read text)

-- what each answer of `args_from_json` says
abbrev pub AreArgs : Types → List Param → List ℕ → Result (Vec Value Global) JsonFault → Type 0
AreArgs t ps text (Ok vs) = args_in t ps text ≡ Some (Ok (values_of vs.items))
AreArgs t ps text (Err faults.NotJson) = read text ≡ None
AreArgs t ps text (Err (faults.Mismatch path want)) =
    args_in t ps text ≡ Some (Err (record { path = string_bytes path; want = string_bytes want }))
AreArgs t ps text (Err faults.OutOfMemory) = Unit {0}

-- the answer is these values, unless memory ran out
abbrev pub IsValues : Data → Result (Vec Value Global) JsonFault → Type 0
IsValues ds (Ok vs) = values_of vs.items ≡ ds
IsValues ds (Err faults.NotJson) = ⊥
IsValues ds (Err (faults.Mismatch path want)) = ⊥
IsValues ds (Err faults.OutOfMemory) = Unit {0}
