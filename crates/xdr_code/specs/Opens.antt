-- Where, read from the front, a level too many begins. Public clauses cite this module.
use Rattle.std.specs.Prelude.{◌≡◌, ℕ, zero, suc, ◌≤◌, ◌<◌, ◌^◌, List, [], ◌∷◌, ◌++◌, ◌⊎◌, Option, Some, None}
use Rattle.xdr_value.specs.Data.{Kind, Part, Choice, Datum, Types}
use Rattle.xdr_value.specs.Heads.{Head, is_basic, is_enum, is_struct, is_union, is_array, is_array_up_to, is_maybe}
use Rattle.xdr_value.specs.Heads.{is_unknown, head_of, arm_of, arm_kind}
use Rattle.xdr_value.specs.Hollow.{list_limit}
use Rattle.xdr_value.specs.Fits.{Fits, TagFits, tag_number}
use Rattle.xdr_value.specs.Spelling.{word, tag_spelling, spelling}

-- a struct, a union, an array or optional data
abbrev pub HasLevel : Head → Type 0
HasLevel (is_struct ps) = Unit {0}
HasLevel (is_union tag cs) = Unit {0}
HasLevel (is_array k n) = Unit {0}
HasLevel (is_array_up_to k n) = Unit {0}
HasLevel (is_maybe k) = Unit {0}
HasLevel (is_basic b) = ⊥
HasLevel (is_enum ms) = ⊥
HasLevel is_unknown = ⊥

-- where a type and the bytes behind what is whole have it
abbrev pub There : Type 1
There = Kind → List ℕ → Type 0

-- it is in the first part, or that is whole and it is behind it
abbrev pub InParts : Types → There → List Part → List ℕ → Type 0
InParts t there [] bytes = ⊥
InParts t there (p ∷ ps) bytes =
    there p.kind bytes ⊎ ((d : Datum) × (rest : List ℕ) × Fits t p.kind d × (bytes ≡ spelling t p.kind d ++ rest) ×
    InParts t there ps rest)

-- the same of the n elements of an array
abbrev pub InElements : Types → There → Kind → ℕ → List ℕ → Type 0
InElements t there k zero bytes = ⊥
InElements t there k (suc n) bytes =
    there k bytes ⊎ ((d : Datum) × (rest : List ℕ) × Fits t k d × (bytes ≡ spelling t k d ++ rest) × InElements t there
    k n rest)

-- it is in the arm that was chosen
abbrev pub InArm : There → Option Choice → List ℕ → Type 0
InArm there None bytes = ⊥
InArm there (Some c) bytes = there (arm_kind c) bytes

-- it is inside a value of the type, behind what is whole: a count, a flag or a tag, and the parts before it
abbrev pub InHead : Types → There → Head → List ℕ → Type 0
InHead t there (is_struct ps) bytes = InParts t there ps bytes
InHead t there (is_array k n) bytes = InElements t there k n bytes
InHead t there (is_array_up_to k n) bytes = (m : ℕ) × (rest : List ℕ) × (m ≤ list_limit t k n) × (m < 2 ^ 32) ×
    (bytes ≡ word m ++ rest) × InElements t there k m rest
InHead t there (is_maybe k) bytes = (rest : List ℕ) × (bytes ≡ word 1 ++ rest) × there k rest
InHead t there (is_union tag cs) bytes = (d : Datum) × (rest : List ℕ) × TagFits tag d ×
    (bytes ≡ tag_spelling d ++ rest) × InArm there (arm_of (tag_number d) cs) rest
InHead t there (is_basic b) bytes = ⊥
InHead t there (is_enum ms) bytes = ⊥
InHead t there is_unknown bytes = ⊥

-- the level behind n levels begins in the bytes, read as the type
unfoldable pub Opens : ℕ → Types → Kind → List ℕ → Type 0
Opens zero t k bytes = HasLevel (head_of t k)
Opens (suc n) t k bytes = InHead t (Opens n t) (head_of t k) bytes
