-- What each answer of `decode_front` says of the type and the bytes.
use Rattle.std.specs.Prelude.{◌≡◌, ℕ, ◌-◌, ◌≤◌, ◌<◌, List, ◌++◌, length, take, drop, Ok, Err}
use Rattle.xdr_value.specs.Data.{Kind, Datum, Types}
use Rattle.xdr_value.specs.View.{value_of}
use Rattle.xdr_value.specs.Fits.{Fits, depth}
use Rattle.xdr_value.specs.Spelling.{spelling}
use Rattle.xdr_code.specs.declared.fault.Why.{Why}
use Rattle.xdr_code.specs.declared.fault.Fault.TheVariants as faults
use Rattle.xdr_code.specs.declared.front.Front.{Front}
use Rattle.xdr_code.specs.declared.front.Front.TheVariants.{Whole, Short, Bad, Deep, OutOfMemory}
use Rattle.xdr_code.specs.Reading.{value_at}
use Rattle.xdr_code.specs.Opens.{Opens}
use Rattle.xdr_code.specs.Reaches.{Reaches}
use Rattle.hex.specs.Hex.{IsBytes}

-- a spelling of a value of the type, which is at most 64 deep
abbrev pub SpellsValue : Types → Kind → Datum → List ℕ → Type 0
SpellsValue t k d bytes = Fits t k d × (depth d ≤ 64) × (bytes ≡ spelling t k d)

-- The answer, as the reading gives it.
abbrev pub IsRead : Types → Kind → List ℕ → Front → Type 0
IsRead t k bytes (Whole v used) = (used ≤ length bytes) × (value_at 64 t k bytes ≡ Ok (value_of v, drop used bytes))
IsRead t k bytes Short = value_at 64 t k bytes ≡ Err faults.Short
IsRead t k bytes (Bad at why) = (at < length bytes) × (value_at 64 t k bytes ≡ Err (faults.Bad (length bytes - at) why))
IsRead t k bytes Deep = value_at 64 t k bytes ≡ Err faults.Deep
IsRead t k bytes OutOfMemory = Unit {0}

-- A value of the type, of any depth, whose spelling begins with the bytes or is begun by them.
abbrev pub Agrees : Types → Kind → List ℕ → Datum → Type 0
Agrees t k bytes d = Fits t k d × (y : List ℕ) × (z : List ℕ) × IsBytes y × (bytes ++ y ≡ spelling t k d ++ z)

-- The bytes, and bytes that follow, spell a value of the type, of any depth.
abbrev pub BeginsValue : Types → Kind → List ℕ → Type 0
BeginsValue t k bytes = (d : Datum) × (y : List ℕ) × IsBytes y × Fits t k d × (bytes ++ y ≡ spelling t k d)

-- what each answer says of the values of the type
abbrev pub Tells : Types → Kind → List ℕ → Front → Type 0
Tells t k bytes (Whole v used) = (used ≤ length bytes) × SpellsValue t k (value_of v) (take used bytes)
Tells t k bytes Short =
    ((d : Datum) (z : List ℕ) → Fits t k d → bytes ≡ spelling t k d ++ z → ⊥)
    -- and more bytes make one
    × BeginsValue t k bytes
    × Reaches faults.Short 64 t k bytes
Tells t k bytes (Bad at why) =
    -- some value has the bytes before the place, and none has them all
    (at < length bytes) × BeginsValue t k (take at bytes)
    × ((d : Datum) → Agrees t k bytes d → ⊥)
    -- and the item that stops the reading is at the place
    × Reaches (faults.Bad (length bytes - at) why) 64 t k bytes
Tells t k bytes Deep = Opens 64 t k bytes × ((d : Datum) → Agrees t k bytes d → 64 < depth d)
Tells t k bytes OutOfMemory = Unit {0}

-- the answer is this value and this length
abbrev pub IsWhole : Datum → ℕ → Front → Type 0
IsWhole d n (Whole v used) = (value_of v ≡ d) × (used ≡ n)
IsWhole d n Short = ⊥
IsWhole d n (Bad at why) = ⊥
IsWhole d n Deep = ⊥
IsWhole d n OutOfMemory = Unit {0}

-- the answer is Deep
abbrev pub IsDeep : Front → Type 0
IsDeep (Whole v used) = ⊥
IsDeep Short = ⊥
IsDeep (Bad at why) = ⊥
IsDeep Deep = Unit {0}
IsDeep OutOfMemory = Unit {0}

-- the answer is this refusal, or Deep
abbrev pub IsBad : ℕ → Why → Front → Type 0
IsBad at why (Whole v used) = ⊥
IsBad at why Short = ⊥
IsBad at why (Bad place reason) = (place ≡ at) × (reason ≡ why)
IsBad at why Deep = Unit {0}
IsBad at why OutOfMemory = Unit {0}

-- the answer is Short, or Deep
abbrev pub IsShort : Front → Type 0
IsShort (Whole v used) = ⊥
IsShort Short = Unit {0}
IsShort (Bad at why) = ⊥
IsShort Deep = Unit {0}
IsShort OutOfMemory = Unit {0}
