-- What a sink tells of the bytes put, and when a count of faults rose. Public clauses cite this module.
use Rattle.std.specs.Prelude.{◌≡◌, ◌⊎◌, ◌<◌, ◌-◌, ◌^◌, ℕ, List, ◌++◌, Option, Some, None}

-- the bytes that were put, where they are told, have gained these; a sink that tells goes on to tell
abbrev pub Gained : Option (List ℕ) → Option (List ℕ) → List ℕ → Type 0
Gained None after bytes = after ≡ None
Gained (Some old) after bytes = after ≡ Some (old ++ bytes)

-- they have gained the first of these
abbrev pub GainedSome : Option (List ℕ) → Option (List ℕ) → List ℕ → Type 0
GainedSome before after bytes = (part rest : List ℕ) × (part ++ rest ≡ bytes) × Gained before after part

-- a count of faults that rose, or stands at its end
abbrev pub HasRisen : ℕ → ℕ → Type 0
HasRisen old new = (old < new) ⊎ (new ≡ 2 ^ 64 - 1)

-- these bytes were put whole and no fault was counted; or a put failed and was counted, and the first of them were put,
-- or none
abbrev pub IsPut : Option (List ℕ) → Option (List ℕ) → ℕ → ℕ → List ℕ → Type 0
IsPut before after old_faults new_faults bytes =
    (Gained before after bytes × (new_faults ≡ old_faults)) ⊎
    (GainedSome before after bytes × HasRisen old_faults new_faults)
