-- What a map from names to places keeps. No public clause cites this module.
use Rattle.std.specs.Prelude.{◌≡◌, ℕ, List}
use Rattle.std.specs.Str.{bytes_eq}
use Rattle.std.specs.declared.hash.FoldHasher.{FoldHasher}
use Rattle.std.specs.declared.hash.BuildHasherDefault.{BuildHasherDefault}
use Rattle.std.specs.HashMap.{HashMap, get_by}
use Rattle.xg_check.specs.Places.{place_of}

-- the map gives the first place of each name
abbrev pub AreFound : {K : Type 0} → List (List ℕ) → (K → List ℕ)
    → HashMap K ℕ (BuildHasherDefault FoldHasher) → Type 0
AreFound names text places = (q : List ℕ) → get_by (λ k. bytes_eq q (text k)) places ≡ place_of q names
