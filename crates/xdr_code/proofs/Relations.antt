-- What more bytes change, what completes a short reading, and what makes it too deep.
use Rattle.std.proofs.Common.{◌≡◌, ℕ, ◌+◌, List, ◌++◌, length, Ok, Err}
use Rattle.xdr_code.specs.declared.fault.Why.{Why}
use Rattle.xdr_code.specs.declared.fault.Fault.TheVariants.{Deep, Short, Bad}
use Rattle.xdr_code.specs.Reading.{AtFront}

-- r' is what r becomes where y follows; a refused tag may then be refused for the other cause
abbrev pub Stays : {A : Type 0} → List ℕ → AtFront A → AtFront A → Type 0
Stays y (Ok x) r' = r' ≡ Ok (x.0, x.1 ++ y)
Stays y (Err Short) r' = Unit {0}
Stays y (Err Deep) r' = r' ≡ Err Deep
Stays y (Err (Bad left why)) r' = (cause : Why) × (r' ≡ Err (Bad (left + length y) cause))

-- Where r is Short, y after the bytes gives the spelling of some x.
abbrev pub Ends : {A : Type 0} → List ℕ → (A → List ℕ) → (A → Type 0) → AtFront A → Type 0
Ends bytes spell P (Ok x) = Unit {0}
Ends {A} bytes spell P (Err Short) = (x : A) × (y : List ℕ) × P x × (bytes ++ y ≡ spell x)
Ends bytes spell P (Err Deep) = Unit {0}
Ends bytes spell P (Err (Bad left why)) = Unit {0}

-- where r is Deep, P holds
abbrev pub Deepens : {A : Type 0} → Type 0 → AtFront A → Type 0
Deepens P (Ok x) = Unit {0}
Deepens P (Err Deep) = P
Deepens P (Err Short) = Unit {0}
Deepens P (Err (Bad left why)) = Unit {0}
