-- From a reading of the rest to places in the bytes.
use Rattle.std.proofs.Common.{◌≡◌, ℕ, ◌+◌, ◌-◌, ◌≤◌, ◌<◌, List, ◌++◌, length, take, drop, Ok, Err, ap, subst, ◌∙◌}
use Rattle.std.proofs.Common.{arith}
use Rattle.std.proofs.lemmas.List.{take_at, drop_at, length-append}
use Rattle.xdr_value.specs.Data.{Kind, Datum, Types}
use Rattle.xdr_value.specs.Spelling.{spelling}
use Rattle.xdr_code.specs.declared.fault.Why.{Why}
use Rattle.xdr_code.specs.declared.fault.Fault.TheVariants.{Bad}
use Rattle.xdr_code.specs.Reading.{AtFront, value_at}
use Rattle.xdr_code.specs.Answers.{SpellsValue}
use Rattle.xdr_code.proofs.Bytes.{IsBytes}
use Rattle.xdr_code.proofs.Meets.{Meets}
use Rattle.xdr_code.proofs.Found.{value_meets, FitsWithin}

pub record IsFront (t : Types) (k : Kind) (bytes : List ℕ) (d : Datum) (rest : List ℕ) : Type 0 where
  pub within : length rest ≤ length bytes
  pub spells : SpellsValue t k d (take (length bytes - length rest) bytes)
  pub left : drop (length bytes - length rest) bytes ≡ rest

from_parts : (t : Types) (k : Kind) (bytes : List ℕ) (d : Datum) (rest : List ℕ) → bytes ≡ spelling t k d ++ rest
    → FitsWithin 64 t k d → IsFront t k bytes d rest
from_parts t k bytes d rest is fits =
    let len : length bytes ≡ length (spelling t k d) + length rest = ap length is ∙ length-append (spelling t k d) rest
    in
    let used : length (spelling t k d) ≡ length bytes - length rest = omega arith in
    record {
      within = omega arith;
      spells = (
        fits.0,
        fits.1,
        ap (take (length bytes - length rest)) is ∙ take_at (spelling t k d) rest
            (length bytes - length rest) used,
      );
      left = ap (drop (length bytes - length rest)) is ∙ drop_at (spelling t k d) rest (length bytes - length rest)
          used;
    }

pub read_front : (t : Types) (k : Kind) (bytes : List ℕ) (d : Datum) (rest : List ℕ) → IsBytes bytes
    → value_at 64 t k bytes ≡ Ok (d, rest) → IsFront t k bytes d rest
read_front t k bytes d rest fits e =
    let m = subst (λ (r : AtFront Datum). Meets bytes (spelling t k) (FitsWithin 64 t k) r) e
    (value_meets 64 t k bytes fits) in
    from_parts t k bytes d rest m.0 m.2

pub refused_within : (t : Types) (k : Kind) (bytes : List ℕ) (left : ℕ) (why : Why) → IsBytes bytes
    → value_at 64 t k bytes ≡ Err (Bad left why) → (0 < left) × (left ≤ length bytes)
refused_within t k bytes left why fits e = subst
    (λ (r : AtFront Datum). Meets bytes (spelling t k) (FitsWithin 64 t k) r) e (value_meets 64 t k bytes fits)
