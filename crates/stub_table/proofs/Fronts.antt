-- What a reading of values says of the bytes.
use Rattle.std.proofs.Common.{◌≡◌, ℕ, ◌≤◌, List, ◌++◌, length, Ok, Err, subst, ap, ◌∙◌, arith}
use Rattle.std.proofs.lemmas.List.{length-append}
use Rattle.xdr_value.specs.Data.{Procedure, Data, Types}
use Rattle.xdr_value.specs.Fits.{PartsFit, depths}
use Rattle.xdr_value.specs.Spelling.{parts_spelling}
use Rattle.xdr_code.specs.declared.fault.Fault.{Fault}
use Rattle.hex.specs.Hex.{IsBytes}
use Rattle.xdr_code.specs.Reading.{AtFront, parts_at, value_at}
use Rattle.xdr_code.proofs.Again.{parts_again}
use Rattle.xdr_code.proofs.Found.{parts_first, value_meets}
use Rattle.xdr_code.proofs.Meets.{Meets}
use Rattle.stub_table.specs.declared.stream.Stream.{Stream}
use Rattle.stub_table.specs.Streams.{FitStream, parts_with, stream_spelling}

-- what is read from the bytes as the values of a stream
abbrev pub read_stream : Types → Stream → Procedure → List ℕ → AtFront Data
read_stream t s p bytes = parts_at (value_at 64 t) (parts_with s p.params) bytes

-- values that were read are spelled in front of the rest
pub values_read : (t : Types) (s : Stream) (p : Procedure) (bytes rest : List ℕ) (vs : Data) → IsBytes bytes
    → read_stream t s p bytes ≡ Ok (vs, rest)
    → FitStream t s p vs × (bytes ≡ stream_spelling t s p vs ++ rest)
values_read t s p bytes rest vs fits e =
    let ps = parts_with s p.params in
    let meets = subst (λ (r : AtFront Data). Meets bytes (parts_spelling t ps)
    (λ ws. PartsFit t ps ws × (depths ws ≤ 64))
    r) e
    (parts_first 64 t (value_at 64 t) (value_meets 64 t) ps bytes fits) in
    (meets.2, meets.0)

-- the rest is no longer than the bytes
pub rest_within : (t : Types) (s : Stream) (p : Procedure) (bytes rest : List ℕ) (vs : Data) → IsBytes bytes
    → read_stream t s p bytes ≡ Ok (vs, rest)
    → length rest ≤ length bytes
rest_within t s p bytes rest vs fits e =
    let read = values_read t s p bytes rest vs fits e in
    omega (arith, ap length read.1, length-append (stream_spelling t s p vs) rest)

-- the values of a stream are read from its bytes
pub values_again : (t : Types) (s : Stream) (p : Procedure) (vs : Data) (rest : List ℕ) → FitStream t s p vs
    → read_stream t s p (stream_spelling t s p vs ++ rest) ≡ Ok (vs, rest)
values_again t s p vs rest fits = (parts_again vs 64 t (parts_with s p.params) rest fits.0).0 fits.1

-- where the reading fails, no front of the bytes spells values
pub none_spelled : (t : Types) (s : Stream) (p : Procedure) (bytes : List ℕ) (f : Fault)
    → read_stream t s p bytes ≡ Err f
    → (vs : Data) (rest : List ℕ) → FitStream t s p vs → bytes ≡ stream_spelling t s p vs ++ rest → ⊥
none_spelled t s p bytes f e vs rest fits is =
    let again : read_stream t s p bytes ≡ Ok (vs, rest) = ap (read_stream t s p) is ∙ values_again t s p vs rest fits in
    absurd cc
