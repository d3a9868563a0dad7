-- Which values the front of a reply is, by how values are spelled.
use Rattle.std.proofs.Common.{◌≡◌, ℕ, List, ◌++◌, Option, Some, None, Ok, Err, refl, sym, ap, ◌∙◌}
use Rattle.std.specs.Prelude.{option_map}
use Rattle.std.specs.Result.{result_ok}
use Rattle.hex.specs.Hex.{IsBytes}
use Rattle.xdr_value.specs.Data.{Procedure, Data, Types}
use Rattle.xdr_code.specs.Reading.{AtFront}
use Rattle.stub_table.specs.declared.stream.Stream.TheVariants as streams
use Rattle.stub_table.specs.Streams.{FitStream, stream_spelling}
use Rattle.stub_table.proofs.Fronts.{read_stream, values_read, values_again}
use Rattle.rx_reply.specs.Replies.{values_front}

-- the values of what was read
abbrev values_in : AtFront Data → Option Data
values_in r = option_map (λ (x : Data × List ℕ). x.0) (result_ok r)

front_is : (t : Types) (p : Procedure) (bytes : List ℕ)
    → values_front t p bytes ≡ values_in (read_stream t streams.Reply p bytes)
unfolding values_front
front_is t p bytes = refl

-- the front is the values that are spelled there
pub front_spelled : (t : Types) (p : Procedure) (bytes rest : List ℕ) (vs : Data) → FitStream t streams.Reply p vs
    → bytes ≡ stream_spelling t streams.Reply p vs ++ rest → values_front t p bytes ≡ Some vs
front_spelled t p bytes rest vs fits is =
    let read : read_stream t streams.Reply p bytes ≡ Ok (vs, rest) =
    ap (read_stream t streams.Reply p) is ∙ values_again t streams.Reply p vs rest fits in
    front_is t p bytes ∙ ap values_in read

none_by : (t : Types) (p : Procedure) (bytes : List ℕ) (r : AtFront Data) → IsBytes bytes
    → ((vs : Data) (rest : List ℕ) → FitStream t streams.Reply p vs
    → bytes ≡ stream_spelling t streams.Reply p vs ++ rest → ⊥)
    → read_stream t streams.Reply p bytes ≡ r → values_in r ≡ None
none_by t p bytes (Ok x) held none is =
    let read = values_read t streams.Reply p bytes x.1 x.0 held is in absurd (none x.0 x.1 read.0 read.1)
none_by t p bytes (Err f) held none is = refl

-- the front is no values where none are spelled there
pub front_empty : (t : Types) (p : Procedure) (bytes : List ℕ) → IsBytes bytes
    → ((vs : Data) (rest : List ℕ) → FitStream t streams.Reply p vs
    → bytes ≡ stream_spelling t streams.Reply p vs ++ rest → ⊥)
    → values_front t p bytes ≡ None
front_empty t p bytes held none =
    front_is t p bytes ∙ none_by t p bytes (read_stream t streams.Reply p bytes) held none refl

spelled_by : (t : Types) (p : Procedure) (bytes : List ℕ) (vs : Data) (r : AtFront Data) → IsBytes bytes
    → read_stream t streams.Reply p bytes ≡ r → values_in r ≡ Some vs
    → FitStream t streams.Reply p vs × (rest : List ℕ) × (bytes ≡ stream_spelling t streams.Reply p vs ++ rest)
spelled_by t p bytes vs (Ok x) held is e =
    let same : x.0 ≡ vs = cc in
    let read = values_read t streams.Reply p bytes x.1 x.0 held is in
    rw (← same) (read.0, x.1, read.1)
spelled_by t p bytes vs (Err f) held is e = absurd cc

-- the values that the front is are spelled there
pub front_spells : (t : Types) (p : Procedure) (bytes : List ℕ) (vs : Data) → IsBytes bytes
    → values_front t p bytes ≡ Some vs
    → FitStream t streams.Reply p vs × (rest : List ℕ) × (bytes ≡ stream_spelling t streams.Reply p vs ++ rest)
front_spells t p bytes vs held e =
    spelled_by t p bytes vs (read_stream t streams.Reply p bytes) held refl (sym (front_is t p bytes) ∙ e)
