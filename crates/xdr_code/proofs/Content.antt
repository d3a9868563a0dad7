-- The items of a spelling: numbers, padding and content.
use Rattle.std.proofs.Common.{◌≡◌, ℕ, zero, suc, ◌<◌, ◌≤◌, Bool, true, false, cond, ltb, List, [], ◌∷◌, ◌++◌, length}
use Rattle.std.proofs.Common.{take, drop, replicate, Result, Ok, Err, refl, sym, ap, ◌∙◌, append_assoc, arith}
use Rattle.std.specs.Int.{Width, byte_len, from_be_bytes, to_be_bytes}
use Rattle.std.proofs.lemmas.Bool.{ltb-false}
use Rattle.std.proofs.lemmas.List.{take-append-drop, length-append, length-take, append-nil}
use Rattle.xdr_value.specs.Spelling.{padding, padded}
use Rattle.xdr_code.specs.declared.fault.Fault.{Fault}
use Rattle.xdr_code.specs.declared.fault.Fault.TheVariants.{Short}
use Rattle.xdr_code.specs.Reading.{◌>>=◌, AtFront, any_number_at, padding_at, octets_at}
use Rattle.xdr_code.proofs.Bytes.{IsBytes, IsBytes-drop, IsBytes-take, IsBytes-rest, IsWide}
use Rattle.xdr_code.proofs.Meets.{Meets, LeftWithin-more}

-- ---- numbers

pub number_meets_at : (w : Width) (limit : ℕ) (wide : IsWide w limit) (bytes : List ℕ) (b : Bool)
    → ltb (length bytes) (byte_len w) ≡ b → IsBytes bytes
    → Meets bytes (to_be_bytes w) (λ n. n < limit)
    (cond b (Err Short) (Ok (from_be_bytes w bytes, drop (byte_len w) bytes)))
number_meets_at w limit wide bytes true e fits = tt
number_meets_at w limit wide bytes false e fits =
    let long : byte_len w ≤ length bytes = ltb-false _ _ e in
    let n-is : from_be_bytes w bytes ≡ from_be_bytes w (take (byte_len w) bytes) = ap (from_be_bytes w)
    (sym (append-nil bytes)) ∙ wide.front bytes [] long in
    let back = wide.back (take (byte_len w) bytes) (omega (arith, length-take (byte_len w) bytes))
    (IsBytes-take (byte_len w) bytes fits) in (
      rw (n-is, back) (sym (take-append-drop (byte_len w) bytes)),
      IsBytes-drop (byte_len w) bytes fits,
      wide.below
          bytes fits,
    )

pub number_meets : (w : Width) (limit : ℕ) (wide : IsWide w limit) (bytes : List ℕ) → IsBytes bytes
    → Meets bytes (to_be_bytes w) (λ n. n < limit) (any_number_at w bytes)
unfolding any_number_at
number_meets w limit wide bytes fits = number_meets_at w limit wide bytes _ refl fits

-- ---- padding

-- the reading of padding, as that of a value that says nothing
abbrev pub unit_front : Result (List ℕ) Fault → AtFront (Unit {0})
unit_front (Ok rest) = Ok (tt, rest)
unit_front (Err f) = Err f

padding_step : (n : ℕ) (bytes : List ℕ) (r : Result (List ℕ) Fault)
    → Meets bytes (λ _. replicate n 0) (λ _. Unit {0}) (unit_front r)
    → Meets (0 ∷ bytes) (λ _. replicate (suc n) 0) (λ _. Unit {0}) (unit_front r)
padding_step n bytes (Ok rest) h = (ap (λ (x : List ℕ). 0 ∷ x) h.0, h.1, h.2)
padding_step n bytes (Err f) h = LeftWithin-more f _ _ (omega arith) h

pub padding_meets : (n : ℕ) (bytes : List ℕ) → IsBytes bytes
    → Meets bytes (λ _. replicate n 0) (λ _. Unit {0}) (unit_front (padding_at n bytes))
unfolding padding_at
padding_meets zero bytes fits = (refl, fits, tt)
padding_meets (suc n) [] fits = tt
padding_meets (suc n) (zero ∷ bytes) fits = padding_step n bytes (padding_at n bytes)
    (padding_meets n bytes (IsBytes-rest 0 bytes fits))
padding_meets (suc n) (suc b ∷ bytes) fits = (omega arith, omega arith)

-- ---- content

length-drop_le : (n : ℕ) (bytes : List ℕ) → length (drop n bytes) ≤ length bytes
length-drop_le n bytes = omega
    (arith, ap length (take-append-drop n bytes), length-append (take n bytes) (drop n bytes))

after_content : (n : ℕ) (bytes : List ℕ) (r : Result (List ℕ) Fault) → n ≤ length bytes
    → Meets (drop n bytes) (λ _. replicate (padding n) 0) (λ _. Unit {0}) (unit_front r)
    → Meets bytes padded (λ c. length c ≡ n) (r >>= λ rest. Ok (take n bytes, rest))
after_content n bytes (Ok rest) le h =
    let len : length (take n bytes) ≡ n = omega (arith, length-take n bytes) in (
      sym (take-append-drop n bytes) ∙ ap (λ (x : List ℕ). take n bytes ++ x) h.0 ∙ sym
          (append_assoc (take n bytes) (replicate (padding n) 0) rest) ∙ ap
          (λ (m : ℕ). (take n bytes ++ replicate (padding m) 0) ++ rest) (sym len),
      h.1,
      len,
    )
after_content n bytes (Err f) le h = LeftWithin-more f _ _ (omega (arith, length-drop_le n bytes)) h

octets_meets_at : (n : ℕ) (bytes : List ℕ) (b : Bool) → ltb (length bytes) n ≡ b → IsBytes bytes
    → Meets bytes padded (λ c. length c ≡ n)
    (cond b (Err Short) (padding_at (padding n) (drop n bytes) >>= λ rest. Ok (take n bytes, rest)))
octets_meets_at n bytes true e fits = tt
octets_meets_at n bytes false e fits = after_content n bytes _ (ltb-false _ _ e)
    (padding_meets (padding n) (drop n bytes) (IsBytes-drop n bytes fits))

pub octets_meets : (n : ℕ) (bytes : List ℕ) → IsBytes bytes → Meets bytes padded (λ c. length c ≡ n) (octets_at n bytes)
unfolding octets_at
octets_meets n bytes fits = octets_meets_at n bytes _ refl fits
