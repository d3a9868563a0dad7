-- The numbers that four bytes may have at a place. Public clauses cite this module.
use Rattle.std.specs.Prelude.{◌≡◌, ◌<◌, ◌++◌, ℕ, ℤ, ◌-◌, ◌^◌, Bool, true, false, ◌&&◌, ◌||◌, nat_lt, nat_le, List, []}
use Rattle.std.specs.Prelude.{◌∷◌, Option, Some, None, is_some, map, slice_index_or, if◌then◌else◌}
use Rattle.std.specs.Int.{w32, from_be_bytes, cast_unsigned}
use Rattle.xdr_value.specs.Data.{Choice}
use Rattle.xdr_value.specs.Spelling.{word}
use Rattle.hex.specs.Hex.{IsBytes}
use Rattle.xdr_value.specs.Ranges.{is_below, is_within}
use Rattle.xdr_value.specs.Heads.{Tag, tag_int, tag_uint, tag_bool, tag_enum, tag_other, default_arm}

-- a set of numbers: 0 to n, or -n to n - 1, or a list of numbers, which are signed or not
pub data NumberSet : Type 0 where
  up_to : ℕ → NumberSet
  around : ℕ → NumberSet
  among : Bool → List ℤ → NumberSet

-- four bytes hold the number, in two's complement where it is signed
abbrev pub in_word : Bool → ℤ → Bool
in_word true z = is_within (2 ^ 31) z
in_word false z = is_below (2 ^ 32) z

-- the number's four bytes, as a number, are from low to high
abbrev pub between : Bool → ℤ → ℕ → ℕ → Bool
between signed z low high = in_word signed z && (nat_le low (cast_unsigned w32 z) && nat_le (cast_unsigned w32 z) high)

-- one of the numbers has its four bytes from low to high
abbrev pub some_between : Bool → List ℤ → ℕ → ℕ → Bool
some_between signed [] low high = false
some_between signed (z ∷ zs) low high = between signed z low high || some_between signed zs low high

-- a number of the set has its four bytes from low to high
abbrev pub reached : NumberSet → ℕ → ℕ → Bool
reached (up_to n) low high = nat_le low n
reached (around n) low high = nat_lt low n || nat_le (2 ^ 32 - n) high
reached (among signed zs) low high = some_between signed zs low high

-- the greatest number that the bytes can become, where they are fewer than four
abbrev pub high_word : List ℕ → ℕ
high_word bytes = from_be_bytes w32
    (slice_index_or bytes 0 255 ∷ slice_index_or bytes 1 255 ∷ slice_index_or bytes 2 255 ∷ slice_index_or bytes 3 255
    ∷ [])

-- the numbers of an enum
abbrev pub numbers : List (List ℕ × ℤ) → List ℤ
numbers ms = map (λ (m : List ℕ × ℤ). m.1) ms

-- the case, where it is no default, before the others
abbrev pub with_case : Option ℤ → List ℤ → List ℤ
with_case None zs = zs
with_case (Some z) zs = z ∷ zs

-- the cases of a union
abbrev pub case_numbers : List Choice → List ℤ
case_numbers [] = []
case_numbers (c ∷ cs) = with_case c.case (case_numbers cs)

-- the tag's numbers are signed
abbrev pub is_signed : Tag → Bool
is_signed tag_int = true
is_signed tag_uint = false
is_signed tag_bool = true
is_signed (tag_enum ms) = true
is_signed tag_other = true

-- the numbers of a tag
abbrev pub tag_set : Tag → NumberSet
tag_set tag_int = around (2 ^ 31)
tag_set tag_uint = up_to (2 ^ 32 - 1)
tag_set tag_bool = up_to 1
tag_set (tag_enum ms) = among true (numbers ms)
tag_set tag_other = among true []

-- the numbers of a tag that have an arm
abbrev pub case_set : Tag → List Choice → NumberSet
case_set tag cs = if is_some (default_arm cs) then tag_set tag else among (is_signed tag) (case_numbers cs)

-- the number is one of the set's
abbrev pub HasNumber : NumberSet → ℕ → Type 0
HasNumber item n = (reached item n n ≡ true) × (n < 2 ^ 32)

-- bytes that follow make the bytes a number of the set
abbrev pub BeginsOne : NumberSet → List ℕ → Type 0
BeginsOne item bytes = (n : ℕ) × (y : List ℕ) × IsBytes y × HasNumber item n × (bytes ++ y ≡ word n)
