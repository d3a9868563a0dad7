-- Reading from left to right, with the first fault that is met. Public clauses cite `value_at` and `parts_at`.
use Rattle.std.specs.Prelude.{◌≡◌, ℕ, ℤ, zero, suc, List, [], ◌∷◌, ◌++◌, length, take, drop, true, Option, Some, None}
use Rattle.std.specs.Prelude.{Result, Ok, Err, nat_lt, ◌==◌, if◌then◌else◌}
use Rattle.std.specs.Int.{Width, w32, w64, byte_len, from_be_bytes, cast_signed}
use lib.IntN.{pos}
use Rattle.xdr_value.specs.declared.ty.Basic.{Basic}
use Rattle.xdr_value.specs.declared.ty.Basic.TheVariants as basics
use Rattle.xdr_value.specs.Data.{Kind, Part, Choice, Datum, number, flag, octets, items, union, none, some, nothing}
use Rattle.xdr_value.specs.Data.{Data, end, more, Types}
use Rattle.xdr_value.specs.View.{value_of}
use Rattle.xdr_value.specs.declared.value.Value.{Value}
use Rattle.xdr_value.specs.Hollow.{list_limit}
use Rattle.xdr_value.specs.Fits.{tag_number}
use Rattle.xdr_value.specs.Heads.{Tag, tag_int, tag_uint, tag_bool, tag_enum, tag_other, arm_of, arm_kind, Head}
use Rattle.xdr_value.specs.Heads.{is_basic, is_enum, is_struct, is_union, is_array, is_array_up_to, is_maybe}
use Rattle.xdr_value.specs.Heads.{is_unknown, head_of}
use Rattle.xdr_value.specs.Spelling.{padding}
use Rattle.xdr_code.specs.declared.fault.Why.{Why}
use Rattle.xdr_code.specs.declared.fault.Why.TheVariants as whys
use Rattle.xdr_code.specs.declared.fault.Fault.{Fault}
use Rattle.xdr_code.specs.declared.fault.Fault.TheVariants.{Deep, Short, Bad}
use Rattle.xdr_code.specs.NumberSets.{NumberSet, up_to, around, among, reached, high_word, numbers, tag_set, case_set}
use Rattle.xdr_code.specs.declared.fault.Stop.{Stop}
use Rattle.xdr_code.specs.declared.fault.Stop.TheVariants as stops

infixl 10 ◌>>=◌
-- what is read next, where the first was read
abbrev pub ◌>>=◌ : {A B : Type 0} → Result A Fault → (A → Result B Fault) → Result B Fault
(Ok x) >>= f = f x
(Err e) >>= f = Err e

-- What a function returned, seen by view, is what reading gives, unless memory ran out.
abbrev pub Fails : {Y : Type 0} → Stop → Result Y Fault → Type 0
Fails stops.Memory read = Unit {0}
Fails (stops.Fault f) read = read ≡ Err f

-- what it gave, or why it gave nothing
abbrev pub Gives : {X Y : Type 0} → (X → Y) → Result X Stop → Result Y Fault → Type 0
Gives view (Ok x) read = read ≡ Ok (view x)
Gives view (Err e) read = Fails e read

-- What is read at the front, and the bytes after it.
abbrev pub AtFront : Type 0 → Type 0
AtFront A = Result (A × List ℕ) Fault

-- The same of one that puts the value behind others, and returns what follows.
abbrev pub Adds : {X : Type 0} → List Value → List Value → (X → List ℕ) → Result X Stop → AtFront Datum → Type 0
Adds before after view (Ok x) read = (v : Value) × (after ≡ before ++ v ∷ []) × (read ≡ Ok (value_of v, view x))
Adds before after view (Err e) read = Fails e read

-- any number
unfoldable pub any_number_at : Width → List ℕ → AtFront ℕ
any_number_at w bytes = if nat_lt (length bytes) (byte_len w) then Err Short else Ok
    (from_be_bytes w bytes, drop (byte_len w) bytes)

-- a number of the set: refused at once where no number that begins with the bytes is one
unfoldable pub in_set_at : NumberSet → Why → List ℕ → AtFront ℕ
in_set_at item why bytes =
    if nat_lt 0 (length bytes) then
    (if reached item (from_be_bytes w32 bytes) (high_word bytes) then
    (if nat_lt (length bytes) 4 then Err Short else Ok (from_be_bytes w32 bytes, drop 4 bytes))
    else Err (Bad (length bytes) why))
    else Err Short

-- a number that is at most the limit
abbrev pub limited_at : ℕ → Why → List ℕ → AtFront ℕ
limited_at limit why bytes = in_set_at (up_to limit) why bytes

-- so many zero bytes, and the bytes after them
unfoldable pub padding_at : ℕ → List ℕ → Result (List ℕ) Fault
padding_at zero bytes = Ok bytes
padding_at (suc n) [] = Err Short
padding_at (suc n) (zero ∷ bytes) = padding_at n bytes
padding_at (suc n) (suc b ∷ bytes) = Err (Bad (suc (length bytes)) whys.Padding)

-- so many bytes, and what pads them
unfoldable pub octets_at : ℕ → List ℕ → AtFront (List ℕ)
octets_at n bytes =
    if nat_lt (length bytes) n then Err Short
    else padding_at (padding n) (drop n bytes) >>= λ rest. Ok (take n bytes, rest)

-- a length that is at most the limit, and so many bytes
unfoldable pub counted_octets_at : ℕ → List ℕ → AtFront Datum
counted_octets_at limit bytes = do
  n ← limited_at limit whys.Length bytes
  content ← octets_at n.0 n.1
  Ok (octets content.0, content.1)

-- a value of a type that holds no other
unfoldable pub basic_at : Basic → List ℕ → AtFront Datum
basic_at basics.Int bytes = any_number_at w32 bytes >>= λ n. Ok (number (cast_signed w32 n.0), n.1)
basic_at basics.Uint bytes = any_number_at w32 bytes >>= λ n. Ok (number (pos n.0), n.1)
basic_at basics.Hyper bytes = any_number_at w64 bytes >>= λ n. Ok (number (cast_signed w64 n.0), n.1)
basic_at basics.Uhyper bytes = any_number_at w64 bytes >>= λ n. Ok (number (pos n.0), n.1)
basic_at basics.Short bytes = in_set_at (around 32768) whys.Range bytes >>= λ n. Ok (number (cast_signed w32 n.0), n.1)
basic_at basics.Ushort bytes = limited_at 65535 whys.Range bytes >>= λ n. Ok (number (pos n.0), n.1)
basic_at basics.Char bytes = in_set_at (around 128) whys.Range bytes >>= λ n. Ok (number (cast_signed w32 n.0), n.1)
basic_at basics.Uchar bytes = limited_at 255 whys.Range bytes >>= λ n. Ok (number (pos n.0), n.1)
basic_at basics.Bool bytes = limited_at 1 whys.Bool bytes >>= λ n. Ok (flag (n.0 == 1), n.1)
basic_at basics.Void bytes = Ok (nothing, bytes)
basic_at (basics.Opaque n) bytes = octets_at n bytes >>= λ content. Ok (octets content.0, content.1)
basic_at (basics.OpaqueUpTo n) bytes = counted_octets_at n bytes
basic_at (basics.Text n) bytes = counted_octets_at n bytes

-- a member of an enum
unfoldable pub enum_at : List (List ℕ × ℤ) → List ℕ → AtFront Datum
enum_at ms bytes = in_set_at (among true (numbers ms)) whys.Enum bytes >>= λ n. Ok (number (cast_signed w32 n.0), n.1)

-- the tag that has the number
abbrev pub tag_datum : Tag → ℕ → Datum
tag_datum tag_int n = number (cast_signed w32 n)
tag_datum tag_uint n = number (pos n)
tag_datum tag_bool n = flag (n == 1)
tag_datum (tag_enum ms) n = number (cast_signed w32 n)
tag_datum tag_other n = number (cast_signed w32 n)

-- why a number that is no value of the tag's type is refused
abbrev pub tag_why : Tag → Why
tag_why tag_int = whys.Enum
tag_why tag_uint = whys.Enum
tag_why tag_bool = whys.Bool
tag_why (tag_enum ms) = whys.Enum
tag_why tag_other = whys.Enum

-- a tag that has an arm: refused as no tag before it is refused as none of the cases
unfoldable pub tag_at : Tag → List Choice → List ℕ → AtFront Datum
tag_at tag cs bytes =
    if nat_lt 0 (length bytes) then
    (if reached (tag_set tag) (from_be_bytes w32 bytes) (high_word bytes) then
    (in_set_at (case_set tag cs) whys.Case bytes >>= λ n. Ok (tag_datum tag n.0, n.1))
    else Err (Bad (length bytes) (tag_why tag)))
    else Err Short

-- how a value of a type is read
abbrev pub Read : Type 0
Read = Kind → List ℕ → AtFront Datum

-- one value for each field
unfoldable pub parts_at : Read → List Part → List ℕ → AtFront Data
parts_at read [] bytes = Ok (end, bytes)
parts_at read (p ∷ ps) bytes = do
  first ← read p.kind bytes
  others ← parts_at read ps first.1
  Ok (more first.0 others.0, others.1)

-- n values of one type
unfoldable pub elements_at : Read → Kind → ℕ → List ℕ → AtFront Data
elements_at read k zero bytes = Ok (end, bytes)
elements_at read k (suc n) bytes = do
  first ← read k bytes
  others ← elements_at read k n first.1
  Ok (more first.0 others.0, others.1)

-- behind the flag
abbrev pub optional_at : Read → Kind → ℕ × List ℕ → AtFront Datum
optional_at read k (zero, bytes) = Ok (none, bytes)
optional_at read k (suc n, bytes) = read k bytes >>= λ v. Ok (some v.0, v.1)

-- a flag, and what it says is there
abbrev pub maybe_at : Read → Kind → List ℕ → AtFront Datum
maybe_at read k bytes = limited_at 1 whys.Bool bytes >>= optional_at read k

-- what the arm holds behind its tag
abbrev pub arm_at : Read → Option Choice → Datum × List ℕ → AtFront Datum
arm_at read None (tag, bytes) = Err Short
arm_at read (Some c) (tag, bytes) = read (arm_kind c) bytes >>= λ v. Ok (union tag v.0, v.1)

-- the tag's arm
abbrev pub chosen_at : Read → List Choice → Datum × List ℕ → AtFront Datum
chosen_at read cs tag = arm_at read (arm_of (tag_number tag.0) cs) tag

-- where read reads what is one level down, if a level may begin
unfoldable pub head_at : Types → Option Read → Head → List ℕ → AtFront Datum
head_at t inner (is_basic b) bytes = basic_at b bytes
head_at t inner (is_enum ms) bytes = enum_at ms bytes
head_at t inner is_unknown bytes = Err Short
head_at t None (is_struct ps) bytes = Err Deep
head_at t None (is_union tag cs) bytes = Err Deep
head_at t None (is_array k n) bytes = Err Deep
head_at t None (is_array_up_to k n) bytes = Err Deep
head_at t None (is_maybe k) bytes = Err Deep
head_at t (Some read) (is_struct ps) bytes = parts_at read ps bytes >>= λ vs. Ok (items vs.0, vs.1)
head_at t (Some read) (is_union tag cs) bytes = tag_at tag cs bytes >>= chosen_at read cs
head_at t (Some read) (is_array k n) bytes = elements_at read k n bytes >>= λ vs. Ok (items vs.0, vs.1)
head_at t (Some read) (is_array_up_to k n) bytes = limited_at (list_limit t k n) whys.Length bytes >>= λ m. elements_at
    read k m.0 m.1 >>= λ vs. Ok (items vs.0, vs.1)
head_at t (Some read) (is_maybe k) bytes = maybe_at read k bytes

-- a value of the type, where so many levels may begin
unfoldable pub value_at : ℕ → Types → Kind → List ℕ → AtFront Datum
value_at zero t k bytes = head_at t None (head_of t k) bytes
value_at (suc n) t k bytes = head_at t (Some (value_at n t)) (head_of t k) bytes
