-- An answer other than Short stays as it is where more bytes follow.
use Rattle.std.proofs.Common.{◌≡◌, ℕ, ℤ, zero, suc, ◌+◌, ◌^◌, ◌≤◌, Bool, true, false, cond, ltb, List, [], ◌∷◌, ◌++◌}
use Rattle.std.proofs.Common.{length, take, drop, Option, Some, None, Result, Ok, Err, refl, sym, ap, ◌∙◌, arith, eqb}
use Rattle.std.specs.Int.{Width, w32, w64, byte_len, from_be_bytes, cast_signed}
use lib.IntN.{pos}
use Rattle.std.proofs.lemmas.Bool.{ltb-false, le-ltb}
use Rattle.std.proofs.lemmas.List.{length-append, drop-append-le, take-append-le, append-nil}
use Rattle.xdr_value.specs.declared.ty.Basic.{Basic}
use Rattle.xdr_value.specs.declared.ty.Basic.TheVariants as basics
use Rattle.xdr_value.specs.Data.{Kind, Part, Choice, Datum, number, flag, octets, items, union, some, more, Types}
use Rattle.xdr_value.specs.Heads.{arm_of, arm_kind, Head, is_basic, is_enum, is_struct, is_union, is_array}
use Rattle.xdr_value.specs.Heads.{is_array_up_to, is_maybe, is_unknown, head_of}
use Rattle.xdr_value.specs.Spelling.{padding}
use Rattle.xdr_value.specs.Fits.{tag_number}
use Rattle.xdr_code.specs.declared.fault.Why.TheVariants as whys
use Rattle.xdr_code.specs.declared.fault.Fault.{Fault}
use Rattle.xdr_code.specs.declared.fault.Fault.TheVariants.{Deep, Short, Bad}
use Rattle.xdr_code.specs.Reading.{◌>>=◌, AtFront, Read, in_set_at, limited_at, any_number_at, padding_at, octets_at}
use Rattle.xdr_code.specs.Reading.{counted_octets_at, basic_at, enum_at, tag_at, parts_at, elements_at, optional_at}
use Rattle.xdr_code.specs.Reading.{arm_at, chosen_at, head_at, value_at}
use Rattle.xdr_code.specs.NumberSets.{around, among, numbers}
use Rattle.xdr_value.specs.Hollow.{list_limit}
use Rattle.xdr_code.proofs.Bytes.{IsBytes, IsWide, wide32, wide64}
use Rattle.xdr_code.proofs.Relations.{Stays}
use Rattle.xdr_code.proofs.ItemLaws.{item_stays, limited_stays}
use Rattle.xdr_code.proofs.TagLaws.{tag_stays}
use Rattle.xdr_code.proofs.Content.{unit_front}

stays_then : {A B : Type 0} (y : List ℕ) (r r' : AtFront A) (f : A × List ℕ → AtFront B) → Stays y r r'
    → ((x : A) (rest : List ℕ) → Stays y (f (x, rest)) (f (x, rest ++ y))) → Stays y (r >>= f) (r' >>= f)
stays_then y (Ok x) r' f h go = rw h (go x.0 x.1)
stays_then y (Err Short) r' f h go = tt
stays_then y (Err Deep) r' f h go = rw h refl
stays_then y (Err (Bad left why)) r' f h go = (h.0, rw h.1 refl)

stays_done : {A B : Type 0} (y : List ℕ) (r r' : AtFront A) (g : A → B) → Stays y r r'
    → Stays y (r >>= λ a. Ok (g a.0, a.1)) (r' >>= λ a. Ok (g a.0, a.1))
stays_done y r r' g h = stays_then y r r' (λ a. Ok (g a.0, a.1)) h (λ x rest. refl)

-- ---- items

number_stays_at : (w : Width) (limit : ℕ) (wide : IsWide w limit) (bytes y : List ℕ) (b : Bool)
    → ltb (length bytes) (byte_len w) ≡ b
    → Stays y (cond b (Err Short) (Ok (from_be_bytes w bytes, drop (byte_len w) bytes))) (any_number_at w (bytes ++ y))
unfolding any_number_at
number_stays_at w limit wide bytes y true e = tt
number_stays_at w limit wide bytes y false e =
    let long : byte_len w ≤ length bytes = ltb-false _ _ e in
    let is : from_be_bytes w (bytes ++ y) ≡ from_be_bytes w bytes = wide.front bytes y long ∙ sym
    (ap (from_be_bytes w) (sym (append-nil bytes)) ∙ wide.front bytes [] long) in
    let h : ltb (length (bytes ++ y)) (byte_len w) ≡ false = le-ltb _ _ (omega (arith, length-append bytes y)) in
    rw (h, is, drop-append-le (byte_len w) bytes y long) refl

number_stays : (w : Width) (limit : ℕ) (wide : IsWide w limit) (bytes y : List ℕ)
    → Stays y (any_number_at w bytes) (any_number_at w (bytes ++ y))
number_stays w limit wide bytes y = unfold any_number_at in number_stays_at w limit wide bytes y _ refl

padding_stays : (n : ℕ) (bytes y : List ℕ)
    → Stays y (unit_front (padding_at n bytes)) (unit_front (padding_at n (bytes ++ y)))
unfolding padding_at
padding_stays zero bytes y = refl
padding_stays (suc n) [] y = tt
padding_stays (suc n) (zero ∷ bytes) y = padding_stays n bytes y
padding_stays (suc n) (suc b ∷ bytes) y =
    let e : suc (length (bytes ++ y)) ≡ suc (length bytes) + length y = omega (arith, length-append bytes y) in
    (whys.Padding, ap (λ (m : ℕ). Err (Bad m whys.Padding)) e)

abbrev kept : List ℕ → List ℕ → AtFront (List ℕ)
kept c rest = Ok (c, rest)

abbrev kept_unit : List ℕ → Unit {0} × List ℕ → AtFront (List ℕ)
kept_unit c u = Ok (c, u.1)

as_unit : (c : List ℕ) (r : Result (List ℕ) Fault) → (r >>= kept c) ≡ (unit_front r >>= kept_unit c)
as_unit c (Ok rest) = refl
as_unit c (Err f) = refl

octets_stays_at : (n : ℕ) (bytes y : List ℕ) (b : Bool) → ltb (length bytes) n ≡ b
    → Stays y (cond b (Err Short) (padding_at (padding n) (drop n bytes) >>= λ rest. Ok (take n bytes, rest)))
    (octets_at n (bytes ++ y))
unfolding octets_at
octets_stays_at n bytes y true e = tt
octets_stays_at n bytes y false e =
    let long : n ≤ length bytes = ltb-false _ _ e in
    let h : ltb (length (bytes ++ y)) n ≡ false = le-ltb _ _ (omega (arith, length-append bytes y)) in
    rw (
      h,
      drop-append-le n bytes y long,
      take-append-le n bytes y long,
      as_unit (take n bytes)
          (padding_at (padding n) (drop n bytes)),
      as_unit (take n bytes) (padding_at (padding n) (drop n bytes ++ y)),
    )
    (stays_done y (unit_front (padding_at (padding n) (drop n bytes)))
    (unit_front (padding_at (padding n) (drop n bytes ++ y))) (λ _. take n bytes)
    (padding_stays (padding n) (drop n bytes) y))

octets_stays : (n : ℕ) (bytes y : List ℕ) → Stays y (octets_at n bytes) (octets_at n (bytes ++ y))
octets_stays n bytes y = unfold octets_at in octets_stays_at n bytes y _ refl

counted_stays : (limit : ℕ) (bytes y : List ℕ) → IsBytes y
    → Stays y (counted_octets_at limit bytes) (counted_octets_at limit (bytes ++ y))
unfolding counted_octets_at
counted_stays limit bytes y fits =
    stays_then y (limited_at limit whys.Length bytes) (limited_at limit whys.Length (bytes ++ y))
    (λ n. octets_at n.0 n.1 >>= λ content. Ok (octets content.0, content.1))
    (limited_stays limit whys.Length bytes y fits)
    (λ n rest. stays_done y (octets_at n rest) (octets_at n (rest ++ y)) octets (octets_stays n rest y))

basic_stays : (b : Basic) (bytes y : List ℕ) → IsBytes y → Stays y (basic_at b bytes) (basic_at b (bytes ++ y))
unfolding basic_at
basic_stays basics.Int bytes y fits = stays_done y (any_number_at w32 bytes) (any_number_at w32 (bytes ++ y))
    (λ n. number (cast_signed w32 n)) (number_stays w32 (2 ^ 32) wide32 bytes y)
basic_stays basics.Uint bytes y fits = stays_done y (any_number_at w32 bytes) (any_number_at w32 (bytes ++ y))
    (λ n. number (pos n)) (number_stays w32 (2 ^ 32) wide32 bytes y)
basic_stays basics.Hyper bytes y fits = stays_done y (any_number_at w64 bytes) (any_number_at w64 (bytes ++ y))
    (λ n. number (cast_signed w64 n)) (number_stays w64 (2 ^ 64) wide64 bytes y)
basic_stays basics.Uhyper bytes y fits = stays_done y (any_number_at w64 bytes) (any_number_at w64 (bytes ++ y))
    (λ n. number (pos n)) (number_stays w64 (2 ^ 64) wide64 bytes y)
basic_stays basics.Short bytes y fits = stays_done y (in_set_at (around 32768) whys.Range bytes)
    (in_set_at (around 32768) whys.Range (bytes ++ y)) (λ n. number (cast_signed w32 n))
    (item_stays (around 32768) whys.Range bytes y fits)
basic_stays basics.Char bytes y fits = stays_done y (in_set_at (around 128) whys.Range bytes)
    (in_set_at (around 128) whys.Range (bytes ++ y)) (λ n. number (cast_signed w32 n))
    (item_stays (around 128) whys.Range bytes y fits)
basic_stays basics.Ushort bytes y fits = stays_done y (limited_at 65535 whys.Range bytes)
    (limited_at 65535 whys.Range (bytes ++ y)) (λ n. number (pos n)) (limited_stays 65535 whys.Range bytes y fits)
basic_stays basics.Uchar bytes y fits = stays_done y (limited_at 255 whys.Range bytes)
    (limited_at 255 whys.Range (bytes ++ y)) (λ n. number (pos n)) (limited_stays 255 whys.Range bytes y fits)
basic_stays basics.Bool bytes y fits = stays_done y (limited_at 1 whys.Bool bytes)
    (limited_at 1 whys.Bool (bytes ++ y)) (λ n. flag (eqb n 1)) (limited_stays 1 whys.Bool bytes y fits)
basic_stays basics.Void bytes y fits = refl
basic_stays (basics.Opaque n) bytes y fits = stays_done y (octets_at n bytes) (octets_at n (bytes ++ y)) octets
    (octets_stays n bytes y)
basic_stays (basics.OpaqueUpTo n) bytes y fits = counted_stays n bytes y fits
basic_stays (basics.Text n) bytes y fits = counted_stays n bytes y fits

enum_stays : (ms : List (List ℕ × ℤ)) (bytes y : List ℕ) → IsBytes y
    → Stays y (enum_at ms bytes) (enum_at ms (bytes ++ y))
unfolding enum_at
enum_stays ms bytes y fits =
    stays_done y (in_set_at (among true (numbers ms)) whys.Enum bytes)
    (in_set_at (among true (numbers ms)) whys.Enum (bytes ++ y)) (λ n. number (cast_signed w32 n))
    (item_stays (among true (numbers ms)) whys.Enum bytes y fits)

-- ---- values

abbrev pub ReadStays : List ℕ → Read → Type 0
ReadStays y read = (k : Kind) (bytes : List ℕ) → Stays y (read k bytes) (read k (bytes ++ y))

pub parts_stays : (y : List ℕ) (read : Read) → ReadStays y read → (ps : List Part) (bytes : List ℕ)
    → Stays y (parts_at read ps bytes) (parts_at read ps (bytes ++ y))
unfolding parts_at
parts_stays y read ih [] bytes = refl
parts_stays y read ih (p ∷ ps) bytes =
    stays_then y (read p.kind bytes) (read p.kind (bytes ++ y))
    (λ first. parts_at read ps first.1 >>= λ others. Ok (more first.0 others.0, others.1)) (ih p.kind bytes)
    (λ d rest. stays_done y (parts_at read ps rest) (parts_at read ps (rest ++ y)) (more d)
    (parts_stays y read ih ps rest))

elements_stays : (y : List ℕ) (read : Read) → ReadStays y read → (k : Kind) (n : ℕ) (bytes : List ℕ)
    → Stays y (elements_at read k n bytes) (elements_at read k n (bytes ++ y))
unfolding elements_at
elements_stays y read ih k zero bytes = refl
elements_stays y read ih k (suc n) bytes =
    stays_then y (read k bytes) (read k (bytes ++ y))
    (λ first. elements_at read k n first.1 >>= λ others. Ok (more first.0 others.0, others.1)) (ih k bytes)
    (λ d rest. stays_done y (elements_at read k n rest) (elements_at read k n (rest ++ y)) (more d)
    (elements_stays y read ih k n rest))

optional_stays : (y : List ℕ) (read : Read) → ReadStays y read → (k : Kind) (n : ℕ) (rest : List ℕ)
    → Stays y (optional_at read k (n, rest)) (optional_at read k (n, rest ++ y))
optional_stays y read ih k zero rest = refl
optional_stays y read ih k (suc n) rest = stays_done y (read k rest) (read k (rest ++ y)) some (ih k rest)

arm_stays : (y : List ℕ) (read : Read) → ReadStays y read → (o : Option Choice) (d : Datum) (rest : List ℕ)
    → Stays y (arm_at read o (d, rest)) (arm_at read o (d, rest ++ y))
arm_stays y read ih None d rest = tt
arm_stays y read ih (Some c) d rest = stays_done y (read (arm_kind c) rest) (read (arm_kind c) (rest ++ y)) (union d)
    (ih (arm_kind c) rest)

head_stays : (t : Types) (y : List ℕ) → IsBytes y → (read : Read) → ReadStays y read → (h : Head) (bytes : List ℕ)
    → Stays y (head_at t (Some read) h bytes) (head_at t (Some read) h (bytes ++ y))
unfolding head_at
head_stays t y fits read ih (is_basic b) bytes = basic_stays b bytes y fits
head_stays t y fits read ih (is_enum ms) bytes = enum_stays ms bytes y fits
head_stays t y fits read ih is_unknown bytes = tt
head_stays t y fits read ih (is_union tag cs) bytes =
    stays_then y (tag_at tag cs bytes) (tag_at tag cs (bytes ++ y)) (chosen_at read cs) (tag_stays tag cs bytes y fits)
    (λ d rest. arm_stays y read ih (arm_of (tag_number d) cs) d rest)
head_stays t y fits read ih (is_struct ps) bytes = stays_done y (parts_at read ps bytes)
    (parts_at read ps (bytes ++ y)) items (parts_stays y read ih ps bytes)
head_stays t y fits read ih (is_array k n) bytes = stays_done y (elements_at read k n bytes)
    (elements_at read k n (bytes ++ y)) items (elements_stays y read ih k n bytes)
head_stays t y fits read ih (is_array_up_to k n) bytes =
    stays_then y (limited_at (list_limit t k n) whys.Length bytes)
    (limited_at (list_limit t k n) whys.Length (bytes ++ y))
    (λ m. elements_at read k m.0 m.1 >>= λ vs. Ok (items vs.0, vs.1))
    (limited_stays (list_limit t k n) whys.Length bytes y fits)
    (λ m rest. stays_done y (elements_at read k m rest) (elements_at read k m (rest ++ y)) items
    (elements_stays y read ih k m rest))
head_stays t y fits read ih (is_maybe k) bytes =
    stays_then y (limited_at 1 whys.Bool bytes) (limited_at 1 whys.Bool (bytes ++ y)) (optional_at read k)
    (limited_stays 1 whys.Bool bytes y fits) (λ n rest. optional_stays y read ih k n rest)

leaf_stays : (t : Types) (y : List ℕ) → IsBytes y → (h : Head) (bytes : List ℕ)
    → Stays y (head_at t None h bytes) (head_at t None h (bytes ++ y))
unfolding head_at
leaf_stays t y fits (is_basic b) bytes = basic_stays b bytes y fits
leaf_stays t y fits (is_enum ms) bytes = enum_stays ms bytes y fits
leaf_stays t y fits is_unknown bytes = tt
leaf_stays t y fits (is_union tag cs) bytes = refl
leaf_stays t y fits (is_struct ps) bytes = refl
leaf_stays t y fits (is_array k n) bytes = refl
leaf_stays t y fits (is_array_up_to k n) bytes = refl
leaf_stays t y fits (is_maybe k) bytes = refl

pub value_stays : (n : ℕ) (t : Types) (y : List ℕ) → IsBytes y → (k : Kind) (bytes : List ℕ)
    → Stays y (value_at n t k bytes) (value_at n t k (bytes ++ y))
unfolding value_at
value_stays zero t y fits k bytes = leaf_stays t y fits (head_of t k) bytes
value_stays (suc n) t y fits k bytes = head_stays t y fits (value_at n t) (value_stays n t y fits) (head_of t k) bytes
