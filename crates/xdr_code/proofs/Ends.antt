-- Where the bytes run short, some longer list spells a value.
use Rattle.std.proofs.Common.{◌≡◌, ℕ, ℤ, zero, suc, ◌-◌, ◌^◌, ◌<◌, ◌≤◌, Bool, true, false, cond, ltb, List, [], ◌∷◌}
use Rattle.std.proofs.Common.{◌++◌, length, take, drop, replicate, Option, Some, None, Result, Ok, Err, refl, sym, ap}
use Rattle.std.proofs.Common.{◌∙◌, append_assoc, arith, eqb}
use Rattle.std.specs.Int.{w32, w64, from_be_bytes, to_be_bytes, cast_signed, cast_unsigned}
use Rattle.std.specs.List.{AllByRecursion}
use lib.IntN.{pos}
use Rattle.std.proofs.lemmas.Int.{of_z-to_z}
use Rattle.std.proofs.lemmas.Bool.{ltb-true, ltb-false}
use Rattle.std.proofs.lemmas.List.{length-append, length-replicate, length-take, take-append-drop, append-nil}
use Rattle.xdr_value.specs.declared.ty.Basic.{Basic}
use Rattle.xdr_value.specs.declared.ty.Basic.TheVariants as basics
use Rattle.xdr_value.specs.Data.{Kind, Part, Choice, Datum, number, flag, octets, items, union, none, some, Data, end}
use Rattle.xdr_value.specs.Data.{more, Types}
use Rattle.xdr_value.specs.Heads.{Tag, arm_of, arm_kind, Head, is_basic, is_enum, is_struct, is_union, is_array}
use Rattle.xdr_value.specs.Heads.{is_array_up_to, is_maybe, is_unknown, head_of}
use Rattle.xdr_value.specs.Fits.{Fits, PartsFit, AllFit, TagFits, tag_number, count}
use Rattle.xdr_value.specs.Spelling.{word, tag_spelling, padding, padded, spelling, parts_spelling, all_spelling}
use Rattle.xdr_code.specs.declared.fault.Why.TheVariants as whys
use Rattle.xdr_code.specs.declared.fault.Fault.{Fault}
use Rattle.xdr_code.specs.declared.fault.Fault.TheVariants.{Deep, Short, Bad}
use Rattle.xdr_value.specs.Values.{EnumHas, PartsHave, HaveValues}
use Rattle.xdr_value.specs.Zero.{first_number}
use Rattle.xdr_value.proofs.Tells.{within}
use Rattle.xdr_code.specs.Reading.{◌>>=◌, AtFront, Read, in_set_at, limited_at, any_number_at, padding_at, octets_at}
use Rattle.xdr_code.specs.Reading.{counted_octets_at, basic_at, enum_at, tag_at, parts_at, elements_at, optional_at}
use Rattle.xdr_code.specs.Reading.{arm_at, chosen_at, head_at, value_at}
use Rattle.xdr_code.specs.NumberSets.{around, among, numbers}
use Rattle.xdr_value.specs.Hollow.{list_limit}
use Rattle.xdr_code.proofs.Bytes.{IsBytes, wide32, wide64}
use Rattle.xdr_code.proofs.Lows.{short32, short64}
use Rattle.xdr_code.proofs.Meets.{Meets}
use Rattle.xdr_code.proofs.Relations.{Ends}
use Rattle.xdr_code.proofs.Content.{unit_front}
use Rattle.xdr_code.proofs.ItemLaws.{Allowed, item_ends, limited_meets, limited_ends}
use Rattle.xdr_code.proofs.TagLaws.{TagHasArm, tag_meets, tag_ends}
use Rattle.xdr_code.proofs.Numbers.{within32, within64, around_within, word32, flag_is, back32}
use Rattle.xdr_code.proofs.Reach.{IsBetween, exactly, of_one, of_enum}
use Rattle.xdr_code.proofs.Found.{ReadMeets, FitsWithin, value_meets}

module _ {A B : Type 0} (bytes : List ℕ) (first : A → List ℕ) (M N : A → Type 0) (whole : B → List ℕ) (Q : B → Type 0)
  where
    -- up: what was begun by x can be completed
    ends_then : (r : AtFront A) (f : A × List ℕ → AtFront B) → Meets bytes first M r → Ends bytes first N r
        → ((x : A) → N x → (b : B) × (z : List ℕ) × Q b × (first x ++ z ≡ whole b))
        → ((x : A) (rest : List ℕ) → bytes ≡ first x ++ rest → IsBytes rest → M x → Ends bytes whole Q (f (x, rest)))
        → Ends bytes whole Q (r >>= f)
    ends_then (Ok x) f meets h up go = go x.0 x.1 meets.0 meets.1 meets.2
    ends_then (Err Deep) f meets h up go = tt
    ends_then (Err Short) f meets (x, y, p, e) up go =
        let u = up x p in
        (u.0, y ++ u.1, u.2, sym (append_assoc bytes y u.1) ∙ ap (λ (s : List ℕ). s ++ u.1) e ∙ u.3)
    ends_then (Err (Bad left why)) f meets h up go = tt

ends_as : {A B : Type 0} (bytes : List ℕ) (first : A → List ℕ) (M : A → Type 0) (whole : B → List ℕ) (Q : B → Type 0)
    (g : A → B) (r : AtFront A) → Ends bytes first M r → ((x : A) → M x → (first x ≡ whole (g x)) × Q (g x))
    → Ends bytes whole Q (r >>= λ a. Ok (g a.0, a.1))
ends_as bytes first M whole Q g (Ok x) h go = tt
ends_as bytes first M whole Q g (Err Deep) h go = tt
ends_as bytes first M whole Q g (Err Short) (x, y, p, e) go = (g x, y, (go x p).1, e ∙ (go x p).0)
ends_as bytes first M whole Q g (Err (Bad left why)) h go = tt

ends_behind : {B : Type 0} (bytes front rest : List ℕ) (second : B → List ℕ) (P : B → Type 0) (r : AtFront B)
    → bytes ≡ front ++ rest → Ends rest second P r → Ends bytes (λ b. front ++ second b) P r
ends_behind bytes front rest second P (Ok x) is h = tt
ends_behind bytes front rest second P (Err Deep) is h = tt
ends_behind bytes front rest second P (Err Short) is (x, y, p, e) =
    (x, y, p, ap (λ (s : List ℕ). s ++ y) is ∙ append_assoc front rest y ∙ ap (λ (s : List ℕ). front ++ s) e)
ends_behind bytes front rest second P (Err (Bad left why)) is h = tt

-- ---- numbers

word_ends_at : (bytes : List ℕ) (c : Bool) → ltb (length bytes) 4 ≡ c → IsBytes bytes
    → Ends bytes (to_be_bytes w32) (λ n. n < 2 ^ 32) (cond c (Err Short) (Ok (from_be_bytes w32 bytes, drop 4 bytes)))
word_ends_at bytes false g fits = tt
word_ends_at bytes true g fits = (
  from_be_bytes w32 bytes,
  replicate (4 - length bytes) 0,
  wide32.below bytes fits,
  short32 bytes fits
      (ltb-true _ _ g),
)

word_ends : (bytes : List ℕ) → IsBytes bytes → Ends bytes (to_be_bytes w32) (λ n. n < 2 ^ 32) (any_number_at w32 bytes)
word_ends bytes fits = unfold any_number_at in word_ends_at bytes _ refl fits

double_ends_at : (bytes : List ℕ) (c : Bool) → ltb (length bytes) 8 ≡ c → IsBytes bytes
    → Ends bytes (to_be_bytes w64) (λ n. n < 2 ^ 64) (cond c (Err Short) (Ok (from_be_bytes w64 bytes, drop 8 bytes)))
double_ends_at bytes false g fits = tt
double_ends_at bytes true g fits = (
  from_be_bytes w64 bytes,
  replicate (8 - length bytes) 0,
  wide64.below bytes fits,
  short64 bytes fits
      (ltb-true _ _ g),
)

double_ends : (bytes : List ℕ) → IsBytes bytes → Ends bytes (to_be_bytes w64) (λ n. n < 2 ^ 64)
    (any_number_at w64 bytes)
double_ends bytes fits = unfold any_number_at in double_ends_at bytes _ refl fits

-- ---- content

padding_more : (n : ℕ) (bytes : List ℕ) (r : Result (List ℕ) Fault)
    → Ends bytes (λ _. replicate n 0) (λ _. Unit {0}) (unit_front r)
    → Ends (0 ∷ bytes) (λ _. replicate (suc n) 0) (λ _. Unit {0}) (unit_front r)
padding_more n bytes (Ok x) h = tt
padding_more n bytes (Err Deep) h = tt
padding_more n bytes (Err Short) (x, y, p, e) = (tt, y, tt, ap (λ (s : List ℕ). 0 ∷ s) e)
padding_more n bytes (Err (Bad left why)) h = tt

padding_ends : (n : ℕ) (bytes : List ℕ)
    → Ends bytes (λ _. replicate n 0) (λ _. Unit {0}) (unit_front (padding_at n bytes))
unfolding padding_at
padding_ends zero bytes = tt
padding_ends (suc n) [] = (tt, replicate (suc n) 0, tt, refl)
padding_ends (suc n) (zero ∷ bytes) = padding_more n bytes (padding_at n bytes) (padding_ends n bytes)
padding_ends (suc n) (suc b ∷ bytes) = tt

content_ends : (n : ℕ) (bytes : List ℕ) (r : Result (List ℕ) Fault) → n ≤ length bytes
    → Ends (drop n bytes) (λ _. replicate (padding n) 0) (λ _. Unit {0}) (unit_front r)
    → Ends bytes padded (λ c. length c ≡ n) (r >>= λ rest. Ok (take n bytes, rest))
content_ends n bytes (Ok x) le h = tt
content_ends n bytes (Err Deep) le h = tt
content_ends n bytes (Err (Bad left why)) le h = tt
content_ends n bytes (Err Short) le (x, y, p, e) =
    let len : length (take n bytes) ≡ n = omega (arith, length-take n bytes) in (
      take n bytes,
      y,
      len,
      ap (λ (s : List ℕ). s ++ y) (sym (take-append-drop n bytes)) ∙ append_assoc (take n bytes)
          (drop n bytes) y ∙ ap (λ (s : List ℕ). take n bytes ++ s) e ∙ ap
          (λ (m : ℕ). take n bytes ++ replicate (padding m) 0) (sym len),
    )

octets_ends_at : (n : ℕ) (bytes : List ℕ) (b : Bool) → ltb (length bytes) n ≡ b
    → Ends bytes padded (λ c. length c ≡ n)
    (cond b (Err Short) (padding_at (padding n) (drop n bytes) >>= λ rest. Ok (take n bytes, rest)))
octets_ends_at n bytes false e = content_ends n bytes (padding_at (padding n) (drop n bytes)) (ltb-false _ _ e)
    (padding_ends (padding n) (drop n bytes))
octets_ends_at n bytes true e =
    let lt : length bytes < n = ltb-true _ _ e in
    let c : List ℕ = bytes ++ replicate (n - length bytes) 0 in
    let len : length c ≡ n = omega
    (arith, length-append bytes (replicate (n - length bytes) 0), length-replicate {A = ℕ} (n - length bytes) 0) in (
      c,
      replicate (n - length bytes) 0 ++ replicate (padding (length c)) 0,
      len,
      sym
          (append_assoc bytes (replicate (n - length bytes) 0) (replicate (padding (length c)) 0)),
    )

octets_ends : (n : ℕ) (bytes : List ℕ) → Ends bytes padded (λ c. length c ≡ n) (octets_at n bytes)
octets_ends n bytes = unfold octets_at in octets_ends_at n bytes _ refl

-- ---- values

counted_ends : (limit : ℕ) (t : Types) (k : Kind) (bytes : List ℕ) → IsBytes bytes
    → ((c : List ℕ) → (length c ≤ limit) × (length c < 2 ^ 32)
    → (word (length c) ++ padded c ≡ spelling t k (octets c)) × Fits t k (octets c))
    → Ends bytes (spelling t k) (Fits t k) (counted_octets_at limit bytes)
unfolding counted_octets_at
counted_ends limit t k bytes fits go =
    ends_then bytes word (λ n. (n ≤ limit) × (n < 2 ^ 32)) (λ n. (n ≤ limit) × (n < 2 ^ 32)) (spelling t k) (Fits t k)
    (limited_at limit whys.Length bytes) (λ n. octets_at n.0 n.1 >>= λ content. Ok (octets content.0, content.1))
    (limited_meets limit whys.Length bytes fits) (limited_ends limit whys.Length bytes fits)
    (λ n h.
    let c : List ℕ = replicate n 0 in
    let len : length c ≡ n = length-replicate {A = ℕ} n 0 in
    let g = go c (omega (arith, h), omega (arith, h)) in
    (octets c, padded c, g.1, ap (λ (m : ℕ). word m ++ padded c) (sym len) ∙ g.0))
    (λ n rest is rest_fits h.
    ends_as bytes (λ c. word n ++ padded c) (λ c. length c ≡ n) (spelling t k) (Fits t k) octets (octets_at n rest)
    (ends_behind bytes (word n) rest padded (λ c. length c ≡ n) (octets_at n rest) is (octets_ends n rest))
    (λ c len. let g = go c (omega (arith, h, len), omega (arith, h, len)) in
    (ap (λ (m : ℕ). word m ++ padded c) (sym len) ∙ g.0, g.1)))

basic_ends : (t : Types) (k : Kind) (b : Basic) → head_of t k ≡ is_basic b → (bytes : List ℕ) → IsBytes bytes
    → Ends bytes (spelling t k) (Fits t k) (basic_at b bytes)
unfolding basic_at
basic_ends t k basics.Int e bytes fits =
    ends_as bytes (to_be_bytes w32) (λ m. m < 2 ^ 32) (spelling t k) (Fits t k) (λ m. number (cast_signed w32 m))
    (any_number_at w32 bytes) (word_ends bytes fits) (λ m lt. (rw (e, of_z-to_z w32 m lt) refl, rw e (within32 m lt)))
basic_ends t k basics.Uint e bytes fits =
    ends_as bytes (to_be_bytes w32) (λ m. m < 2 ^ 32) (spelling t k) (Fits t k) (λ m. number (pos m))
    (any_number_at w32 bytes) (word_ends bytes fits) (λ m lt. (rw e refl, rw e lt))
basic_ends t k basics.Hyper e bytes fits =
    ends_as bytes (to_be_bytes w64) (λ m. m < 2 ^ 64) (spelling t k) (Fits t k) (λ m. number (cast_signed w64 m))
    (any_number_at w64 bytes) (double_ends bytes fits) (λ m lt. (rw (e, of_z-to_z w64 m lt) refl, rw e (within64 m lt)))
basic_ends t k basics.Uhyper e bytes fits =
    ends_as bytes (to_be_bytes w64) (λ m. m < 2 ^ 64) (spelling t k) (Fits t k) (λ m. number (pos m))
    (any_number_at w64 bytes) (double_ends bytes fits) (λ m lt. (rw e refl, rw e lt))
basic_ends t k basics.Short e bytes fits =
    ends_as bytes word (Allowed (around 32768)) (spelling t k) (Fits t k) (λ m. number (cast_signed w32 m))
    (in_set_at (around 32768) whys.Range bytes) (item_ends (around 32768) whys.Range 0 bytes fits (refl, omega arith))
    (λ m h. (rw (e, of_z-to_z w32 m h.1) refl, rw e (around_within 32768 m (omega arith) h.1 h.0)))
basic_ends t k basics.Char e bytes fits =
    ends_as bytes word (Allowed (around 128)) (spelling t k) (Fits t k) (λ m. number (cast_signed w32 m))
    (in_set_at (around 128) whys.Range bytes) (item_ends (around 128) whys.Range 0 bytes fits (refl, omega arith))
    (λ m h. (rw (e, of_z-to_z w32 m h.1) refl, rw e (around_within 128 m (omega arith) h.1 h.0)))
basic_ends t k basics.Ushort e bytes fits =
    ends_as bytes word (λ m. (m ≤ 65535) × (m < 2 ^ 32)) (spelling t k) (Fits t k) (λ m. number (pos m))
    (limited_at 65535 whys.Range bytes) (limited_ends 65535 whys.Range bytes fits)
    (λ m h. (rw e refl, rw e (omega (arith, h.0))))
basic_ends t k basics.Uchar e bytes fits =
    ends_as bytes word (λ m. (m ≤ 255) × (m < 2 ^ 32)) (spelling t k) (Fits t k) (λ m. number (pos m))
    (limited_at 255 whys.Range bytes) (limited_ends 255 whys.Range bytes fits)
    (λ m h. (rw e refl, rw e (omega (arith, h.0))))
basic_ends t k basics.Bool e bytes fits =
    ends_as bytes word (λ m. (m ≤ 1) × (m < 2 ^ 32)) (spelling t k) (Fits t k) (λ m. flag (eqb m 1))
    (limited_at 1 whys.Bool bytes) (limited_ends 1 whys.Bool bytes fits) (λ m le. (flag_is m le.0, rw e tt))
basic_ends t k basics.Void e bytes fits = tt
basic_ends t k (basics.Opaque m) e bytes fits =
    ends_as bytes padded (λ c. length c ≡ m) (spelling t k) (Fits t k) octets (octets_at m bytes) (octets_ends m bytes)
    (λ c len. (rw e refl, rw e len))
basic_ends t k (basics.OpaqueUpTo m) e bytes fits = counted_ends m t k bytes fits (λ c le. (rw e refl, rw e le))
basic_ends t k (basics.Text m) e bytes fits = counted_ends m t k bytes fits (λ c le. (rw e refl, rw e le))

enum_ends : (t : Types) (k : Kind) (ms : List (List ℕ × ℤ)) → head_of t k ≡ is_enum ms → EnumHas ms → (bytes : List ℕ)
    → IsBytes bytes → Ends bytes (spelling t k) (Fits t k) (enum_at ms bytes)
unfolding enum_at
enum_ends t k ms e has bytes fits =
    let z : ℤ = first_number ms in
    let in_range = has.within z has.first in
    let between : IsBetween true z (cast_unsigned w32 z) (cast_unsigned w32 z) = record
    { holds = (within (2 ^ 31) z).1 in_range; above = omega arith; under = omega arith } in
    let allowed : Allowed (among true (numbers ms)) (cast_unsigned w32 z) = (
      of_one true (numbers ms) z (cast_unsigned w32 z) (cast_unsigned w32 z) (of_enum ms z ∙ has.first) between,
      word32 z in_range,
    ) in
    ends_as bytes word (Allowed (among true (numbers ms))) (spelling t k) (Fits t k) (λ m. number (cast_signed w32 m))
    (in_set_at (among true (numbers ms)) whys.Enum bytes)
    (item_ends (among true (numbers ms)) whys.Enum (cast_unsigned w32 z) bytes fits allowed)
    (λ m h. (
      rw (e, of_z-to_z w32 m h.1) refl,
      rw e
          (within32 m h.1, sym (of_enum ms (cast_signed w32 m)) ∙ (exactly true (numbers ms) m back32 h.0).1),
    ))

abbrev pub ReadEnds : Types → (Kind → Type 0) → Read → Type 0
ReadEnds t K read = (k : Kind) (bytes : List ℕ) → K k → IsBytes bytes
    → Ends bytes (spelling t k) (Fits t k) (read k bytes)

pub fill_parts : (t : Types) (K : Kind → Type 0) → HaveValues t K → (ps : List Part)
    → AllByRecursion (λ p. K p.kind) ps → (vs : Data) × PartsFit t ps vs
fill_parts t K have [] known = (end, tt)
fill_parts t K have (p ∷ ps) known =
    let v = have.value p.kind known.0 in
    let vs = fill_parts t K have ps known.1 in
    (more v.0 vs.0, (v.1, vs.1))

fill_elements : (t : Types) (K : Kind → Type 0) → HaveValues t K → (k : Kind) (n : ℕ) → K k
    → (vs : Data) × AllFit t k vs × (count vs ≡ n)
fill_elements t K have k zero known = (end, tt, refl)
fill_elements t K have k (suc n) known =
    let v = have.value k known in
    let vs = fill_elements t K have k n known in
    (more v.0 vs.0, (v.1, vs.1), ap suc vs.2)

pub parts_end : (n : ℕ) (t : Types) (K : Kind → Type 0) (read : Read) → HaveValues t K → ReadMeets n t read
    → ReadEnds t K read → (ps : List Part) (bytes : List ℕ) → AllByRecursion (λ p. K p.kind) ps → IsBytes bytes
    → Ends bytes (parts_spelling t ps) (PartsFit t ps) (parts_at read ps bytes)
unfolding parts_at
parts_end n t K read have meets ih [] bytes known fits = tt
parts_end n t K read have meets ih (p ∷ ps) bytes known fits =
    ends_then bytes (spelling t p.kind) (FitsWithin n t p.kind) (Fits t p.kind) (parts_spelling t (p ∷ ps))
    (PartsFit t (p ∷ ps)) (read p.kind bytes)
    (λ first. parts_at read ps first.1 >>= λ others. Ok (more first.0 others.0, others.1))
    (meets p.kind bytes fits) (ih p.kind bytes known.0 fits)
    (λ d h. let vs = fill_parts t K have ps known.1 in (more d vs.0, parts_spelling t ps vs.0, (h, vs.1), refl))
    (λ d rest is rest_fits h. ends_as bytes (λ vs. spelling t p.kind d ++ parts_spelling t ps vs) (PartsFit t ps)
    (parts_spelling t (p ∷ ps)) (PartsFit t (p ∷ ps)) (more d) (parts_at read ps rest)
    (ends_behind bytes (spelling t p.kind d) rest (parts_spelling t ps) (PartsFit t ps) (parts_at read ps rest) is
    (parts_end n t K read have meets ih ps rest known.1 rest_fits)) (λ vs g. (refl, (h.0, g))))

elements_end : (n : ℕ) (t : Types) (K : Kind → Type 0) (read : Read) → HaveValues t K → ReadMeets n t read
    → ReadEnds t K read → (k : Kind) (m : ℕ) (bytes : List ℕ) → K k → IsBytes bytes
    → Ends bytes (all_spelling t k) (λ vs. AllFit t k vs × (count vs ≡ m)) (elements_at read k m bytes)
unfolding elements_at
elements_end n t K read have meets ih k zero bytes known fits = tt
elements_end n t K read have meets ih k (suc m) bytes known fits =
    ends_then bytes (spelling t k) (FitsWithin n t k) (Fits t k) (all_spelling t k)
    (λ vs. AllFit t k vs × (count vs ≡ suc m)) (read k bytes)
    (λ first. elements_at read k m first.1 >>= λ others. Ok (more first.0 others.0, others.1)) (meets k bytes fits)
    (ih k bytes known fits)
    (λ d h. let vs = fill_elements t K have k m known in
    (more d vs.0, all_spelling t k vs.0, ((h, vs.1), ap suc vs.2), refl))
    (λ d rest is rest_fits h. ends_as bytes (λ vs. spelling t k d ++ all_spelling t k vs)
    (λ vs. AllFit t k vs × (count vs ≡ m)) (all_spelling t k) (λ vs. AllFit t k vs × (count vs ≡ suc m)) (more d)
    (elements_at read k m rest)
    (ends_behind bytes (spelling t k d) rest (all_spelling t k) (λ vs. AllFit t k vs × (count vs ≡ m))
    (elements_at read k m rest) is (elements_end n t K read have meets ih k m rest known rest_fits))
    (λ vs g. (refl, ((h.0, g.0), ap suc g.1))))

module _ (t : Types) (K : Kind → Type 0) (read : Read) where
  optional_ends : ReadEnds t K read → (k of : Kind) → head_of t k ≡ is_maybe of → K of → (c : ℕ) (bytes rest : List ℕ)
      → bytes ≡ word c ++ rest → IsBytes rest → c ≤ 1
      → Ends bytes (spelling t k) (Fits t k) (optional_at read of (c, rest))
  optional_ends ih k of e known zero bytes rest is fits le = tt
  optional_ends ih k of e known (suc zero) bytes rest is fits le =
      ends_as bytes (λ d. word 1 ++ spelling t of d) (Fits t of) (spelling t k) (Fits t k) some (read of rest)
      (ends_behind bytes (word 1) rest (spelling t of) (Fits t of) (read of rest) is (ih of rest known fits))
      (λ d h. (rw e refl, rw e h))
  optional_ends ih k of e known (suc (suc c)) bytes rest is fits le = absurd (omega arith)

maybe_filled : (t : Types) (K : Kind → Type 0) → HaveValues t K → (k of : Kind) → head_of t k ≡ is_maybe of → K of
    → (c : ℕ) → c ≤ 1 → (b : Datum) × (z : List ℕ) × Fits t k b × (word c ++ z ≡ spelling t k b)
maybe_filled t K have k of e known zero le = (none, [], rw e tt, append-nil (word 0))
maybe_filled t K have k of e known (suc zero) le = let v = have.value of known in
    (some v.0, spelling t of v.0, rw e v.1, rw e refl)
maybe_filled t K have k of e known (suc (suc c)) le = absurd (omega arith)

module _ (t : Types) (K : Kind → Type 0) (read : Read) (ih : ReadEnds t K read) (k : Kind) (tag : Tag)
    (cs : List Choice) where
  arm_ends : head_of t k ≡ is_union tag cs → (d : Datum) → TagFits tag d
      → ((c : Choice) → arm_of (tag_number d) cs ≡ Some c → K (arm_kind c)) → (o : Option Choice)
      → arm_of (tag_number d) cs ≡ o → (bytes rest : List ℕ) → bytes ≡ tag_spelling d ++ rest → IsBytes rest
      → TagHasArm tag cs d → Ends bytes (spelling t k) (Fits t k) (arm_at read o (d, rest))
  arm_ends e d fits known None has bytes rest is rest_fits h = absurd (cc (has, h.1.1))
  arm_ends e d fits known (Some c) has bytes rest is rest_fits h =
      ends_as bytes (λ v. tag_spelling d ++ spelling t (arm_kind c) v) (Fits t (arm_kind c)) (spelling t k) (Fits t k)
      (union d) (read (arm_kind c) rest)
      (ends_behind bytes (tag_spelling d) rest (spelling t (arm_kind c)) (Fits t (arm_kind c)) (read (arm_kind c) rest)
      is (ih (arm_kind c) rest (known c has) rest_fits))
      (λ v g. (rw (e, has) refl, rw (e, has) (fits, g)))

module _ (n : ℕ) (t : Types) (K : Kind → Type 0) (read : Read) where
  head_ends : HaveValues t K → ReadMeets n t read → ReadEnds t K read → (k : Kind) (h : Head) → head_of t k ≡ h
      → PartsHave K h → (bytes : List ℕ) → IsBytes bytes
      → Ends bytes (spelling t k) (Fits t k) (head_at t (Some read) h bytes)
  unfolding head_at
  head_ends have meets ih k (is_basic b) e known bytes fits = basic_ends t k b e bytes fits
  head_ends have meets ih k (is_enum ms) e known bytes fits = enum_ends t k ms e known bytes fits
  head_ends have meets ih k is_unknown e known bytes fits = absurd known
  head_ends have meets ih k (is_union tag cs) e known bytes fits =
      ends_then bytes tag_spelling (TagHasArm tag cs) (TagHasArm tag cs) (spelling t k) (Fits t k) (tag_at tag cs bytes)
      (chosen_at read cs) (tag_meets tag cs bytes fits) (tag_ends K tag cs known bytes fits)
      (λ d h. let c : Choice = h.1.0 in let v = have.value (arm_kind c) (known.arms (tag_number d) c h.1.1) in
      (union d v.0, spelling t (arm_kind c) v.0, rw (e, h.1.1) (h.0, v.1), rw (e, h.1.1) refl))
      (λ d rest is rest_fits h. arm_ends t K read ih k tag cs e d h.0 (λ c has. known.arms (tag_number d) c has)
      (arm_of (tag_number d) cs) refl bytes rest is rest_fits h)
  head_ends have meets ih k (is_struct ps) e known bytes fits =
      ends_as bytes (parts_spelling t ps) (PartsFit t ps) (spelling t k) (Fits t k) items (parts_at read ps bytes)
      (parts_end n t K read have meets ih ps bytes known fits) (λ vs h. (rw e refl, rw e h))
  head_ends have meets ih k (is_array of m) e known bytes fits =
      ends_as bytes (all_spelling t of) (λ vs. AllFit t of vs × (count vs ≡ m)) (spelling t k) (Fits t k) items
      (elements_at read of m bytes) (elements_end n t K read have meets ih of m bytes known fits)
      (λ vs h. (rw e refl, rw e (h.1, h.0)))
  head_ends have meets ih k (is_array_up_to of m) e known bytes fits =
      ends_then bytes word (λ c. (c ≤ list_limit t of m) × (c < 2 ^ 32)) (λ c. (c ≤ list_limit t of m) × (c < 2 ^ 32))
      (spelling t k) (Fits t k) (limited_at (list_limit t of m) whys.Length bytes)
      (λ c. elements_at read of c.0 c.1 >>= λ vs. Ok (items vs.0, vs.1))
      (limited_meets (list_limit t of m) whys.Length bytes fits)
      (limited_ends (list_limit t of m) whys.Length bytes fits)
      (λ c h. let vs = fill_elements t K have of c known in (
        items vs.0,
        all_spelling t of vs.0,
        rw e (omega (arith, vs.2, h), omega (arith, vs.2, h), vs.1),
        rw e
            (ap (λ (x : ℕ). word x ++ all_spelling t of vs.0) (sym vs.2)),
      ))
      (λ c rest is rest_fits h. ends_as bytes (λ vs. word c ++ all_spelling t of vs)
      (λ vs. AllFit t of vs × (count vs ≡ c)) (spelling t k) (Fits t k) items (elements_at read of c rest)
      (ends_behind bytes (word c) rest (all_spelling t of) (λ vs. AllFit t of vs × (count vs ≡ c))
      (elements_at read of c rest) is (elements_end n t K read have meets ih of c rest known rest_fits))
      (λ vs g. (
        rw e (ap (λ (x : ℕ). word x ++ all_spelling t of vs) (sym g.1)),
        rw e
            (omega (arith, g.1, h), omega (arith, g.1, h), g.0),
      )))
  head_ends have meets ih k (is_maybe of) e known bytes fits =
      ends_then bytes word (λ c. (c ≤ 1) × (c < 2 ^ 32)) (λ c. (c ≤ 1) × (c < 2 ^ 32)) (spelling t k) (Fits t k)
      (limited_at 1 whys.Bool bytes) (optional_at read of) (limited_meets 1 whys.Bool bytes fits)
      (limited_ends 1 whys.Bool bytes fits)
      (λ c h. maybe_filled t K have k of e known c h.0)
      (λ c rest is rest_fits h. optional_ends t K read ih k of e known c bytes rest is rest_fits h.0)

leaf_ends : (t : Types) (K : Kind → Type 0) (k : Kind) (h : Head) → head_of t k ≡ h → PartsHave K h → (bytes : List ℕ)
    → IsBytes bytes → Ends bytes (spelling t k) (Fits t k) (head_at t None h bytes)
unfolding head_at
leaf_ends t K k (is_basic b) e known bytes fits = basic_ends t k b e bytes fits
leaf_ends t K k (is_enum ms) e known bytes fits = enum_ends t k ms e known bytes fits
leaf_ends t K k is_unknown e known bytes fits = absurd known
leaf_ends t K k (is_union tag cs) e known bytes fits = tt
leaf_ends t K k (is_struct ps) e known bytes fits = tt
leaf_ends t K k (is_array of m) e known bytes fits = tt
leaf_ends t K k (is_array_up_to of m) e known bytes fits = tt
leaf_ends t K k (is_maybe of) e known bytes fits = tt

pub value_ends : (n : ℕ) (t : Types) (K : Kind → Type 0) → HaveValues t K → ReadEnds t K (value_at n t)
unfolding value_at
value_ends zero t K have k bytes known fits = leaf_ends t K k (head_of t k) refl (have.parts k known) bytes fits
value_ends (suc n) t K have k bytes known fits = head_ends n t K (value_at n t) have (value_meets n t)
    (value_ends n t K have) k (head_of t k) refl (have.parts k known) bytes fits
