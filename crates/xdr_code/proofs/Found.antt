-- What is read is spelled so, and fits.
use Rattle.std.proofs.Common.{◌≡◌, ℕ, ℤ, zero, suc, ◌^◌, ◌<◌, ◌≤◌, true, List, [], ◌∷◌, ◌++◌, length, Option, Some}
use Rattle.std.proofs.Common.{None, Ok, Err, refl, sym, ap, subst, ◌∙◌, arith, eqb}
use Rattle.std.specs.Int.{w32, w64, to_be_bytes, cast_signed}
use lib.IntN.{pos}
use Rattle.std.proofs.lemmas.Int.{of_z-to_z}
use Rattle.xdr_value.specs.declared.ty.Basic.{Basic}
use Rattle.xdr_value.specs.declared.ty.Basic.TheVariants as basics
use Rattle.xdr_value.specs.Data.{Kind, Part, Choice, Datum, number, flag, octets, items, union, some, Data, more, Types}
use Rattle.xdr_value.specs.Heads.{Tag, arm_of, arm_kind, Head, is_basic, is_enum, is_struct, is_union, is_array}
use Rattle.xdr_value.specs.Heads.{is_array_up_to, is_maybe, is_unknown, head_of}
use Rattle.xdr_value.specs.Spelling.{word, tag_spelling, padded, spelling, parts_spelling, all_spelling}
use Rattle.xdr_value.specs.Fits.{Fits, PartsFit, AllFit, TagFits, tag_number, count, depth, depths}
use Rattle.xdr_code.specs.declared.fault.Why.TheVariants as whys
use Rattle.xdr_code.specs.Reading.{◌>>=◌, AtFront, Read, in_set_at, limited_at, any_number_at, octets_at}
use Rattle.xdr_code.specs.Reading.{counted_octets_at, basic_at, enum_at, tag_at, parts_at, elements_at, optional_at}
use Rattle.xdr_code.specs.Reading.{arm_at, chosen_at, head_at, value_at}
use Rattle.xdr_code.specs.NumberSets.{around, among, numbers}
use Rattle.xdr_value.specs.Hollow.{list_limit}
use Rattle.xdr_code.proofs.Bytes.{IsBytes, wide32, wide64}
use Rattle.xdr_code.proofs.Meets.{Meets, meets_then, meets_behind}
use Rattle.xdr_code.proofs.Content.{number_meets, octets_meets}
use Rattle.xdr_code.proofs.ItemLaws.{Allowed, item_meets, limited_meets}
use Rattle.xdr_code.proofs.TagLaws.{TagHasArm, tag_meets}
use Rattle.xdr_code.proofs.Numbers.{within32, within64, around_within, flag_is}
use Rattle.xdr_code.proofs.Reach.{exactly, of_enum}
use Rattle.xdr_code.proofs.Numbers.{back32}

-- of the type, and no deeper than n
abbrev pub FitsWithin : ℕ → Types → Kind → Datum → Type 0
FitsWithin n t k d = Fits t k d × (depth d ≤ n)

-- a reader of types answers as it should
abbrev pub ReadMeets : ℕ → Types → Read → Type 0
ReadMeets n t read = (k : Kind) (bytes : List ℕ) → IsBytes bytes
    → Meets bytes (spelling t k) (FitsWithin n t k) (read k bytes)

-- ---- types without parts

counted_rest : (limit n : ℕ) (bytes rest : List ℕ) → bytes ≡ word n ++ rest → (n ≤ limit) × (n < 2 ^ 32)
    → (r : AtFront (List ℕ)) → Meets rest padded (λ c. length c ≡ n) r
    → Meets bytes (λ c. word (length c) ++ padded c) (λ c. (length c ≤ limit) × (length c < 2 ^ 32)) r
counted_rest limit n bytes rest is le (Ok x) h =
    let b = meets_behind bytes (word n) rest padded (λ c. length c ≡ n) (Ok x) is h in
    (b.0 ∙ ap (λ (m : ℕ). (word m ++ padded x.0) ++ x.1) (sym b.2), b.1, (omega (arith, b.2), omega (arith, b.2)))
counted_rest limit n bytes rest is le (Err f) h = meets_behind bytes (word n) rest padded (λ c. length c ≡ n) (Err f)
    is h

counted_meets : (limit : ℕ) (bytes : List ℕ) → IsBytes bytes
    → Meets bytes (λ c. word (length c) ++ padded c) (λ c. (length c ≤ limit) × (length c < 2 ^ 32))
    (limited_at limit whys.Length bytes >>= λ n. octets_at n.0 n.1)
counted_meets limit bytes fits =
    meets_then bytes word (λ n. (n ≤ limit) × (n < 2 ^ 32)) (λ c. word (length c) ++ padded c)
    (λ c. (length c ≤ limit) × (length c < 2 ^ 32)) (limited_at limit whys.Length bytes) (λ n. octets_at n.0 n.1)
    (limited_meets limit whys.Length bytes fits) (λ n rest is rest_fits le.
    counted_rest limit n bytes rest is le (octets_at n rest) (octets_meets n rest rest_fits))

-- an answer that becomes a value
pub meets_as : {A : Type 0} (bytes : List ℕ) (first : A → List ℕ) (P : A → Type 0) (whole : Datum → List ℕ)
    (Q : Datum → Type 0) (g : A → Datum) (r : AtFront A)
    → Meets bytes first P r → ((x : A) → P x → (first x ≡ whole (g x)) × Q (g x))
    → Meets bytes whole Q (r >>= λ x. Ok (g x.0, x.1))
meets_as bytes first P whole Q g (Ok x) h go =
    let e = go x.0 h.2 in (h.0 ∙ ap (λ (s : List ℕ). s ++ x.1) e.0, h.1, e.1)
meets_as bytes first P whole Q g (Err f) h go = h

abbrev as_octets : List ℕ × List ℕ → AtFront Datum
as_octets c = Ok (octets c.0, c.1)

assoc : (r : AtFront ℕ) → ((r >>= λ n. octets_at n.0 n.1) >>= as_octets) ≡ (r >>= λ n. octets_at n.0 n.1 >>= as_octets)
assoc (Ok x) = refl
assoc (Err f) = refl

counted_value : (n limit : ℕ) (t : Types) (k : Kind) (bytes : List ℕ) → IsBytes bytes
    → ((c : List ℕ) → (length c ≤ limit) × (length c < 2 ^ 32)
    → (word (length c) ++ padded c ≡ spelling t k (octets c)) × FitsWithin n t k (octets c))
    → Meets bytes (spelling t k) (FitsWithin n t k) (counted_octets_at limit bytes)
unfolding counted_octets_at
counted_value n limit t k bytes fits go =
    subst (λ (r : AtFront Datum). Meets bytes (spelling t k) (FitsWithin n t k) r)
    (assoc (limited_at limit whys.Length bytes))
    (meets_as bytes (λ c. word (length c) ++ padded c) (λ c. (length c ≤ limit) × (length c < 2 ^ 32)) (spelling t k)
    (FitsWithin n t k) octets (limited_at limit whys.Length bytes >>= λ n. octets_at n.0 n.1)
    (counted_meets limit bytes fits) go)

basic_meets : (n : ℕ) (t : Types) (k : Kind) (b : Basic) → head_of t k ≡ is_basic b → (bytes : List ℕ) → IsBytes bytes
    → Meets bytes (spelling t k) (FitsWithin n t k) (basic_at b bytes)
unfolding basic_at
basic_meets n t k basics.Int e bytes fits =
    meets_as bytes (to_be_bytes w32) (λ m. m < 2 ^ 32) (spelling t k) (FitsWithin n t k)
    (λ m. number (cast_signed w32 m)) (any_number_at w32 bytes) (number_meets w32 (2 ^ 32) wide32 bytes fits)
    (λ m lt. (rw (e, of_z-to_z w32 m lt) refl, (rw e (within32 m lt), omega arith)))
basic_meets n t k basics.Uint e bytes fits =
    meets_as bytes (to_be_bytes w32) (λ m. m < 2 ^ 32) (spelling t k) (FitsWithin n t k) (λ m. number (pos m))
    (any_number_at w32 bytes) (number_meets w32 (2 ^ 32) wide32 bytes fits)
    (λ m lt. (rw e refl, (rw e lt, omega arith)))
basic_meets n t k basics.Hyper e bytes fits =
    meets_as bytes (to_be_bytes w64) (λ m. m < 2 ^ 64) (spelling t k) (FitsWithin n t k)
    (λ m. number (cast_signed w64 m)) (any_number_at w64 bytes) (number_meets w64 (2 ^ 64) wide64 bytes fits)
    (λ m lt. (rw (e, of_z-to_z w64 m lt) refl, (rw e (within64 m lt), omega arith)))
basic_meets n t k basics.Uhyper e bytes fits =
    meets_as bytes (to_be_bytes w64) (λ m. m < 2 ^ 64) (spelling t k) (FitsWithin n t k) (λ m. number (pos m))
    (any_number_at w64 bytes) (number_meets w64 (2 ^ 64) wide64 bytes fits)
    (λ m lt. (rw e refl, (rw e lt, omega arith)))
basic_meets n t k basics.Short e bytes fits =
    meets_as bytes word (Allowed (around 32768)) (spelling t k) (FitsWithin n t k) (λ m. number (cast_signed w32 m))
    (in_set_at (around 32768) whys.Range bytes) (item_meets (around 32768) whys.Range bytes fits)
    (λ m h. (rw (e, of_z-to_z w32 m h.1) refl, (rw e (around_within 32768 m (omega arith) h.1 h.0), omega arith)))
basic_meets n t k basics.Char e bytes fits =
    meets_as bytes word (Allowed (around 128)) (spelling t k) (FitsWithin n t k) (λ m. number (cast_signed w32 m))
    (in_set_at (around 128) whys.Range bytes) (item_meets (around 128) whys.Range bytes fits)
    (λ m h. (rw (e, of_z-to_z w32 m h.1) refl, (rw e (around_within 128 m (omega arith) h.1 h.0), omega arith)))
basic_meets n t k basics.Ushort e bytes fits =
    meets_as bytes word (λ m. (m ≤ 65535) × (m < 2 ^ 32)) (spelling t k) (FitsWithin n t k) (λ m. number (pos m))
    (limited_at 65535 whys.Range bytes) (limited_meets 65535 whys.Range bytes fits)
    (λ m h. (rw e refl, (rw e (omega (arith, h.0)), omega arith)))
basic_meets n t k basics.Uchar e bytes fits =
    meets_as bytes word (λ m. (m ≤ 255) × (m < 2 ^ 32)) (spelling t k) (FitsWithin n t k) (λ m. number (pos m))
    (limited_at 255 whys.Range bytes) (limited_meets 255 whys.Range bytes fits)
    (λ m h. (rw e refl, (rw e (omega (arith, h.0)), omega arith)))
basic_meets n t k basics.Bool e bytes fits =
    meets_as bytes word (λ m. (m ≤ 1) × (m < 2 ^ 32)) (spelling t k) (FitsWithin n t k) (λ m. flag (eqb m 1))
    (limited_at 1 whys.Bool bytes) (limited_meets 1 whys.Bool bytes fits)
    (λ m le. (flag_is m le.0, (rw e tt, omega arith)))
basic_meets n t k basics.Void e bytes fits = (refl, fits, (rw e tt, omega arith))
basic_meets n t k (basics.Opaque m) e bytes fits =
    meets_as bytes padded (λ c. length c ≡ m) (spelling t k) (FitsWithin n t k) octets (octets_at m bytes)
    (octets_meets m bytes fits)
    (λ c len. (rw e refl, (rw e len, omega arith)))
basic_meets n t k (basics.OpaqueUpTo m) e bytes fits = counted_value n m t k bytes fits
    (λ c le. (rw e refl, (rw e le, omega arith)))
basic_meets n t k (basics.Text m) e bytes fits = counted_value n m t k bytes fits
    (λ c le. (rw e refl, (rw e le, omega arith)))

-- a member of the enum
enum_meets : (n : ℕ) (t : Types) (k : Kind) (ms : List (List ℕ × ℤ)) → head_of t k ≡ is_enum ms → (bytes : List ℕ)
    → IsBytes bytes → Meets bytes (spelling t k) (FitsWithin n t k) (enum_at ms bytes)
unfolding enum_at
enum_meets n t k ms e bytes fits =
    meets_as bytes word (Allowed (among true (numbers ms))) (spelling t k) (FitsWithin n t k)
    (λ m. number (cast_signed w32 m)) (in_set_at (among true (numbers ms)) whys.Enum bytes)
    (item_meets (among true (numbers ms)) whys.Enum bytes fits)
    (λ m h. (
      rw (e, of_z-to_z w32 m h.1) refl,
      (
        rw e (within32 m h.1, sym (of_enum ms (cast_signed w32 m)) ∙ (exactly true (numbers ms) m back32 h.0).1),
        omega arith,
      ),
    ))

-- ---- types with parts

data_as : (bytes : List ℕ) (first : Data → List ℕ) (P : Data → Type 0) (whole : Datum → List ℕ) (Q : Datum → Type 0)
    (r : AtFront Data)
    → Meets bytes first P r → ((vs : Data) → P vs → (first vs ≡ whole (items vs)) × Q (items vs))
    → Meets bytes whole Q (r >>= λ x. Ok (items x.0, x.1))
data_as bytes first P whole Q r h go = meets_as bytes first P whole Q items r h go

parts_more : (n : ℕ) (t : Types) (p : Part) (ps : List Part) (bytes : List ℕ) (d : Datum) (rest : List ℕ)
    → bytes ≡ spelling t p.kind d ++ rest → FitsWithin n t p.kind d
    → (r : AtFront Data) → Meets rest (parts_spelling t ps) (λ vs. PartsFit t ps vs × (depths vs ≤ n)) r
    → Meets bytes (parts_spelling t (p ∷ ps)) (λ vs. PartsFit t (p ∷ ps) vs × (depths vs ≤ n))
    (r >>= λ others. Ok (more d others.0, others.1))
parts_more n t p ps bytes d rest is within (Ok x) h =
    let b = meets_behind bytes (spelling t p.kind d) rest (parts_spelling t ps)
    (λ vs. PartsFit t ps vs × (depths vs ≤ n)) (Ok x) is h in
    (b.0, b.1, ((within.0, b.2.0), omega (arith, within.1, b.2.1)))
parts_more n t p ps bytes d rest is within (Err f) h = meets_behind bytes (spelling t p.kind d) rest
    (parts_spelling t ps) (λ vs. PartsFit t ps vs × (depths vs ≤ n)) (Err f) is h

elements_more : (n : ℕ) (t : Types) (k : Kind) (m : ℕ) (bytes : List ℕ) (d : Datum) (rest : List ℕ)
    → bytes ≡ spelling t k d ++ rest → FitsWithin n t k d
    → (r : AtFront Data) → Meets rest (all_spelling t k) (λ vs. AllFit t k vs × (depths vs ≤ n) × (count vs ≡ m)) r
    → Meets bytes (all_spelling t k) (λ vs. AllFit t k vs × (depths vs ≤ n) × (count vs ≡ suc m))
    (r >>= λ others. Ok (more d others.0, others.1))
elements_more n t k m bytes d rest is within (Ok x) h =
    let b = meets_behind bytes (spelling t k d) rest (all_spelling t k)
    (λ vs. AllFit t k vs × (depths vs ≤ n) × (count vs ≡ m)) (Ok x) is h in
    (b.0, b.1, ((within.0, b.2.0), omega (arith, within.1, b.2.1), ap suc b.2.2))
elements_more n t k m bytes d rest is within (Err f) h = meets_behind bytes (spelling t k d) rest (all_spelling t k)
    (λ vs. AllFit t k vs × (depths vs ≤ n) × (count vs ≡ m)) (Err f) is h

module _ (n : ℕ) (t : Types) (read : Read) where
  optional_meets : ReadMeets n t read → (k of : Kind) → head_of t k ≡ is_maybe of → (c : ℕ) (bytes rest : List ℕ)
      → bytes ≡ word c ++ rest → IsBytes rest → c ≤ 1
      → Meets bytes (spelling t k) (FitsWithin (suc n) t k) (optional_at read of (c, rest))
  optional_meets ih k of e zero bytes rest is rest_fits le = (is, rest_fits, (rw e tt, omega arith))
  optional_meets ih k of e (suc zero) bytes rest is rest_fits le =
      meets_as bytes (λ d. word 1 ++ spelling t of d) (FitsWithin n t of) (spelling t k) (FitsWithin (suc n) t k) some
      (read of rest)
      (meets_behind bytes (word 1) rest (spelling t of) (FitsWithin n t of) (read of rest) is (ih of rest rest_fits))
      (λ d h. (rw e refl, (rw e h.0, omega (arith, h.1))))
  optional_meets ih k of e (suc (suc c)) bytes rest is rest_fits le = absurd (omega arith)

  pub parts_first : ReadMeets n t read → (ps : List Part) (bytes : List ℕ) → IsBytes bytes
      → Meets bytes (parts_spelling t ps) (λ vs. PartsFit t ps vs × (depths vs ≤ n)) (parts_at read ps bytes)
  unfolding parts_at
  parts_first ih [] bytes fits = (refl, fits, (tt, omega arith))
  parts_first ih (p ∷ ps) bytes fits =
      meets_then bytes (spelling t p.kind) (FitsWithin n t p.kind) (parts_spelling t (p ∷ ps))
      (λ vs. PartsFit t (p ∷ ps) vs × (depths vs ≤ n)) (read p.kind bytes)
      (λ first. parts_at read ps first.1 >>= λ others. Ok (more first.0 others.0, others.1)) (ih p.kind bytes fits)
      (λ d rest is rest_fits within. parts_more n t p ps bytes d rest is within (parts_at read ps rest)
      (parts_first ih ps rest rest_fits))

  pub elements_first : ReadMeets n t read → (k : Kind) (m : ℕ) (bytes : List ℕ) → IsBytes bytes
      → Meets bytes (all_spelling t k) (λ vs. AllFit t k vs × (depths vs ≤ n) × (count vs ≡ m))
      (elements_at read k m bytes)
  unfolding elements_at
  elements_first ih k zero bytes fits = (refl, fits, (tt, omega arith, refl))
  elements_first ih k (suc m) bytes fits =
      meets_then bytes (spelling t k) (FitsWithin n t k) (all_spelling t k)
      (λ vs. AllFit t k vs × (depths vs ≤ n) × (count vs ≡ suc m)) (read k bytes)
      (λ first. elements_at read k m first.1 >>= λ others. Ok (more first.0 others.0, others.1)) (ih k bytes fits)
      (λ d rest is rest_fits within. elements_more n t k m bytes d rest is within (elements_at read k m rest)
      (elements_first ih k m rest rest_fits))

module _ (n : ℕ) (t : Types) (read : Read) (ih : ReadMeets n t read) (k : Kind) (tag : Tag) (cs : List Choice) where
  arm_meets : head_of t k ≡ is_union tag cs → (d : Datum) → TagFits tag d → (o : Option Choice)
      → arm_of (tag_number d) cs ≡ o → (bytes rest : List ℕ) → bytes ≡ tag_spelling d ++ rest → IsBytes rest
      → Meets bytes (spelling t k) (FitsWithin (suc n) t k) (arm_at read o (d, rest))
  arm_meets e d fits None has bytes rest is rest_fits = tt
  arm_meets e d fits (Some c) has bytes rest is rest_fits =
      meets_as bytes (λ v. tag_spelling d ++ spelling t (arm_kind c) v) (FitsWithin n t (arm_kind c)) (spelling t k)
      (FitsWithin (suc n) t k) (union d) (read (arm_kind c) rest)
      (meets_behind bytes (tag_spelling d) rest (spelling t (arm_kind c)) (FitsWithin n t (arm_kind c))
      (read (arm_kind c) rest) is (ih (arm_kind c) rest rest_fits))
      (λ v h. (rw (e, has) refl, (rw (e, has) (fits, h.0), omega (arith, h.1))))

head_meets : (n : ℕ) (t : Types) (read : Read) → ReadMeets n t read → (k : Kind) (h : Head) → head_of t k ≡ h
    → (bytes : List ℕ) → IsBytes bytes
    → Meets bytes (spelling t k) (FitsWithin (suc n) t k) (head_at t (Some read) h bytes)
unfolding head_at
head_meets n t read ih k (is_basic b) e bytes fits = basic_meets (suc n) t k b e bytes fits
head_meets n t read ih k (is_enum ms) e bytes fits = enum_meets (suc n) t k ms e bytes fits
head_meets n t read ih k is_unknown e bytes fits = tt
head_meets n t read ih k (is_union tag cs) e bytes fits =
    meets_then bytes tag_spelling (TagHasArm tag cs) (spelling t k) (FitsWithin (suc n) t k) (tag_at tag cs bytes)
    (chosen_at read cs) (tag_meets tag cs bytes fits)
    (λ d rest is rest_fits has. arm_meets n t read ih k tag cs e d has.0 (arm_of (tag_number d) cs) refl bytes rest is
    rest_fits)
head_meets n t read ih k (is_struct ps) e bytes fits =
    data_as bytes (parts_spelling t ps) (λ vs. PartsFit t ps vs × (depths vs ≤ n)) (spelling t k)
    (FitsWithin (suc n) t k) (parts_at read ps bytes) (parts_first n t read ih ps bytes fits)
    (λ vs h. (rw e refl, (rw e h.0, omega (arith, h.1))))
head_meets n t read ih k (is_array of m) e bytes fits =
    data_as bytes (all_spelling t of) (λ vs. AllFit t of vs × (depths vs ≤ n) × (count vs ≡ m)) (spelling t k)
    (FitsWithin (suc n) t k) (elements_at read of m bytes) (elements_first n t read ih of m bytes fits)
    (λ vs h. (rw e refl, (rw e (h.2, h.0), omega (arith, h.1))))
head_meets n t read ih k (is_array_up_to of m) e bytes fits =
    meets_then bytes word (λ c. (c ≤ list_limit t of m) × (c < 2 ^ 32)) (spelling t k) (FitsWithin (suc n) t k)
    (limited_at (list_limit t of m) whys.Length bytes)
    (λ c. elements_at read of c.0 c.1 >>= λ vs. Ok (items vs.0, vs.1))
    (limited_meets (list_limit t of m) whys.Length bytes fits)
    (λ c rest is rest_fits le.
    data_as bytes (λ vs. word c ++ all_spelling t of vs) (λ vs. AllFit t of vs × (depths vs ≤ n) × (count vs ≡ c))
    (spelling t k) (FitsWithin (suc n) t k) (elements_at read of c rest)
    (meets_behind bytes (word c) rest (all_spelling t of) (λ vs. AllFit t of vs × (depths vs ≤ n) × (count vs ≡ c))
    (elements_at read of c rest) is (elements_first n t read ih of c rest rest_fits))
    (λ vs h. (
      rw e (ap (λ (x : ℕ). word x ++ all_spelling t of vs) (sym h.2)),
      (rw e (omega (arith, h.2), omega (arith, h.2), h.0), omega (arith, h.1)),
    )))
head_meets n t read ih k (is_maybe of) e bytes fits =
    meets_then bytes word (λ c. (c ≤ 1) × (c < 2 ^ 32)) (spelling t k) (FitsWithin (suc n) t k)
    (limited_at 1 whys.Bool bytes) (optional_at read of) (limited_meets 1 whys.Bool bytes fits)
    (λ c rest is rest_fits le. optional_meets n t read ih k of e c bytes rest is rest_fits le.0)

leaf_meets : (t : Types) (k : Kind) (h : Head) → head_of t k ≡ h → (bytes : List ℕ) → IsBytes bytes
    → Meets bytes (spelling t k) (FitsWithin 0 t k) (head_at t None h bytes)
unfolding head_at
leaf_meets t k (is_basic b) e bytes fits = basic_meets 0 t k b e bytes fits
leaf_meets t k (is_enum ms) e bytes fits = enum_meets 0 t k ms e bytes fits
leaf_meets t k is_unknown e bytes fits = tt
leaf_meets t k (is_union tag cs) e bytes fits = tt
leaf_meets t k (is_struct ps) e bytes fits = tt
leaf_meets t k (is_array of m) e bytes fits = tt
leaf_meets t k (is_array_up_to of m) e bytes fits = tt
leaf_meets t k (is_maybe of) e bytes fits = tt

-- what is read is spelled so, fits, and is no deeper than the levels that there were
pub value_meets : (n : ℕ) (t : Types) → ReadMeets n t (value_at n t)
unfolding value_at
value_meets zero t k bytes fits = leaf_meets t k (head_of t k) refl bytes fits
value_meets (suc n) t k bytes fits = head_meets n t (value_at n t) (value_meets n t) k (head_of t k) refl bytes fits
