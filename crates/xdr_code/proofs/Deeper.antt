-- The answer Deep is given only where a level too many begins.
use Rattle.std.proofs.Common.{◌≡◌, ℕ, ℤ, zero, suc, ◌≤◌, ◌<◌, ◌^◌, Bool, true, false, cond, List, [], ◌∷◌, ◌++◌, length}
use Rattle.std.proofs.Common.{Option, Some, None, Ok, Err, refl, arith, inl, inr, eqb, ltb, take, drop}
use Rattle.std.specs.Int.{Width, w32, w64, byte_len, from_be_bytes, cast_signed}
use lib.IntN.{pos}
use Rattle.xdr_value.specs.declared.ty.Basic.{Basic}
use Rattle.xdr_value.specs.declared.ty.Basic.TheVariants as basics
use Rattle.xdr_value.specs.Data.{Kind, Part, Choice, Datum, number, flag, octets, union, some, items, more, Types}
use Rattle.xdr_value.specs.Heads.{arm_of, arm_kind, Head, is_basic, is_enum, is_struct, is_union, is_array}
use Rattle.xdr_value.specs.Heads.{is_array_up_to, is_maybe, is_unknown, head_of}
use Rattle.xdr_value.specs.Fits.{Fits, depth}
use Rattle.std.proofs.lemmas.Bool.{cases_lt}
use Rattle.xdr_code.proofs.Again.{again}
use Rattle.xdr_value.specs.Spelling.{word, tag_spelling, spelling, padding}
use Rattle.xdr_code.specs.declared.fault.Why.TheVariants as whys
use Rattle.xdr_code.specs.declared.fault.Fault.TheVariants.{Deep, Short, Bad}
use Rattle.xdr_code.specs.Reading.{◌>>=◌, AtFront, Read, in_set_at, limited_at, any_number_at, padding_at, octets_at}
use Rattle.xdr_code.specs.Reading.{counted_octets_at, basic_at, enum_at, tag_at, parts_at, elements_at, optional_at}
use Rattle.xdr_code.specs.Reading.{arm_at, chosen_at, head_at, value_at}
use Rattle.xdr_code.specs.NumberSets.{around, among, numbers}
use Rattle.xdr_value.specs.Hollow.{list_limit}
use Rattle.xdr_code.specs.Opens.{HasLevel, There, InParts, InElements, InArm, InHead, Opens}
use Rattle.xdr_code.proofs.Bytes.{IsBytes}
use Rattle.xdr_code.proofs.Meets.{Meets}
use Rattle.xdr_code.proofs.Relations.{Deepens}
use Rattle.xdr_code.proofs.ItemLaws.{item_never, never_limited, limited_meets, limited_again}
use Rattle.xdr_code.proofs.TagLaws.{TagHasArm, tag_never, tag_meets, tag_again}
use Rattle.xdr_value.specs.Fits.{tag_number}
use Rattle.xdr_code.proofs.Found.{ReadMeets, FitsWithin, value_meets}

deepens_as : {A : Type 0} (P Q : Type 0) (r : AtFront A) → (P → Q) → Deepens P r → Deepens Q r
deepens_as P Q (Ok x) go h = tt
deepens_as P Q (Err Deep) go h = go h
deepens_as P Q (Err Short) go h = tt
deepens_as P Q (Err (Bad left why)) go h = tt

module _ {A B : Type 0} (bytes : List ℕ) (first : A → List ℕ) (M : A → Type 0) (P Q : Type 0) where
  -- what was read first is known to meet its spelling
  deepens_then : (r : AtFront A) (f : A × List ℕ → AtFront B) → Meets bytes first M r → Deepens P r → (P → Q)
      → ((x : A) (rest : List ℕ) → bytes ≡ first x ++ rest → IsBytes rest → M x → Deepens Q (f (x, rest)))
      → Deepens Q (r >>= f)
  deepens_then (Ok x) f meets h up go = go x.0 x.1 meets.0 meets.1 meets.2
  deepens_then (Err Deep) f meets h up go = up h
  deepens_then (Err Short) f meets h up go = tt
  deepens_then (Err (Bad left why)) f meets h up go = tt

deepens_done : {A B : Type 0} (P : Type 0) (r : AtFront A) (g : A → B) → Deepens P r
    → Deepens P (r >>= λ a. Ok (g a.0, a.1))
deepens_done P (Ok x) g h = tt
deepens_done P (Err Deep) g h = h
deepens_done P (Err Short) g h = tt
deepens_done P (Err (Bad left why)) g h = tt

-- ---- items are never too deep

never_short : {A : Type 0} (P : Type 0) (b : Bool) (r : AtFront A) → Deepens P r → Deepens P (cond b (Err Short) r)
never_short P true r h = tt
never_short P false r h = h

never_padding : (P : Type 0) (n : ℕ) (bytes c : List ℕ) → Deepens P (padding_at n bytes >>= λ rest. Ok (c, rest))
unfolding padding_at
never_padding P zero bytes c = tt
never_padding P (suc n) [] c = tt
never_padding P (suc n) (zero ∷ bytes) c = never_padding P n bytes c
never_padding P (suc n) (suc b ∷ bytes) c = tt

never_octets : (P : Type 0) (n : ℕ) (bytes : List ℕ) → Deepens P (octets_at n bytes)
never_octets P n bytes = unfold octets_at in never_short P (ltb (length bytes) n)
    (padding_at (padding n) (drop n bytes) >>= λ rest. Ok (take n bytes, rest))
    (never_padding P (padding n) (drop n bytes) (take n bytes))

any_then : {A B : Type 0} (P : Type 0) (r : AtFront A) (f : A × List ℕ → AtFront B) → Deepens P r
    → ((x : A × List ℕ) → Deepens P (f x)) → Deepens P (r >>= f)
any_then P (Ok x) f h go = go x
any_then P (Err Deep) f h go = h
any_then P (Err Short) f h go = tt
any_then P (Err (Bad left why)) f h go = tt

never_number : (P : Type 0) (w : Width) (bytes : List ℕ) → Deepens P (any_number_at w bytes)
never_number P w bytes = unfold any_number_at in never_short P (ltb (length bytes) (byte_len w))
    (Ok (from_be_bytes w bytes, drop (byte_len w) bytes)) tt

never_counted : (P : Type 0) (n : ℕ) (bytes : List ℕ) → Deepens P (counted_octets_at n bytes)
unfolding counted_octets_at
never_counted P n bytes =
    any_then P (limited_at n whys.Length bytes) (λ m. octets_at m.0 m.1 >>= λ c. Ok (octets c.0, c.1))
    (never_limited P n whys.Length bytes) (λ m. deepens_done P (octets_at m.0 m.1) octets (never_octets P m.0 m.1))

never_basic : (P : Type 0) (b : Basic) (bytes : List ℕ) → Deepens P (basic_at b bytes)
unfolding basic_at
never_basic P basics.Int bytes = deepens_done P (any_number_at w32 bytes) (λ n. number (cast_signed w32 n))
    (never_number P w32 bytes)
never_basic P basics.Uint bytes = deepens_done P (any_number_at w32 bytes) (λ n. number (pos n))
    (never_number P w32 bytes)
never_basic P basics.Hyper bytes = deepens_done P (any_number_at w64 bytes) (λ n. number (cast_signed w64 n))
    (never_number P w64 bytes)
never_basic P basics.Uhyper bytes = deepens_done P (any_number_at w64 bytes) (λ n. number (pos n))
    (never_number P w64 bytes)
never_basic P basics.Short bytes = deepens_done P (in_set_at (around 32768) whys.Range bytes)
    (λ n. number (cast_signed w32 n)) (item_never P (around 32768) whys.Range bytes)
never_basic P basics.Char bytes = deepens_done P (in_set_at (around 128) whys.Range bytes)
    (λ n. number (cast_signed w32 n)) (item_never P (around 128) whys.Range bytes)
never_basic P basics.Ushort bytes = deepens_done P (limited_at 65535 whys.Range bytes) (λ n. number (pos n))
    (never_limited P 65535 whys.Range bytes)
never_basic P basics.Uchar bytes = deepens_done P (limited_at 255 whys.Range bytes) (λ n. number (pos n))
    (never_limited P 255 whys.Range bytes)
never_basic P basics.Bool bytes = deepens_done P (limited_at 1 whys.Bool bytes) (λ n. flag (eqb n 1))
    (never_limited P 1 whys.Bool bytes)
never_basic P basics.Void bytes = tt
never_basic P (basics.Opaque n) bytes = deepens_done P (octets_at n bytes) octets (never_octets P n bytes)
never_basic P (basics.OpaqueUpTo n) bytes = never_counted P n bytes
never_basic P (basics.Text n) bytes = never_counted P n bytes

enum_never : (P : Type 0) (ms : List (List ℕ × ℤ)) (bytes : List ℕ) → Deepens P (enum_at ms bytes)
unfolding enum_at
enum_never P ms bytes = deepens_done P (in_set_at (among true (numbers ms)) whys.Enum bytes)
    (λ n. number (cast_signed w32 n)) (item_never P (among true (numbers ms)) whys.Enum bytes)

-- ---- values

abbrev pub ReadDeepens : Types → There → Read → Type 0
ReadDeepens t there read = (k : Kind) (bytes : List ℕ) → IsBytes bytes → Deepens (there k bytes) (read k bytes)

pub parts_deepen : (n : ℕ) (t : Types) (there : There) (read : Read) → ReadMeets n t read → ReadDeepens t there read
    → (ps : List Part) (bytes : List ℕ) → IsBytes bytes → Deepens (InParts t there ps bytes) (parts_at read ps bytes)
unfolding parts_at
parts_deepen n t there read meets ih [] bytes fits = tt
parts_deepen n t there read meets ih (p ∷ ps) bytes fits =
    deepens_then bytes (spelling t p.kind) (FitsWithin n t p.kind) (there p.kind bytes)
    (InParts t there (p ∷ ps) bytes) (read p.kind bytes)
    (λ first. parts_at read ps first.1 >>= λ others. Ok (more first.0 others.0, others.1))
    (meets p.kind bytes fits) (ih p.kind bytes fits) inl
    (λ d rest is rest_fits within. deepens_done (InParts t there (p ∷ ps) bytes) (parts_at read ps rest) (more d)
    (deepens_as (InParts t there ps rest) (InParts t there (p ∷ ps) bytes) (parts_at read ps rest)
    (λ h. inr (d, rest, within.0, is, h)) (parts_deepen n t there read meets ih ps rest rest_fits)))

elements_deepen : (n : ℕ) (t : Types) (there : There) (read : Read) → ReadMeets n t read → ReadDeepens t there read
    → (k : Kind) (m : ℕ) (bytes : List ℕ) → IsBytes bytes
    → Deepens (InElements t there k m bytes) (elements_at read k m bytes)
unfolding elements_at
elements_deepen n t there read meets ih k zero bytes fits = tt
elements_deepen n t there read meets ih k (suc m) bytes fits =
    deepens_then bytes (spelling t k) (FitsWithin n t k) (there k bytes) (InElements t there k (suc m) bytes)
    (read k bytes) (λ first. elements_at read k m first.1 >>= λ others. Ok (more first.0 others.0, others.1))
    (meets k bytes fits) (ih k bytes fits) inl
    (λ d rest is rest_fits within. deepens_done (InElements t there k (suc m) bytes) (elements_at read k m rest)
    (more d)
    (deepens_as (InElements t there k m rest) (InElements t there k (suc m) bytes) (elements_at read k m rest)
    (λ h. inr (d, rest, within.0, is, h)) (elements_deepen n t there read meets ih k m rest rest_fits)))

optional_deepen : (t : Types) (there : There) (read : Read) → ReadDeepens t there read
    → (k : Kind) (c : ℕ) (bytes rest : List ℕ) → bytes ≡ word c ++ rest → IsBytes rest → c ≤ 1
    → Deepens (InHead t there (is_maybe k) bytes) (optional_at read k (c, rest))
optional_deepen t there read ih k zero bytes rest is fits le = tt
optional_deepen t there read ih k (suc zero) bytes rest is fits le =
    deepens_done (InHead t there (is_maybe k) bytes) (read k rest) some
    (deepens_as (there k rest) (InHead t there (is_maybe k) bytes) (read k rest) (λ h. (rest, is, h))
    (ih k rest fits))
optional_deepen t there read ih k (suc (suc c)) bytes rest is fits le = absurd (omega arith)

arm_deepens : (t : Types) (there : There) (read : Read) → ReadDeepens t there read
    → (o : Option Choice) (d : Datum) (rest : List ℕ) → IsBytes rest
    → Deepens (InArm there o rest) (arm_at read o (d, rest))
arm_deepens t there read ih None d rest fits = tt
arm_deepens t there read ih (Some c) d rest fits = deepens_done (there (arm_kind c) rest) (read (arm_kind c) rest)
    (union d) (ih (arm_kind c) rest fits)

head_deepens : (n : ℕ) (t : Types) (there : There) (read : Read) → ReadMeets n t read → ReadDeepens t there read
    → (h : Head) (bytes : List ℕ) → IsBytes bytes → Deepens (InHead t there h bytes) (head_at t (Some read) h bytes)
unfolding head_at
head_deepens n t there read meets ih (is_basic b) bytes fits = never_basic ⊥ b bytes
head_deepens n t there read meets ih (is_enum ms) bytes fits = enum_never ⊥ ms bytes
head_deepens n t there read meets ih is_unknown bytes fits = tt
head_deepens n t there read meets ih (is_union tag cs) bytes fits =
    deepens_then bytes tag_spelling (TagHasArm tag cs) ⊥ (InHead t there (is_union tag cs) bytes) (tag_at tag cs bytes)
    (chosen_at read cs) (tag_meets tag cs bytes fits) (tag_never ⊥ tag cs bytes) (λ x. absurd x)
    (λ d rest is rest_fits has. deepens_as (InArm there (arm_of (tag_number d) cs) rest)
    (InHead t there (is_union tag cs) bytes) (chosen_at read cs (d, rest)) (λ h. (d, rest, has.0, is, h))
    (arm_deepens t there read ih (arm_of (tag_number d) cs) d rest rest_fits))
head_deepens n t there read meets ih (is_struct ps) bytes fits = deepens_done (InParts t there ps bytes)
    (parts_at read ps bytes) items (parts_deepen n t there read meets ih ps bytes fits)
head_deepens n t there read meets ih (is_array k m) bytes fits = deepens_done (InElements t there k m bytes)
    (elements_at read k m bytes) items (elements_deepen n t there read meets ih k m bytes fits)
head_deepens n t there read meets ih (is_array_up_to k m) bytes fits =
    deepens_then bytes word (λ c. (c ≤ list_limit t k m) × (c < 2 ^ 32)) ⊥ (InHead t there (is_array_up_to k m) bytes)
    (limited_at (list_limit t k m) whys.Length bytes)
    (λ c. elements_at read k c.0 c.1 >>= λ vs. Ok (items vs.0, vs.1))
    (limited_meets (list_limit t k m) whys.Length bytes fits)
    (never_limited ⊥ (list_limit t k m) whys.Length bytes) (λ x. absurd x)
    (λ c rest is rest_fits le. deepens_done (InHead t there (is_array_up_to k m) bytes) (elements_at read k c rest)
    items
    (deepens_as (InElements t there k c rest) (InHead t there (is_array_up_to k m) bytes) (elements_at read k c rest)
    (λ h. (c, rest, le.0, le.1, is, h)) (elements_deepen n t there read meets ih k c rest rest_fits)))
head_deepens n t there read meets ih (is_maybe k) bytes fits =
    deepens_then bytes word (λ c. (c ≤ 1) × (c < 2 ^ 32)) ⊥ (InHead t there (is_maybe k) bytes)
    (limited_at 1 whys.Bool bytes) (optional_at read k) (limited_meets 1 whys.Bool bytes fits)
    (never_limited ⊥ 1 whys.Bool bytes) (λ x. absurd x)
    (λ c rest is rest_fits le. optional_deepen t there read ih k c bytes rest is rest_fits le.0)

leaf_deepens : (t : Types) (h : Head) (bytes : List ℕ) → Deepens (HasLevel h) (head_at t None h bytes)
unfolding head_at
leaf_deepens t (is_basic b) bytes = never_basic ⊥ b bytes
leaf_deepens t (is_enum ms) bytes = enum_never ⊥ ms bytes
leaf_deepens t is_unknown bytes = tt
leaf_deepens t (is_union tag cs) bytes = tt
leaf_deepens t (is_struct ps) bytes = tt
leaf_deepens t (is_array k m) bytes = tt
leaf_deepens t (is_array_up_to k m) bytes = tt
leaf_deepens t (is_maybe k) bytes = tt

pub value_deepens : (n : ℕ) (t : Types) → ReadDeepens t (Opens n t) (value_at n t)
unfolding value_at Opens
value_deepens zero t k bytes fits = leaf_deepens t (head_of t k) bytes
value_deepens (suc n) t k bytes fits = head_deepens n t (Opens n t) (value_at n t) (value_meets n t)
    (value_deepens n t) (head_of t k) bytes fits

-- ---- and wherever one begins

abbrev pub Deepest : There → Read → Type 0
Deepest there read = (k : Kind) (bytes : List ℕ) → there k bytes → read k bytes ≡ Err Deep

whole_then : {B : Type 0} (n : ℕ) (t : Types) (k : Kind) (bytes rest : List ℕ) (d : Datum)
    (f : Datum × List ℕ → AtFront B) → Fits t k d → bytes ≡ spelling t k d ++ rest → f (d, rest) ≡ Err Deep
    → (value_at n t k bytes >>= f) ≡ Err Deep
whole_then n t k bytes rest d f fits is e =
    let a = again d n t k rest fits in
    elim (cases_lt n (depth d)) [
      | inl lt ↦ rw (is, a.1 lt) refl
      | inr le ↦ rw (is, a.0 le) e
    ]

pub parts_open : (n : ℕ) (t : Types) (there : There) → Deepest there (value_at n t) → (ps : List Part) (bytes : List ℕ)
    → InParts t there ps bytes → parts_at (value_at n t) ps bytes ≡ Err Deep
unfolding parts_at
parts_open n t there ih [] bytes h = absurd h
parts_open n t there ih (p ∷ ps) bytes (inl h) = rw (ih p.kind bytes h) refl
parts_open n t there ih (p ∷ ps) bytes (inr (d, rest, fits, is, h)) =
    whole_then n t p.kind bytes rest d
    (λ first. parts_at (value_at n t) ps first.1 >>= λ others. Ok (more first.0 others.0, others.1)) fits is
    (rw (parts_open n t there ih ps rest h) refl)

elements_open : (n : ℕ) (t : Types) (there : There) → Deepest there (value_at n t)
    → (k : Kind) (m : ℕ) (bytes : List ℕ) → InElements t there k m bytes
    → elements_at (value_at n t) k m bytes ≡ Err Deep
unfolding elements_at
elements_open n t there ih k zero bytes h = absurd h
elements_open n t there ih k (suc m) bytes (inl h) = rw (ih k bytes h) refl
elements_open n t there ih k (suc m) bytes (inr (d, rest, fits, is, h)) =
    whole_then n t k bytes rest d (λ first. elements_at (value_at n t) k m first.1 >>= λ others. Ok
    (more first.0 others.0, others.1)) fits is (rw (elements_open n t there ih k m rest h) refl)

pub in_arm : (there : There) (o : Option Choice) (rest : List ℕ) → InArm there o rest → (c : Choice) × (o ≡ Some c)
in_arm there None rest h = absurd h
in_arm there (Some c) rest h = (c, refl)

arm_opens : (n : ℕ) (t : Types) (there : There) → Deepest there (value_at n t)
    → (o : Option Choice) (d : Datum) (rest : List ℕ) → InArm there o rest
    → arm_at (value_at n t) o (d, rest) ≡ Err Deep
arm_opens n t there ih None d rest h = absurd h
arm_opens n t there ih (Some c) d rest h = rw (ih (arm_kind c) rest h) refl

head_opens : (n : ℕ) (t : Types) (there : There) → Deepest there (value_at n t) → (h : Head) (bytes : List ℕ)
    → InHead t there h bytes → head_at t (Some (value_at n t)) h bytes ≡ Err Deep
unfolding head_at
head_opens n t there ih (is_basic b) bytes h = absurd h
head_opens n t there ih (is_enum ms) bytes h = absurd h
head_opens n t there ih is_unknown bytes h = absurd h
head_opens n t there ih (is_union tag cs) bytes (d, rest, fits, is, h) =
    let c = in_arm there (arm_of (tag_number d) cs) rest h in
    rw (is, tag_again tag cs d c.0 rest fits c.1) (arm_opens n t there ih (arm_of (tag_number d) cs) d rest h)
head_opens n t there ih (is_struct ps) bytes h = rw (parts_open n t there ih ps bytes h) refl
head_opens n t there ih (is_array k m) bytes h = rw (elements_open n t there ih k m bytes h) refl
head_opens n t there ih (is_array_up_to k m) bytes (c, rest, le, lt, is, h) = rw
    (is, limited_again (list_limit t k m) whys.Length c rest le lt, elements_open n t there ih k c rest h) refl
head_opens n t there ih (is_maybe k) bytes (rest, is, h) = rw
    (is, limited_again 1 whys.Bool 1 rest (omega arith) (omega arith), ih k rest h) refl

leaf_opens : (t : Types) (h : Head) (bytes : List ℕ) → HasLevel h → head_at t None h bytes ≡ Err Deep
unfolding head_at
leaf_opens t (is_basic b) bytes h = absurd h
leaf_opens t (is_enum ms) bytes h = absurd h
leaf_opens t is_unknown bytes h = absurd h
leaf_opens t (is_union tag cs) bytes h = refl
leaf_opens t (is_struct ps) bytes h = refl
leaf_opens t (is_array k m) bytes h = refl
leaf_opens t (is_array_up_to k m) bytes h = refl
leaf_opens t (is_maybe k) bytes h = refl

pub value_opens : (n : ℕ) (t : Types) → Deepest (Opens n t) (value_at n t)
unfolding value_at Opens
value_opens zero t k bytes h = leaf_opens t (head_of t k) bytes h
value_opens (suc n) t k bytes h = head_opens n t (Opens n t) (value_opens n t) (head_of t k) bytes h
