-- What is spelled is read again, or is too deep.
use Rattle.std.proofs.Common.{◌≡◌, ℕ, ℤ, zero, suc, ◌^◌, ◌<◌, ◌≤◌, max, Bool, true, false, ltb, List, [], ◌∷◌, ◌++◌}
use Rattle.std.proofs.Common.{length, take, drop, replicate, Option, Some, None, Ok, Err, refl, ap, ◌∙◌, append_assoc}
use Rattle.std.proofs.Common.{arith, inl, inr}
use Rattle.std.specs.Int.{w32, w64, from_be_bytes, to_be_bytes, cast_unsigned}
use lib.IntN.{pos, negsuc}
use Rattle.xdr_value.specs.Ranges.{IsWithin, has_number}
use Rattle.std.proofs.lemmas.Bool.{cases_lt, le-ltb}
use Rattle.std.proofs.lemmas.Nat.{from_be_bytes-to_be_bytes_4, from_be_bytes-to_be_bytes_8}
use Rattle.std.proofs.lemmas.List.{take_at, drop_at, length-append}
use Rattle.xdr_value.specs.declared.ty.Basic.TheVariants as basics
use Rattle.xdr_value.specs.Data.{Kind, Part, Choice, Datum, number, flag, octets, items, union, none, some, nothing}
use Rattle.xdr_value.specs.Data.{Data, end, more, Types}
use Rattle.xdr_value.specs.Heads.{arm_of, arm_kind, Head, is_basic, is_enum, is_struct, is_union, is_array}
use Rattle.xdr_value.specs.Heads.{is_array_up_to, is_maybe, is_unknown, head_of}
use Rattle.xdr_value.specs.Spelling.{word, tag_spelling, arm_spelling, union_spelling, padding, padded, spelling}
use Rattle.xdr_value.specs.Spelling.{parts_spelling, all_spelling, number_spelling, flag_spelling, octets_spelling}
use Rattle.xdr_value.specs.Spelling.{items_spelling, maybe_spelling}
use Rattle.xdr_value.specs.Fits.{ArmFits, UnionFits, tag_number, Fits, PartsFit, AllFit, NumberFits, FlagFits}
use Rattle.xdr_value.specs.Fits.{OctetsFit, NothingFits, ItemsFit, MaybeFits, count, depth, depths}
use Rattle.xdr_code.specs.declared.fault.Why.{Why}
use Rattle.xdr_code.specs.declared.fault.Why.TheVariants as whys
use Rattle.xdr_code.specs.declared.fault.Fault.TheVariants.{Deep}
use Rattle.xdr_code.proofs.ItemLaws.{Allowed, item_again, limited_again}
use Rattle.xdr_code.proofs.TagLaws.{tag_again}
use Rattle.xdr_code.proofs.Numbers.{back32, back64, word32, word64, within_around, wider}
use Rattle.xdr_code.proofs.Reach.{IsBetween, of_one, of_enum}
use Rattle.xdr_value.proofs.Tells.{within}
use Rattle.xdr_code.specs.Reading.{◌>>=◌, AtFront, Read, in_set_at, any_number_at, padding_at, octets_at}
use Rattle.xdr_code.specs.Reading.{counted_octets_at, basic_at, enum_at, parts_at, elements_at, arm_at, head_at}
use Rattle.xdr_code.specs.Reading.{value_at}
use Rattle.xdr_code.specs.NumberSets.{around, among, numbers}
use Rattle.xdr_value.specs.Hollow.{list_limit}

-- ---- items

word_again : (n : ℕ) (rest : List ℕ) → n < 2 ^ 32 → any_number_at w32 (to_be_bytes w32 n ++ rest) ≡ Ok (n, rest)
unfolding any_number_at
word_again n rest lt =
    let is : from_be_bytes w32 (word n ++ rest) ≡ n = from_be_bytes-to_be_bytes_4 n lt in
    let b : ltb (length (word n ++ rest)) 4 ≡ false = le-ltb _ _ (omega arith) in
    rw (b, is) refl

double_again : (n : ℕ) (rest : List ℕ) → n < 2 ^ 64 → any_number_at w64 (to_be_bytes w64 n ++ rest) ≡ Ok (n, rest)
unfolding any_number_at
double_again n rest lt =
    let is : from_be_bytes w64 (to_be_bytes w64 n ++ rest) ≡ n = from_be_bytes-to_be_bytes_8 n lt in
    let b : ltb (length (to_be_bytes w64 n ++ rest)) 8 ≡ false = le-ltb _ _ (omega arith) in
    rw (b, is) refl

padding_again : (n : ℕ) (rest : List ℕ) → padding_at n (replicate n 0 ++ rest) ≡ Ok rest
unfolding padding_at
padding_again zero rest = refl
padding_again (suc n) rest = padding_again n rest

octets_again : (n : ℕ) (c rest : List ℕ) → length c ≡ n → octets_at n (padded c ++ rest) ≡ Ok (c, rest)
unfolding octets_at
octets_again n c rest len =
    let zeros : List ℕ = replicate (padding (length c)) 0 in
    let long : ltb (length (padded c ++ rest)) n ≡ false = le-ltb _ _
    (omega (arith, length-append (padded c) rest, length-append c zeros)) in
    let regrouped : padded c ++ rest ≡ c ++ (zeros ++ rest) = append_assoc c zeros rest in
    let front : take n (padded c ++ rest) ≡ c = ap (take n) regrouped ∙ take_at c (zeros ++ rest) n len in
    let back : drop n (padded c ++ rest) ≡ zeros ++ rest = ap (drop n) regrouped ∙ drop_at c (zeros ++ rest) n len in
    let pad : padding_at (padding n) (zeros ++ rest) ≡ Ok rest = rw (← len) (padding_again (padding (length c)) rest) in
    rw (long, back, pad, front) refl

counted_again : (limit : ℕ) (c rest : List ℕ) → length c ≤ limit → length c < 2 ^ 32
    → counted_octets_at limit ((word (length c) ++ padded c) ++ rest) ≡ Ok (octets c, rest)
unfolding counted_octets_at
counted_again limit c rest le lt =
    rw (
      append_assoc (word (length c)) (padded c) rest,
      limited_again limit whys.Length (length c) (padded c ++ rest)
          le lt,
      octets_again (length c) c rest refl,
    ) refl

-- ---- values

-- the reader of what is one level down, where n levels may begin
abbrev pub inner_at : ℕ → Types → Option Read
inner_at zero t = None
inner_at (suc n) t = Some (value_at n t)

value_is : (n : ℕ) (t : Types) (k : Kind) (bytes : List ℕ)
    → value_at n t k bytes ≡ head_at t (inner_at n t) (head_of t k) bytes
unfolding value_at
value_is zero t k bytes = refl
value_is (suc n) t k bytes = refl

-- r is the value and the rest, or too deep where the value is deeper than n
abbrev pub Again : {A : Type 0} → ℕ → ℕ → A → List ℕ → AtFront A → Type 0
Again n deep x rest r = (deep ≤ n → r ≡ Ok (x, rest)) × (n < deep → r ≡ Err Deep)

module _ {A B : Type 0} (n d e : ℕ) (x : A) (after : List ℕ) (y : B) (rest : List ℕ) (r : AtFront A) where
  again_then : (f : A × List ℕ → AtFront B) → Again n d x after r → Again n e y rest (f (x, after))
      → Again n (max d e) y rest (r >>= f)
  again_then f p q = (
    λ h. rw (p.0 (omega arith)) (q.0 (omega arith)),
    λ h. elim (cases_lt n d) [
      | inl lt ↦ rw (p.1 lt) refl
      | inr le ↦ rw (p.0 le) (q.1 (omega arith))
    ],
  )

again_as : {A B : Type 0} (n d : ℕ) (x : A) (g : A → B) (rest : List ℕ) (r : AtFront A) → Again n d x rest r
    → Again n d (g x) rest (r >>= λ a. Ok (g a.0, a.1))
again_as n d x g rest r p = (λ h. rw (p.0 h) refl, λ h. rw (p.1 h) refl)

-- one level up
again_up : {A B : Type 0} (n d : ℕ) (x : A) (g : A → B) (rest : List ℕ) (r : AtFront A) → Again n d x rest r
    → Again (suc n) (suc d) (g x) rest (r >>= λ a. Ok (g a.0, a.1))
again_up n d x g rest r p = (λ h. rw (p.0 (omega arith)) refl, λ h. rw (p.1 (omega arith)) refl)

leaf : {A : Type 0} (n : ℕ) (x : A) (rest : List ℕ) (r : AtFront A) → r ≡ Ok (x, rest) → Again n 0 x rest r
leaf n x rest r e = (λ h. e, λ h. absurd (omega arith))

-- the number of a range that is around 0
around_again : (m : ℕ) (z : ℤ) (why : Why) (rest : List ℕ) → m ≤ 2 ^ 31 → IsWithin m z
    → in_set_at (around m) why (word (cast_unsigned w32 z) ++ rest) ≡ Ok (cast_unsigned w32 z, rest)
around_again m z why rest le h = item_again (around m) why (cast_unsigned w32 z) rest
    (within_around m z le h, word32 z (wider m (2 ^ 31) z le h))

member_again : (ms : List (List ℕ × ℤ)) (z : ℤ) (rest : List ℕ) → IsWithin (2 ^ 31) z → has_number ms z ≡ true
    → enum_at ms (word (cast_unsigned w32 z) ++ rest) ≡ Ok (number z, rest)
unfolding enum_at
member_again ms z rest fits has =
    let between : IsBetween true z (cast_unsigned w32 z) (cast_unsigned w32 z) = record
    { holds = (within (2 ^ 31) z).1 fits; above = omega arith; under = omega arith } in
    let allowed : Allowed (among true (numbers ms)) (cast_unsigned w32 z) = (
      of_one true (numbers ms) z (cast_unsigned w32 z) (cast_unsigned w32 z) (of_enum ms z ∙ has) between,
      word32 z
          fits,
    ) in
    rw (item_again (among true (numbers ms)) whys.Enum (cast_unsigned w32 z) rest allowed, back32 z fits) refl

number_head : (t : Types) (inner : Option Read) (h : Head) (z : ℤ) (rest : List ℕ) → NumberFits h z
    → head_at t inner h (number_spelling h z ++ rest) ≡ Ok (number z, rest)
unfolding head_at basic_at
number_head t inner (is_basic basics.Int) z rest fits = rw
    (word_again (cast_unsigned w32 z) rest (word32 z fits), back32 z fits) refl
number_head t inner (is_basic basics.Uint) (pos m) rest fits = rw (word_again m rest fits) refl
number_head t inner (is_basic basics.Uint) (negsuc m) rest fits = absurd fits
number_head t inner (is_basic basics.Hyper) z rest fits = rw
    (double_again (cast_unsigned w64 z) rest (word64 z fits), back64 z fits) refl
number_head t inner (is_basic basics.Uhyper) (pos m) rest fits = rw (double_again m rest fits) refl
number_head t inner (is_basic basics.Uhyper) (negsuc m) rest fits = absurd fits
number_head t inner (is_basic basics.Short) z rest fits = rw
    (around_again 32768 z whys.Range rest (omega arith) fits, back32 z (wider 32768 (2 ^ 31) z (omega arith) fits)) refl
number_head t inner (is_basic basics.Char) z rest fits = rw
    (around_again 128 z whys.Range rest (omega arith) fits, back32 z (wider 128 (2 ^ 31) z (omega arith) fits)) refl
number_head t inner (is_basic basics.Ushort) (pos m) rest fits = rw
    (limited_again 65535 whys.Range m rest (omega (arith, fits)) (omega (arith, fits))) refl
number_head t inner (is_basic basics.Ushort) (negsuc m) rest fits = absurd fits
number_head t inner (is_basic basics.Uchar) (pos m) rest fits = rw
    (limited_again 255 whys.Range m rest (omega (arith, fits)) (omega (arith, fits))) refl
number_head t inner (is_basic basics.Uchar) (negsuc m) rest fits = absurd fits
number_head t inner (is_enum ms) z rest fits = member_again ms z rest fits.0 fits.1
number_head t inner h z rest fits = absurd fits

flag_head : (t : Types) (inner : Option Read) (h : Head) (b : Bool) (rest : List ℕ) → FlagFits h
    → head_at t inner h (flag_spelling b ++ rest) ≡ Ok (flag b, rest)
unfolding head_at basic_at
flag_head t inner (is_basic basics.Bool) false rest fits = rw
    (limited_again 1 whys.Bool 0 rest (omega arith) (omega arith)) refl
flag_head t inner (is_basic basics.Bool) true rest fits = rw
    (limited_again 1 whys.Bool 1 rest (omega arith) (omega arith)) refl
flag_head t inner h b rest fits = absurd fits

octets_head : (t : Types) (inner : Option Read) (h : Head) (c : List ℕ) (rest : List ℕ) → OctetsFit h c
    → head_at t inner h (octets_spelling h c ++ rest) ≡ Ok (octets c, rest)
unfolding head_at basic_at
octets_head t inner (is_basic (basics.Opaque m)) c rest fits = rw (octets_again m c rest fits) refl
octets_head t inner (is_basic (basics.OpaqueUpTo m)) c rest fits = counted_again m c rest fits.0 fits.1
octets_head t inner (is_basic (basics.Text m)) c rest fits = counted_again m c rest fits.0 fits.1
octets_head t inner h c rest fits = absurd fits

nothing_head : (t : Types) (inner : Option Read) (h : Head) (rest : List ℕ) → NothingFits h
    → head_at t inner h rest ≡ Ok (nothing, rest)
unfolding head_at basic_at
nothing_head t inner (is_basic basics.Void) rest fits = refl
nothing_head t inner h rest fits = absurd fits

-- where the parts, or the elements, of a value with parts are read again
items_head : (n : ℕ) (t : Types) (vs : Data) (rest : List ℕ)
    → ((m : ℕ) (ps : List Part) (more_rest : List ℕ) → PartsFit t ps vs
    → Again m (depths vs) vs more_rest (parts_at (value_at m t) ps (parts_spelling t ps vs ++ more_rest)))
    → ((m : ℕ) (k : Kind) (more_rest : List ℕ) → AllFit t k vs
    → Again m (depths vs) vs more_rest (elements_at (value_at m t) k (count vs) (all_spelling t k vs ++ more_rest)))
    → (h : Head) → ItemsFit t h (λ ps. PartsFit t ps vs) (λ e. AllFit t e vs) (count vs)
    → Again n (suc (depths vs)) (items vs) rest
    (head_at t (inner_at n t) h (items_spelling h (λ ps. parts_spelling t ps vs) (λ e. all_spelling t e vs)
    (count vs) ++ rest))
unfolding head_at
items_head n t vs rest parts all (is_basic b) fits = absurd fits
items_head n t vs rest parts all (is_enum ms) fits = absurd fits
items_head n t vs rest parts all (is_union tag cs) fits = absurd fits
items_head n t vs rest parts all (is_maybe k) fits = absurd fits
items_head n t vs rest parts all is_unknown fits = absurd fits
items_head zero t vs rest parts all (is_struct ps) fits = (λ h. absurd (omega arith), λ h. refl)
items_head zero t vs rest parts all (is_array k m) fits = (λ h. absurd (omega arith), λ h. refl)
items_head zero t vs rest parts all (is_array_up_to k m) fits = (λ h. absurd (omega arith), λ h. refl)
items_head (suc n) t vs rest parts all (is_struct ps) fits = again_up n (depths vs) vs items rest
    (parts_at (value_at n t) ps (parts_spelling t ps vs ++ rest)) (parts n ps rest fits)
items_head (suc n) t vs rest parts all (is_array k m) fits = again_up n (depths vs) vs items rest
    (elements_at (value_at n t) k m (all_spelling t k vs ++ rest)) (rw (← fits.0) (all n k rest fits.1))
items_head (suc n) t vs rest parts all (is_array_up_to k m) fits =
    rw (
      append_assoc (word (count vs)) (all_spelling t k vs) rest,
      limited_again (list_limit t k m) whys.Length
          (count vs) (all_spelling t k vs ++ rest) fits.0 fits.1,
    )
    (again_up n (depths vs) vs items rest (elements_at (value_at n t) k (count vs) (all_spelling t k vs ++ rest))
    (all n k rest fits.2))

none_head : (n : ℕ) (t : Types) (rest : List ℕ) (h : Head) → MaybeFits h (λ e. Unit {0})
    → Again n 1 none rest (head_at t (inner_at n t) h (word 0 ++ rest))
unfolding head_at
none_head n t rest (is_basic b) fits = absurd fits
none_head n t rest (is_enum ms) fits = absurd fits
none_head n t rest (is_union tag cs) fits = absurd fits
none_head n t rest (is_struct ps) fits = absurd fits
none_head n t rest (is_array k m) fits = absurd fits
none_head n t rest (is_array_up_to k m) fits = absurd fits
none_head n t rest is_unknown fits = absurd fits
none_head zero t rest (is_maybe k) fits = (λ h. absurd (omega arith), λ h. refl)
none_head (suc n) t rest (is_maybe k) fits =
    (λ h. rw (limited_again 1 whys.Bool 0 rest (omega arith) (omega arith)) refl, λ h. absurd (omega arith))

some_head : (n : ℕ) (t : Types) (v : Datum) (rest : List ℕ)
    → ((m : ℕ) (k : Kind) → Fits t k v → Again m (depth v) v rest (value_at m t k (spelling t k v ++ rest)))
    → (h : Head) → MaybeFits h (λ e. Fits t e v)
    → Again n (suc (depth v)) (some v) rest
    (head_at t (inner_at n t) h (maybe_spelling h (λ e. spelling t e v) ++ rest))
unfolding head_at
some_head n t v rest inner (is_basic b) fits = absurd fits
some_head n t v rest inner (is_enum ms) fits = absurd fits
some_head n t v rest inner (is_union tag cs) fits = absurd fits
some_head n t v rest inner (is_struct ps) fits = absurd fits
some_head n t v rest inner (is_array k m) fits = absurd fits
some_head n t v rest inner (is_array_up_to k m) fits = absurd fits
some_head n t v rest inner is_unknown fits = absurd fits
some_head zero t v rest inner (is_maybe k) fits = (λ h. absurd (omega arith), λ h. refl)
some_head (suc n) t v rest inner (is_maybe k) fits =
    rw (
      append_assoc (word 1) (spelling t k v) rest,
      limited_again 1 whys.Bool 1 (spelling t k v ++ rest) (omega arith)
          (omega arith),
    )
    (again_up n (depth v) v some rest (value_at n t k (spelling t k v ++ rest)) (inner n k fits))

arm_again : (n : ℕ) (t : Types) (d v : Datum) (rest : List ℕ)
    → ((m : ℕ) (k : Kind) → Fits t k v → Again m (depth v) v rest (value_at m t k (spelling t k v ++ rest)))
    → (o : Option Choice) → ArmFits o (λ e. Fits t e v)
    → Again (suc n) (suc (depth v)) (union d v) rest
    (arm_at (value_at n t) o (d, arm_spelling o (λ e. spelling t e v) ++ rest))
arm_again n t d v rest inner None fits = absurd fits
arm_again n t d v rest inner (Some c) fits = again_up n (depth v) v (union d) rest
    (value_at n t (arm_kind c) (spelling t (arm_kind c) v ++ rest)) (inner n (arm_kind c) fits)

has_arm : (o : Option Choice) (P : Kind → Type 0) → ArmFits o P → (c : Choice) × (o ≡ Some c)
has_arm None P h = absurd h
has_arm (Some c) P h = (c, refl)

union_head : (n : ℕ) (t : Types) (d v : Datum) (rest : List ℕ)
    → ((m : ℕ) (k : Kind) → Fits t k v → Again m (depth v) v rest (value_at m t k (spelling t k v ++ rest)))
    → (h : Head) → UnionFits h d (λ e. Fits t e v)
    → Again n (suc (depth v)) (union d v) rest
    (head_at t (inner_at n t) h (union_spelling h d (λ e. spelling t e v) ++ rest))
unfolding head_at
union_head zero t d v rest inner (is_union tag cs) fits = (λ h. absurd (omega arith), λ h. refl)
union_head (suc n) t d v rest inner (is_union tag cs) fits =
    let c = has_arm (arm_of (tag_number d) cs) (λ e. Fits t e v) fits.1 in
    rw (
      append_assoc (tag_spelling d) (arm_spelling (arm_of (tag_number d) cs) (λ e. spelling t e v)) rest,
      tag_again
          tag cs d c.0 (arm_spelling (arm_of (tag_number d) cs) (λ e. spelling t e v) ++ rest) fits.0 c.1,
    )
    (arm_again n t d v rest inner (arm_of (tag_number d) cs) fits.1)
union_head n t d v rest inner h fits = absurd fits

mutual
  unfolding parts_at elements_at

  pub again : (d : Datum) (n : ℕ) (t : Types) (k : Kind) (rest : List ℕ) → Fits t k d
      → Again n (depth d) d rest (value_at n t k (spelling t k d ++ rest))
  again (number z) n t k rest fits = rw value_is
      (leaf n (number z) rest _ (number_head t (inner_at n t) (head_of t k) z rest fits))
  again (flag b) n t k rest fits = rw value_is
      (leaf n (flag b) rest _ (flag_head t (inner_at n t) (head_of t k) b rest fits))
  again (octets c) n t k rest fits = rw value_is
      (leaf n (octets c) rest _ (octets_head t (inner_at n t) (head_of t k) c rest fits))
  again (items vs) n t k rest fits = rw value_is
      (items_head n t vs rest (λ m ps r f. parts_again vs m t ps r f) (λ m e r f. elements_again vs m t e r f)
      (head_of t k) fits)
  again (union tag arm) n t k rest fits = rw value_is
      (union_head n t tag arm rest (λ m e f. again arm m t e rest f) (head_of t k) fits)
  again none n t k rest fits = rw value_is (none_head n t rest (head_of t k) fits)
  again (some v) n t k rest fits = rw value_is (some_head n t v rest (λ m e f. again v m t e rest f) (head_of t k) fits)
  again nothing n t k rest fits = rw value_is
      (leaf n nothing rest _ (nothing_head t (inner_at n t) (head_of t k) rest fits))

  pub parts_again : (vs : Data) (n : ℕ) (t : Types) (ps : List Part) (rest : List ℕ) → PartsFit t ps vs
      → Again n (depths vs) vs rest (parts_at (value_at n t) ps (parts_spelling t ps vs ++ rest))
  parts_again end n t [] rest fits = leaf n end rest _ refl
  parts_again end n t (p ∷ ps) rest fits = absurd fits
  parts_again (more v vs) n t [] rest fits = absurd fits
  parts_again (more v vs) n t (p ∷ ps) rest fits =
      rw (append_assoc (spelling t p.kind v) (parts_spelling t ps vs) rest)
      (again_then n (depth v) (depths vs) v (parts_spelling t ps vs ++ rest) (more v vs) rest
      (value_at n t p.kind (spelling t p.kind v ++ (parts_spelling t ps vs ++ rest)))
      (λ first. parts_at (value_at n t) ps first.1 >>= λ others. Ok (more first.0 others.0, others.1))
      (again v n t p.kind (parts_spelling t ps vs ++ rest) fits.0)
      (again_as n (depths vs) vs (more v) rest (parts_at (value_at n t) ps (parts_spelling t ps vs ++ rest))
      (parts_again vs n t ps rest fits.1)))

  pub elements_again : (vs : Data) (n : ℕ) (t : Types) (k : Kind) (rest : List ℕ) → AllFit t k vs
      → Again n (depths vs) vs rest (elements_at (value_at n t) k (count vs) (all_spelling t k vs ++ rest))
  elements_again end n t k rest fits = leaf n end rest _ refl
  elements_again (more v vs) n t k rest fits =
      rw (append_assoc (spelling t k v) (all_spelling t k vs) rest)
      (again_then n (depth v) (depths vs) v (all_spelling t k vs ++ rest) (more v vs) rest
      (value_at n t k (spelling t k v ++ (all_spelling t k vs ++ rest)))
      (λ first. elements_at (value_at n t) k (count vs) first.1 >>= λ others. Ok (more first.0 others.0, others.1))
      (again v n t k (all_spelling t k vs ++ rest) fits.0)
      (again_as n (depths vs) vs (more v) rest (elements_at (value_at n t) k (count vs) (all_spelling t k vs ++ rest))
      (elements_again vs n t k rest fits.1)))
