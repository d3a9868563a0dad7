-- A union's tag is read as it is spelled where it has an arm, and the other laws of a reading.
use Rattle.std.proofs.Common.{◌≡◌, ℕ, ℤ, zero, suc, ◌+◌, ◌-◌, ◌^◌, ◌<◌, ◌≤◌, Bool, true, false, cond, ltb, eqb, List}
use Rattle.std.proofs.Common.{[], ◌∷◌, ◌++◌, length, Option, Some, None, Ok, Err, refl, sym, ap, subst, ◌∙◌, arith, inl}
use Rattle.std.proofs.Common.{inr}
use Rattle.std.specs.Prelude.{is_some}
use lib.IntN.{pos, negsuc}
use Rattle.std.specs.Ordering.{int_eq}
use Rattle.std.specs.List.{AllByRecursion}
use Rattle.std.specs.Int.{w32, from_be_bytes, cast_signed, cast_unsigned}
use Rattle.std.proofs.lemmas.Int.{of_z-to_z}
use Rattle.std.proofs.lemmas.Bool.{ltb-true, ltb-false, lt-ltb, le-ltb, leb-true, le-leb, or_cases}
use Rattle.std.proofs.lemmas.Bool.Decides.{Decides-int_eq}
use Rattle.std.proofs.lemmas.List.{length-append, drop-append-le}
use Rattle.xdr_value.specs.Data.{Kind, Choice, Datum, number, flag}
use Rattle.xdr_value.specs.Heads.{Tag, tag_int, tag_uint, tag_bool, tag_enum, tag_other, own_arm, default_arm, or_else}
use Rattle.xdr_value.specs.Heads.{arm_of}
use Rattle.xdr_value.specs.Fits.{TagFits, tag_number}
use Rattle.xdr_value.specs.Spelling.{word, tag_spelling}
use Rattle.xdr_value.specs.Facts.{IsCase, CaseInRange}
use Rattle.xdr_value.specs.Zero.{tag_value}
use Rattle.xdr_value.specs.Values.{ArmsHave}
use Rattle.xdr_value.proofs.Tells.{within, below}
use Rattle.xdr_code.specs.declared.fault.Why.{Why}
use Rattle.xdr_code.specs.declared.fault.Why.TheVariants as whys
use Rattle.xdr_code.specs.declared.fault.Fault.TheVariants.{Short, Bad}
use Rattle.xdr_code.specs.NumberSets.{NumberSet, among, in_word, reached, high_word, numbers, with_case, case_numbers}
use Rattle.xdr_code.specs.NumberSets.{is_signed, tag_set, case_set}
use Rattle.xdr_code.specs.Reading.{◌>>=◌, AtFront, in_set_at, tag_datum, tag_why, tag_at}
use Rattle.xdr_code.proofs.Bytes.{IsBytes}
use Rattle.xdr_code.proofs.Meets.{Meets}
use Rattle.xdr_code.proofs.Numbers.{within32, back32, word32, within_around}
use Rattle.xdr_code.proofs.Reach.{numbered, IsBetween, is_in, of_one, exactly, some_number, low_high, of_enum, own_case}
use Rattle.xdr_code.proofs.Reach.{case_own}
use Rattle.xdr_code.proofs.ItemLaws.{may, chosen, Allowed, item_meets, word_low, word_high, word_may, item_again}
use Rattle.xdr_code.proofs.ItemLaws.{still_not, same_word, same_may, completed}
use Rattle.xdr_code.proofs.Relations.{Stays, Ends, Deepens}

-- the tag is one of its type, and has an arm
abbrev pub TagHasArm : Tag → List Choice → Datum → Type 0
TagHasArm tag cs d = TagFits tag d × ((c : Choice) × (arm_of (tag_number d) cs ≡ Some c))

-- ---- numbers of tags

bool_spelled : (n : ℕ) → n ≤ 1 → word (cast_unsigned w32 (tag_number (flag (eqb n 1)))) ≡ word n
bool_spelled zero h = refl
bool_spelled (suc zero) h = refl
bool_spelled (suc (suc n)) h = absurd (omega arith)

-- a number of the tag, and the tag that has it
pub tag_fits : (tag : Tag) (n : ℕ) → Allowed (tag_set tag) n
    → TagFits tag (tag_datum tag n) × (tag_spelling (tag_datum tag n) ≡ word n)
tag_fits tag_int n h = (within32 n h.1, ap word (of_z-to_z w32 n h.1))
tag_fits tag_uint n h = (h.1, refl)
tag_fits tag_bool n h = (tt, bool_spelled n (leb-true n 1 h.0))
tag_fits (tag_enum ms) n h =
    let e = exactly true (numbers ms) n back32 h.0 in
    ((within32 n h.1, sym (of_enum ms (cast_signed w32 n)) ∙ e.1), ap word (of_z-to_z w32 n h.1))
tag_fits tag_other n h = absurd (cc h.0)

-- the number of a tag
abbrev pub tag_word : Datum → ℕ
tag_word d = cast_unsigned w32 (tag_number d)

pub tag_holds : (tag : Tag) (d : Datum) → TagFits tag d → in_word (is_signed tag) (tag_number d) ≡ true
tag_holds tag_int (number z) h = (within (2 ^ 31) z).1 h
tag_holds tag_uint (number z) h = (below (2 ^ 32) z).1 h
tag_holds tag_bool (flag true) h = refl
tag_holds tag_bool (flag false) h = refl
tag_holds (tag_enum ms) (number z) h = (within (2 ^ 31) z).1 h.0
tag_holds tag d h = absurd h

itself : (signed : Bool) (z : ℤ) → in_word signed z ≡ true
    → IsBetween signed z (cast_unsigned w32 z) (cast_unsigned w32 z)
itself signed z h = record { holds = h; above = omega arith; under = omega arith }

pub tag_allowed : (tag : Tag) (d : Datum) → TagFits tag d
    → Allowed (tag_set tag) (tag_word d) × (tag_datum tag (tag_word d) ≡ d)
tag_allowed tag_int (number z) h = ((within_around (2 ^ 31) z (omega arith) h, word32 z h), ap number (back32 z h))
tag_allowed tag_uint (number (pos n)) h = ((le-leb n (2 ^ 32 - 1) (omega (arith, h)), h), refl)
tag_allowed tag_uint (number (negsuc n)) h = absurd h
tag_allowed tag_bool (flag true) h = ((le-leb 1 1 (omega arith), omega arith), refl)
tag_allowed tag_bool (flag false) h = ((le-leb 0 1 (omega arith), omega arith), refl)
tag_allowed (tag_enum ms) (number z) h = (
  (
    of_one true (numbers ms) z (cast_unsigned w32 z) (cast_unsigned w32 z) (of_enum ms z ∙ h.1)
        (itself true z ((within (2 ^ 31) z).1 h.0)),
    word32 z h.0,
  ),
  ap number (back32 z h.0),
)
tag_allowed tag d h = absurd h

bool_number : (n : ℕ) → n ≤ 1 → tag_number (flag (eqb n 1)) ≡ cast_signed w32 n
bool_number zero h = refl
bool_number (suc zero) h = refl
bool_number (suc (suc n)) h = absurd (omega arith)

same_number : (tag : Tag) (n : ℕ) → Allowed (tag_set tag) n → tag_number (tag_datum tag n) ≡ numbered (is_signed tag) n
same_number tag_int n h = refl
same_number tag_uint n h = refl
same_number tag_bool n h = bool_number n (leb-true n 1 h.0)
same_number (tag_enum ms) n h = refl
same_number tag_other n h = absurd (cc h.0)

-- ---- arms of tags

with_default : (z : ℤ) (own default : Option Choice) (c : Choice) → default ≡ Some c
    → (d : Choice) × (or_else own default ≡ Some d)
with_default z (Some d) default c e = (d, refl)
with_default z None default c e = (c, e)

own_first : (own default : Option Choice) (c : Choice) → own ≡ Some c → or_else own default ≡ Some c
own_first own default c e = rw e refl

no_default : (own default : Option Choice) (c : Choice) → default ≡ None → or_else own default ≡ Some c → own ≡ Some c
no_default (Some d) default c e h = h
no_default None default c e h = absurd (cc (e, h))

-- the item of the cases, by whether there is a default
abbrev cases_of : Tag → List Choice → Option Choice → NumberSet
cases_of tag cs o = cond (is_some o) (tag_set tag) (among (is_signed tag) (case_numbers cs))

arm_by : (tag : Tag) (cs : List Choice) (n : ℕ) (o : Option Choice) → default_arm cs ≡ o → Allowed (tag_set tag) n
    → reached (cases_of tag cs o) n n ≡ true
    → (c : Choice) × (arm_of (tag_number (tag_datum tag n)) cs ≡ Some c)
arm_by tag cs n (Some c) e h r = with_default (tag_number (tag_datum tag n))
    (own_arm (tag_number (tag_datum tag n)) cs) (default_arm cs) c e
arm_by tag cs n None e h r =
    let one = exactly (is_signed tag) (case_numbers cs) n back32 r in
    let own = own_case (numbered (is_signed tag) n) cs one.1 in (
      own.0,
      own_first (own_arm (tag_number (tag_datum tag n)) cs) (default_arm cs) own.0
          (ap (λ (z : ℤ). own_arm z cs) (same_number tag n h) ∙ own.1),
    )

-- a number that is a tag and one of the cases has an arm
pub arm_is : (tag : Tag) (cs : List Choice) (n : ℕ) → Allowed (tag_set tag) n → reached (case_set tag cs) n n ≡ true
    → TagHasArm tag cs (tag_datum tag n)
arm_is tag cs n h r = ((tag_fits tag n h).0, arm_by tag cs n (default_arm cs) refl h r)

case_by : (tag : Tag) (cs : List Choice) (d : Datum) (c : Choice) (o : Option Choice) → default_arm cs ≡ o
    → TagFits tag d → arm_of (tag_number d) cs ≡ Some c → reached (cases_of tag cs o) (tag_word d) (tag_word d) ≡ true
case_by tag cs d c (Some e) is h has = (tag_allowed tag d h).0.0
case_by tag cs d c None is h has =
    of_one (is_signed tag) (case_numbers cs) (tag_number d) (tag_word d) (tag_word d)
    (case_own (tag_number d) cs c (no_default (own_arm (tag_number d) cs) (default_arm cs) c is has))
    (itself (is_signed tag) (tag_number d) (tag_holds tag d h))

pub case_allowed : (tag : Tag) (cs : List Choice) (d : Datum) (c : Choice) → TagFits tag d
    → arm_of (tag_number d) cs ≡ Some c → Allowed (case_set tag cs) (tag_word d)
case_allowed tag cs d c h has = (case_by tag cs d c (default_arm cs) refl h has, (tag_allowed tag d h).0.1)

-- ---- what is read

reached_at : (item : NumberSet) (n : ℕ) (bytes rest : List ℕ) → n < 2 ^ 32 → bytes ≡ word n ++ rest
    → may item bytes ≡ true
    → reached item n n ≡ true
reached_at item n bytes rest lt is h =
    let front : may item (word n ++ rest) ≡ true = subst (λ (s : List ℕ). may item s ≡ true) is h in
    sym (ap (λ (m : ℕ). reached item m (high_word (word n ++ rest))) (word_low n rest lt) ∙ ap (reached item n)
    (word_high n rest lt)) ∙ front

tag_read : (tag : Tag) (cs : List Choice) (bytes : List ℕ) (r : AtFront ℕ)
    → Meets bytes word (Allowed (case_set tag cs)) r → may (tag_set tag) bytes ≡ true
    → Meets bytes tag_spelling (TagHasArm tag cs) (r >>= λ n. Ok (tag_datum tag n.0, n.1))
tag_read tag cs bytes (Ok x) h is_tag =
    let allowed : Allowed (tag_set tag) x.0 = (reached_at (tag_set tag) x.0 bytes x.1 h.2.1 h.0 is_tag, h.2.1) in
    (h.0 ∙ ap (λ (s : List ℕ). s ++ x.1) (sym (tag_fits tag x.0 allowed).1), h.1, arm_is tag cs x.0 allowed h.2.0)
tag_read tag cs bytes (Err f) h is_tag = h

meets_at : (tag : Tag) (cs : List Choice) (bytes : List ℕ) (a b : Bool) → ltb 0 (length bytes) ≡ a
    → may (tag_set tag) bytes ≡ b → IsBytes bytes
    → Meets bytes tag_spelling (TagHasArm tag cs)
    (cond a (cond b (in_set_at (case_set tag cs) whys.Case bytes >>= λ n. Ok (tag_datum tag n.0, n.1))
    (Err (Bad (length bytes) (tag_why tag)))) (Err Short))
meets_at tag cs bytes false b p q fits = tt
meets_at tag cs bytes true false p q fits = (ltb-true _ _ p, omega arith)
meets_at tag cs bytes true true p q fits = tag_read tag cs bytes (in_set_at (case_set tag cs) whys.Case bytes)
    (item_meets (case_set tag cs) whys.Case bytes fits) q

pub tag_meets : (tag : Tag) (cs : List Choice) (bytes : List ℕ) → IsBytes bytes
    → Meets bytes tag_spelling (TagHasArm tag cs) (tag_at tag cs bytes)
tag_meets tag cs bytes fits = unfold tag_at in meets_at tag cs bytes _ _ refl refl fits

-- ---- what is spelled

pub tag_again : (tag : Tag) (cs : List Choice) (d : Datum) (c : Choice) (rest : List ℕ) → TagFits tag d
    → arm_of (tag_number d) cs ≡ Some c → tag_at tag cs (tag_spelling d ++ rest) ≡ Ok (d, rest)
unfolding tag_at
tag_again tag cs d c rest fits has =
    let allowed = tag_allowed tag d fits in
    let a : ltb 0 (length (tag_spelling d ++ rest)) ≡ true = lt-ltb _ _ (omega arith) in
    let b : may (tag_set tag) (tag_spelling d ++ rest) ≡ true = word_may (tag_set tag) (tag_word d) rest allowed.0 in
    let r : in_set_at (case_set tag cs) whys.Case (tag_spelling d ++ rest) ≡ Ok (tag_word d, rest) = item_again
    (case_set tag cs) whys.Case (tag_word d) rest (case_allowed tag cs d c fits has) in
    rw (a, b, r, allowed.1) refl

-- ---- more bytes

abbrev guarded : Tag → List ℕ → Bool → Bool → AtFront Datum → AtFront Datum
guarded tag bytes a b r = cond a (cond b r (Err (Bad (length bytes) (tag_why tag)))) (Err Short)

abbrev as_tag : Tag → AtFront ℕ → AtFront Datum
as_tag tag r = r >>= λ n. Ok (tag_datum tag n.0, n.1)

module _ (tag : Tag) (cs : List Choice) (bytes y : List ℕ) where
  -- none of the cases before is none after, unless it is no tag then
  bad_after : (b : Bool) → may (tag_set tag) (bytes ++ y) ≡ b → 0 < length bytes → IsBytes y
      → may (case_set tag cs) bytes ≡ false
      → (cause : Why) × (tag_at tag cs (bytes ++ y) ≡ Err (Bad (length bytes + length y) cause))
  unfolding tag_at in_set_at
  bad_after false is some_byte fits none_does =
      let a : ltb 0 (length (bytes ++ y)) ≡ true = lt-ltb _ _ (omega (arith, some_byte, length-append bytes y)) in
      (tag_why tag, rw (a, is, length-append bytes y) refl)
  bad_after true is some_byte fits none_does =
      let a : ltb 0 (length (bytes ++ y)) ≡ true = lt-ltb _ _ (omega (arith, some_byte, length-append bytes y)) in
      let c : may (case_set tag cs) (bytes ++ y) ≡ false = still_not (case_set tag cs) bytes y _ fits refl none_does in
      (whys.Case, rw (a, is, c, length-append bytes y) refl)

  stays_at : (a b c d : Bool) → ltb 0 (length bytes) ≡ a → may (tag_set tag) bytes ≡ b → may (case_set tag cs) bytes ≡ c
      → ltb (length bytes) 4 ≡ d → IsBytes y
      → Stays y (guarded tag bytes a b (as_tag tag (chosen a c d whys.Case bytes))) (tag_at tag cs (bytes ++ y))
  unfolding tag_at in_set_at
  stays_at false b c d p q r s fits = tt
  stays_at true false c d p q r s fits =
      let a : ltb 0 (length (bytes ++ y)) ≡ true = lt-ltb _ _ (omega (arith, ltb-true _ _ p, length-append bytes y)) in
      let b : may (tag_set tag) (bytes ++ y) ≡ false = still_not (tag_set tag) bytes y _ fits refl q in
      (tag_why tag, rw (a, b, length-append bytes y) refl)
  stays_at true true false d p q r s fits = bad_after _ refl (ltb-true _ _ p) fits r
  stays_at true true true true p q r s fits = tt
  stays_at true true true false p q r s fits =
      let long : 4 ≤ length bytes = ltb-false _ _ s in
      let is = same_word bytes y long in
      let a : ltb 0 (length (bytes ++ y)) ≡ true = lt-ltb _ _ (omega (arith, length-append bytes y)) in
      let b : may (tag_set tag) (bytes ++ y) ≡ true = same_may (tag_set tag) bytes y long ∙ q in
      let c : may (case_set tag cs) (bytes ++ y) ≡ true = same_may (case_set tag cs) bytes y long ∙ r in
      let d : ltb (length (bytes ++ y)) 4 ≡ false = le-ltb _ _ (omega (arith, length-append bytes y)) in
      rw (a, b, c, d, is, drop-append-le 4 bytes y long) refl

  pub tag_stays : IsBytes y → Stays y (tag_at tag cs bytes) (tag_at tag cs (bytes ++ y))
  unfolding tag_at in_set_at
  tag_stays fits = stays_at _ _ _ _ refl refl refl refl fits

-- ---- bytes that run short

case_in : (tag : Tag) (o : Option ℤ) (zs : List ℤ) (z : ℤ) → ((y : ℤ) → o ≡ Some y → IsCase tag y)
    → (is_in zs z ≡ true → IsCase tag z) → is_in (with_case o zs) z ≡ true → IsCase tag z
case_in tag None zs z here go h = go h
case_in tag (Some y) zs z here go h =
    elim (or_cases (int_eq y z) (is_in zs z) h) [
      | inl p ↦ subst (IsCase tag) ((Decides-int_eq y z).0 p) (here y refl)
      | inr p ↦ go p
    ]

each_case : (tag : Tag) (cs : List Choice) (z : ℤ) → AllByRecursion (CaseInRange tag) cs
    → is_in (case_numbers cs) z ≡ true → IsCase tag z
each_case tag [] z all h = absurd cc
each_case tag (c ∷ cs) z all h = case_in tag c.case (case_numbers cs) z all.0 (each_case tag cs z all.1) h

-- a case of the tag, as a tag
case_tag : (K : Kind → Type 0) (tag : Tag) (cs : List Choice) → ArmsHave K tag cs → (z : ℤ) → IsCase tag z
    → (c : Choice) → arm_of z cs ≡ Some c → TagHasArm tag cs (tag_value tag z)
case_tag K tag cs have z is_case c has =
    (have.tags z is_case, (c, ap (λ (w : ℤ). arm_of w cs) (have.back z is_case) ∙ has))

number_back : (signed : Bool) (n : ℕ) → n < 2 ^ 32 → cast_unsigned w32 (numbered signed n) ≡ n
number_back true n lt = of_z-to_z w32 n lt
number_back false n lt = refl

module _ (K : Kind → Type 0) (tag : Tag) (cs : List Choice) where
  complete_by : ArmsHave K tag cs → (bytes : List ℕ) (n : ℕ) (y : List ℕ) (o : Option Choice) → default_arm cs ≡ o
      → reached (cases_of tag cs o) n n ≡ true → n < 2 ^ 32 → bytes ++ y ≡ word n
      → (d : Datum) × (z : List ℕ) × TagHasArm tag cs d × (bytes ++ z ≡ tag_spelling d)
  complete_by have bytes n y (Some c) e r lt is =
      let fits = tag_fits tag n (r, lt) in (
        tag_datum tag n,
        y,
        (
          fits.0,
          with_default (tag_number (tag_datum tag n))
              (own_arm (tag_number (tag_datum tag n)) cs) (default_arm cs) c e,
        ),
        is ∙ sym fits.1,
      )
  complete_by have bytes n y None e r lt is =
      let one = exactly (is_signed tag) (case_numbers cs) n back32 r in
      let z : ℤ = numbered (is_signed tag) n in
      let is_case = each_case tag cs z have.cases one.1 in
      let own = own_case z cs one.1 in
      let word_is : tag_spelling (tag_value tag z) ≡ word n = ap word
      (ap (cast_unsigned w32) (have.back z is_case) ∙ number_back (is_signed tag) n lt) in (
        tag_value tag z,
        y,
        case_tag K tag cs have z is_case own.0
            (own_first (own_arm z cs) (default_arm cs) own.0 own.1),
        is ∙ sym word_is,
      )

  ends_at : ArmsHave K tag cs → (bytes : List ℕ) (a b c d : Bool) → ltb 0 (length bytes) ≡ a
      → may (case_set tag cs) bytes ≡ c → ltb (length bytes) 4 ≡ d → IsBytes bytes
      → Ends bytes tag_spelling (TagHasArm tag cs) (guarded tag bytes a b (as_tag tag (chosen a c d whys.Case bytes)))
  ends_at have [] false b c d p r s fits = (
    tag_value tag have.number,
    tag_spelling (tag_value tag have.number),
    case_tag K tag cs have have.number
        have.is_case have.chosen have.has,
    refl,
  )
  ends_at have (x ∷ bytes) false b c d p r s fits = absurd (omega (arith, ltb-false _ _ p))
  ends_at have bytes true false c d p r s fits = tt
  ends_at have bytes true true false d p r s fits = tt
  ends_at have bytes true true true false p r s fits = tt
  ends_at have bytes true true true true p r s fits =
      let n = completed (case_set tag cs) bytes fits (ltb-true _ _ s)
      (some_number (case_set tag cs) (from_be_bytes w32 bytes) (high_word bytes) (low_high bytes) r) in
      complete_by have bytes n.0 n.1 (default_arm cs) refl n.2.0 n.2.1 n.3

  pub tag_ends : ArmsHave K tag cs → (bytes : List ℕ) → IsBytes bytes
      → Ends bytes tag_spelling (TagHasArm tag cs) (tag_at tag cs bytes)
  unfolding tag_at in_set_at
  tag_ends have bytes fits = ends_at have bytes _ _ _ _ refl refl refl fits

-- ---- levels

never_at : (P : Type 0) (tag : Tag) (bytes : List ℕ) (a b c d : Bool)
    → Deepens P (guarded tag bytes a b (as_tag tag (chosen a c d whys.Case bytes)))
never_at P tag bytes false b c d = tt
never_at P tag bytes true false c d = tt
never_at P tag bytes true true false d = tt
never_at P tag bytes true true true true = tt
never_at P tag bytes true true true false = tt

pub tag_never : (P : Type 0) (tag : Tag) (cs : List Choice) (bytes : List ℕ) → Deepens P (tag_at tag cs bytes)
unfolding tag_at in_set_at
tag_never P tag cs bytes = never_at P tag bytes (ltb 0 (length bytes)) (may (tag_set tag) bytes)
    (may (case_set tag cs) bytes) (ltb (length bytes) 4)
