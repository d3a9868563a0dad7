-- In sound types each type whose names are defined has its zero as a value.
use Rattle.std.proofs.Common.{◌≡◌, ◌≢◌, ℕ, ℤ, zero, suc, ◌^◌, Bool, true, false, List, [], ◌∷◌, length, map, Option}
use Rattle.std.proofs.Common.{Some, None, refl, sym, ap, subst, ◌∙◌, arith, cond, inl, inr, ◌⊎◌}
use lib.IntN.{pos, negsuc}
use Rattle.std.specs.Prelude.{is_some}
use Rattle.std.specs.Ordering.{int_eq}
use Rattle.std.specs.List.{AllByRecursion}
use Rattle.std.proofs.lemmas.Bool.{and_parts, or_left, or_cases, false≢true}
use Rattle.std.proofs.lemmas.Bool.Decides.{Decides-int_eq}
use Rattle.std.proofs.lemmas.List.{length-replicate}
use Rattle.xdr_value.specs.declared.ty.Basic.{Basic}
use Rattle.xdr_value.specs.declared.ty.Basic.TheVariants as basics
use Rattle.xdr_value.specs.Data.{Kind, basic, array, array_up_to, maybe, named, Part, Choice, Form, alias, enum, struct}
use Rattle.xdr_value.specs.Data.{choice, Types, Procs, Datum, number, flag, octets, items, union, none, some, nothing}
use Rattle.xdr_value.specs.Ranges.{IsWithin, has_number}
use Rattle.xdr_value.specs.Heads.{Tag, tag_bool, tag_other, tag_of, Head, is_basic, is_enum, is_struct, is_union}
use Rattle.xdr_value.specs.Heads.{is_array, is_array_up_to, is_maybe, is_unknown, form_named, head_of_form, head_within}
use Rattle.xdr_value.specs.Heads.{head_of, own_arm, default_arm, or_else, arm_of, arm_kind, is_case, is_default}
use Rattle.xdr_value.specs.Hollow.{core}
use Rattle.xdr_value.specs.Fits.{Fits, PartsFit, AllFit, TagFits, ArmFits, count, tag_number}
use Rattle.xdr_value.specs.Facts.{IsCase, CaseInRange, part_kinds, form_kinds, FormIsSound}
use Rattle.xdr_value.specs.Tests.{is_known, kinds_known, core_ends, kinds_end, form_ends, name_ends, all_end, is_sound}
use Rattle.xdr_value.specs.Zero.{copies, basic_zero, kind_zero, parts_zero, first_number, tag_zero, case_or, first_case}
use Rattle.xdr_value.specs.Zero.{tag_value, arm_zero, form_zero, name_zero, zero_of}
use Rattle.xdr_value.specs.Values.{EnumHas, ArmsHave, PartsHave, HaveValues}
use Rattle.xdr_value.proofs.Tells.{known, kinds_are_known}
use Rattle.xdr_value.proofs.Forms.{of_found}
use Rattle.xdr_value.proofs.Rings.{ends_named}
use Rattle.xdr_value.proofs.SoundLaw.{forms_are, tests}

-- ---- heads

-- one more name changes nothing where the names end
same_head_at : (n : ℕ) (t : Types) (o : Option Form) → form_ends (name_ends n t) o ≡ true
    → ((k : Kind) → core_ends (name_ends n t) (core k) ≡ true → head_within n t k ≡ head_within (suc n) t k)
    → head_of_form (head_within n t) o ≡ head_of_form (head_within (suc n) t) o
same_head_at n t None h go = refl
same_head_at n t (Some (alias k)) h go = go k (and_parts (core_ends (name_ends n t) (core k)) true h).0
same_head_at n t (Some (enum ms)) h go = refl
same_head_at n t (Some (struct ps)) h go = refl
same_head_at n t (Some (choice k cs)) h go =
    ap (λ (g : Head). is_union (tag_of g) cs)
    (go k (and_parts (core_ends (name_ends n t) (core k)) (kinds_end (name_ends n t) (map arm_kind cs)) h).0)

same_kind : (n : ℕ) (t : Types)
    → ((s : List ℕ) → name_ends n t s ≡ true → head_within n t (named s) ≡ head_within (suc n) t (named s))
    → (k : Kind) → core_ends (name_ends n t) (core k) ≡ true → head_within n t k ≡ head_within (suc n) t k
unfolding head_within
same_kind n t go (basic b) h = refl
same_kind n t go (array k m) h = refl
same_kind n t go (array_up_to k m) h = refl
same_kind n t go (maybe k) h = refl
same_kind n t go (named s) h = go s h

same_head : (n : ℕ) (t : Types) (s : List ℕ) → name_ends n t s ≡ true
    → head_within n t (named s) ≡ head_within (suc n) t (named s)
unfolding head_within name_ends
same_head zero t s h = absurd cc
same_head (suc n) t s h = same_head_at n t (form_named s t) h (same_kind n t (same_head n t))

-- a defined name stands for what its definition says
pub name_head : (t : Types) (s : List ℕ) (f : Form) → all_end t t ≡ true → form_named s t ≡ Some f
    → head_of t (named s) ≡ head_of_form (head_of t) (Some f)
unfolding head_of head_within
name_head t s f ends e = same_head (length t) t s (ends_named t s f ends e) ∙ ap
    (head_of_form (head_within (length t) t)) e

-- ---- arms

own_at : (z : ℤ) (o : Option ℤ) (c : Choice) (rest : Option Choice) → o ≡ Some z
    → cond (is_case z o) (Some c) rest ≡ Some c
own_at z o c rest e = rw (e, (Decides-int_eq z z).1 refl) refl

-- where an arm is the default, each number has an arm
any_arm : (z : ℤ) (own default : Option Choice) (c : Choice) → default ≡ Some c
    → (d : Choice) × (or_else own default ≡ Some d)
any_arm z (Some d) default c e = (d, refl)
any_arm z None default c e = (c, e)

picked : (b : Bool) (c d : Choice) (o : Option Choice) → cond b (Some c) o ≡ Some d → (c ≡ d) ⊎ (o ≡ Some d)
picked true c d o e = inl cc
picked false c d o e = inr e

own_holds : (P : Choice → Type 0) (z : ℤ) (cs : List Choice) (c : Choice) → AllByRecursion P cs → own_arm z cs ≡ Some c
    → P c
own_holds P z [] c h e = absurd cc
own_holds P z (d ∷ cs) c h e =
    elim (picked (is_case z d.case) d c (own_arm z cs) e) [
      | inl q ↦ subst P q h.0
      | inr q ↦ own_holds P z cs c h.1 q
    ]

default_holds : (P : Choice → Type 0) (cs : List Choice) (c : Choice) → AllByRecursion P cs → default_arm cs ≡ Some c
    → P c
default_holds P [] c h e = absurd cc
default_holds P (d ∷ cs) c h e =
    elim (picked (is_default d.case) d c (default_arm cs) e) [
      | inl q ↦ subst P q h.0
      | inr q ↦ default_holds P cs c h.1 q
    ]

either_holds : (P : Choice → Type 0) (own default : Option Choice) (c : Choice) → ((d : Choice) → own ≡ Some d → P d)
    → ((d : Choice) → default ≡ Some d → P d) → or_else own default ≡ Some c → P c
either_holds P (Some d) default c p q e = p c e
either_holds P None default c p q e = q c e

-- what holds of each arm holds of the one that a number chooses
pub arm_holds : (P : Choice → Type 0) (z : ℤ) (cs : List Choice) (c : Choice) → AllByRecursion P cs
    → arm_of z cs ≡ Some c → P c
arm_holds P z cs c h e = either_holds P (own_arm z cs) (default_arm cs) c (λ d. own_holds P z cs d h)
    (λ d. default_holds P cs d h) e

first_has : (tag : Tag) (c : Choice) (cs : List Choice) (o : Option ℤ) → c.case ≡ o
    → (d : Choice) × (arm_of (case_or o (first_case tag cs)) (c ∷ cs) ≡ Some d)
first_has tag c cs (Some y) e =
    (c, ap (λ (w : Option Choice). or_else w (default_arm (c ∷ cs))) (own_at y c.case c (own_arm y cs) e))
first_has tag c cs None e =
    let default : default_arm (c ∷ cs) ≡ Some c = rw e refl in
    any_arm (first_case tag cs) (own_arm (first_case tag cs) (c ∷ cs)) (default_arm (c ∷ cs)) c default

-- the first case has an arm
first_arm : (tag : Tag) (cs : List Choice) → cs ≢ [] → (d : Choice) × (arm_of (first_case tag cs) cs ≡ Some d)
first_arm tag [] h = absurd (h refl)
first_arm tag (c ∷ cs) h = first_has tag c cs c.case refl

case_at : (tag : Tag) (o : Option ℤ) (z : ℤ) → ((y : ℤ) → o ≡ Some y → IsCase tag y) → IsCase tag z
    → IsCase tag (case_or o z)
case_at tag None z h g = g
case_at tag (Some y) z h g = h y refl

first_is_case : (tag : Tag) (cs : List Choice) → AllByRecursion (CaseInRange tag) cs → IsCase tag (tag_zero tag)
    → IsCase tag (first_case tag cs)
first_is_case tag [] h none_has = none_has
first_is_case tag (c ∷ cs) h none_has = case_at tag c.case (first_case tag cs) h.0 (first_is_case tag cs h.1 none_has)

-- ---- enums and tags

has_first : (ms : List (List ℕ × ℤ)) → ms ≢ [] → has_number ms (first_number ms) ≡ true
has_first [] h = absurd (h refl)
has_first (m ∷ ms) h = or_left (int_eq m.1 m.1) (has_number ms m.1) ((Decides-int_eq m.1 m.1).1 refl)

in_range : (ms : List (List ℕ × ℤ)) → AllByRecursion (λ (m : List ℕ × ℤ). IsWithin (2 ^ 31) m.1) ms → (z : ℤ)
    → has_number ms z ≡ true → IsWithin (2 ^ 31) z
in_range [] h z e = absurd cc
in_range (m ∷ ms) h z e =
    elim (or_cases (int_eq m.1 z) (has_number ms z) e) [
      | inl q ↦ subst (IsWithin (2 ^ 31)) ((Decides-int_eq m.1 z).0 q) h.0
      | inr q ↦ in_range ms h.1 z q
    ]

enum_has : (t : Types) (ms : List (List ℕ × ℤ)) → FormIsSound t (enum ms) → EnumHas ms
enum_has t ms h = record { first = has_first ms h.0; within = in_range ms h.2 }

pub record TagHas (tag : Tag) : Type 0 where
  pub tags : (z : ℤ) → IsCase tag z → TagFits tag (tag_value tag z)
  pub back : (z : ℤ) → IsCase tag z → tag_number (tag_value tag z) ≡ z
  pub zero_case : IsCase tag (tag_zero tag)

bool_back : (z : ℤ) → IsCase tag_bool z → tag_number (tag_value tag_bool z) ≡ z
bool_back (pos zero) h = refl
bool_back (pos (suc zero)) h = refl
bool_back (pos (suc (suc n))) h = absurd (omega (arith, h))
bool_back (negsuc n) h = absurd h

tag_has : (K : Kind → Type 0) (h : Head) → PartsHave K h → tag_of h ≢ tag_other → TagHas (tag_of h)
tag_has K (is_basic basics.Int) have is = record { tags = λ z h. h; back = λ z h. refl; zero_case = omega arith }
tag_has K (is_basic basics.Uint) have is = record { tags = λ z h. h; back = λ z h. refl; zero_case = omega arith }
tag_has K (is_basic basics.Bool) have is = record { tags = λ z h. tt; back = bool_back; zero_case = omega arith }
tag_has K (is_basic basics.Hyper) have is = absurd (is refl)
tag_has K (is_basic basics.Uhyper) have is = absurd (is refl)
tag_has K (is_basic basics.Short) have is = absurd (is refl)
tag_has K (is_basic basics.Ushort) have is = absurd (is refl)
tag_has K (is_basic basics.Char) have is = absurd (is refl)
tag_has K (is_basic basics.Uchar) have is = absurd (is refl)
tag_has K (is_basic basics.Void) have is = absurd (is refl)
tag_has K (is_basic (basics.Opaque n)) have is = absurd (is refl)
tag_has K (is_basic (basics.OpaqueUpTo n)) have is = absurd (is refl)
tag_has K (is_basic (basics.Text n)) have is = absurd (is refl)
tag_has K (is_enum ms) have is = record
    { tags = λ z h. (have.within z h, h); back = λ z h. refl; zero_case = have.first }
tag_has K (is_struct ps) have is = absurd (is refl)
tag_has K (is_union tag cs) have is = absurd (is refl)
tag_has K (is_array k n) have is = absurd (is refl)
tag_has K (is_array_up_to k n) have is = absurd (is refl)
tag_has K (is_maybe k) have is = absurd (is refl)
tag_has K is_unknown have is = absurd (is refl)

-- ---- the parts of a known type are known

abbrev Known : Types → Kind → Type 0
Known t k = is_known t k ≡ true

abbrev NamesHave : ℕ → Types → Type 0
NamesHave n t = (s : List ℕ) → name_ends n t s ≡ true → PartsHave (Known t) (head_of t (named s))

kind_parts : (n : ℕ) (t : Types) → NamesHave n t → (k : Kind) → Known t k → core_ends (name_ends n t) (core k) ≡ true
    → PartsHave (Known t) (head_of t k)
unfolding head_of head_within
kind_parts n t names (basic b) known h = tt
kind_parts n t names (array k m) known h = known
kind_parts n t names (array_up_to k m) known h = known
kind_parts n t names (maybe k) known h = known
kind_parts n t names (named s) known h = names s h

parts_known : (t : Types) (ps : List Part) → kinds_known t (part_kinds ps) ≡ true
    → AllByRecursion (λ (p : Part). Known t p.kind) ps
parts_known t [] h = tt
parts_known t (p ∷ ps) h = let e = and_parts (is_known t p.kind) (kinds_known t (part_kinds ps)) h in
    (e.0, parts_known t ps e.1)

arms_known : (t : Types) (cs : List Choice) → kinds_known t (map arm_kind cs) ≡ true
    → AllByRecursion (λ (c : Choice). Known t (arm_kind c)) cs
arms_known t [] h = tt
arms_known t (c ∷ cs) h = let e = and_parts (is_known t (arm_kind c)) (kinds_known t (map arm_kind cs)) h in
    (e.0, arms_known t cs e.1)

arms_have : (t : Types) (k : Kind) (cs : List Choice) → FormIsSound t (choice k cs) → TagHas (tag_of (head_of t k))
    → ArmsHave (Known t) (tag_of (head_of t k)) cs
arms_have t k cs sound tag =
    let first = first_arm (tag_of (head_of t k)) cs sound.0 in
    let arms = arms_known t cs ((kinds_are_known t (map arm_kind cs)).1 sound.1.1) in
    record {
      arms = λ z c e. arm_holds (λ (c : Choice). Known t (arm_kind c)) z cs c arms e;
      tags = tag.tags;
      back = tag.back;
      cases = sound.4;
      number = first_case (tag_of (head_of t k)) cs;
      is_case = first_is_case (tag_of (head_of t k)) cs sound.4 tag.zero_case;
      chosen = first.0;
      has = first.1;
    }

form_parts : (n : ℕ) (t : Types) → NamesHave n t → (f : Form) → FormIsSound t f
    → kinds_end (name_ends n t) (form_kinds f) ≡ true → PartsHave (Known t) (head_of_form (head_of t) (Some f))
form_parts n t names (alias k) sound h = kind_parts n t names k ((known t k).1 sound)
    (and_parts (core_ends (name_ends n t) (core k)) true h).0
form_parts n t names (enum ms) sound h = enum_has t ms sound
form_parts n t names (struct ps) sound h = parts_known t ps ((kinds_are_known t (part_kinds ps)).1 sound.0)
form_parts n t names (choice k cs) sound h =
    let ends = (and_parts (core_ends (name_ends n t) (core k)) (kinds_end (name_ends n t) (map arm_kind cs)) h).0 in
    arms_have t k cs sound (tag_has (Known t) (head_of t k) (kind_parts n t names k ((known t k).1 sound.1.0) ends)
    sound.2)

abbrev Forms : Types → Type 0
Forms t = AllByRecursion (λ (d : List ℕ × Form). FormIsSound t d.1) t

named_parts : (n : ℕ) (t : Types) → Forms t → all_end t t ≡ true → NamesHave n t → (s : List ℕ) (o : Option Form)
    → form_named s t ≡ o → form_ends (name_ends n t) o ≡ true → PartsHave (Known t) (head_of t (named s))
named_parts n t forms ends names s None e h = absurd (false≢true h)
named_parts n t forms ends names s (Some f) e h =
    subst (PartsHave (Known t)) (sym (name_head t s f ends e))
    (form_parts n t names f (of_found (FormIsSound t) t s f forms e) h)

names_have : (n : ℕ) (t : Types) → Forms t → all_end t t ≡ true → NamesHave n t
unfolding name_ends
names_have zero t forms ends s h = absurd (false≢true h)
names_have (suc n) t forms ends s h = named_parts n t forms ends (names_have n t forms ends) s (form_named s t) refl h

-- ---- zeros fit

basic_fits : (t : Types) (b : Basic) → Fits t (basic b) (basic_zero b)
unfolding head_of head_within
basic_fits t basics.Int = omega arith
basic_fits t basics.Uint = omega arith
basic_fits t basics.Hyper = omega arith
basic_fits t basics.Uhyper = omega arith
basic_fits t basics.Short = omega arith
basic_fits t basics.Ushort = omega arith
basic_fits t basics.Char = omega arith
basic_fits t basics.Uchar = omega arith
basic_fits t basics.Bool = tt
basic_fits t basics.Void = tt
basic_fits t (basics.Opaque n) = length-replicate {A = ℕ} n 0
basic_fits t (basics.OpaqueUpTo n) = (omega arith, omega arith)
basic_fits t (basics.Text n) = (omega arith, omega arith)

count-copies : (n : ℕ) (d : Datum) → count (copies n d) ≡ n
count-copies zero d = refl
count-copies (suc n) d = ap suc (count-copies n d)

copies_fit : (t : Types) (k : Kind) (n : ℕ) (d : Datum) → Fits t k d → AllFit t k (copies n d)
copies_fit t k zero d h = tt
copies_fit t k (suc n) d h = (h, copies_fit t k n d h)

abbrev NamesFit : ℕ → Types → Type 0
NamesFit n t = (s : List ℕ) → name_ends n t s ≡ true → Fits t (named s) (name_zero n t s)

kind_fits : (n : ℕ) (t : Types) → NamesFit n t → (k : Kind) → core_ends (name_ends n t) (core k) ≡ true
    → Fits t k (kind_zero (name_zero n t) k)
unfolding head_of head_within
kind_fits n t names (basic b) h = basic_fits t b
kind_fits n t names (array k m) h = (
  count-copies m (kind_zero (name_zero n t) k),
  copies_fit t k m (kind_zero (name_zero n t) k)
      (kind_fits n t names k h),
)
kind_fits n t names (array_up_to k m) h = (omega arith, omega arith, tt)
kind_fits n t names (maybe k) h = tt
kind_fits n t names (named s) h = names s h

parts_do_fit : (n : ℕ) (t : Types) → NamesFit n t → (ps : List Part) → kinds_end (name_ends n t) (part_kinds ps) ≡ true
    → PartsFit t ps (parts_zero (name_zero n t) ps)
parts_do_fit n t names [] h = tt
parts_do_fit n t names (p ∷ ps) h =
    let e = and_parts (core_ends (name_ends n t) (core p.kind)) (kinds_end (name_ends n t) (part_kinds ps)) h in
    (kind_fits n t names p.kind e.0, parts_do_fit n t names ps e.1)

arms_end : (held : List ℕ → Bool) (cs : List Choice) → kinds_end held (map arm_kind cs) ≡ true
    → AllByRecursion (λ (c : Choice). core_ends held (core (arm_kind c)) ≡ true) cs
arms_end held [] h = tt
arms_end held (c ∷ cs) h = let e = and_parts (core_ends held (core (arm_kind c))) (kinds_end held (map arm_kind cs)) h
    in (e.0, arms_end held cs e.1)

arm_fits : (n : ℕ) (t : Types) → NamesFit n t → (tag : Tag) (cs : List Choice) → TagHas tag → (z : ℤ) → IsCase tag z
    → (c : Choice) → arm_of z cs ≡ Some c
    → kinds_end (name_ends n t) (map arm_kind cs) ≡ true
    → ArmFits (arm_of (tag_number (tag_value tag z)) cs) (λ e. Fits t e (arm_zero (name_zero n t) (arm_of z cs)))
arm_fits n t names tag cs has z is_case c e h =
    rw (has.back z is_case, e) (kind_fits n t names (arm_kind c)
    (arm_holds (λ (c : Choice). core_ends (name_ends n t) (core (arm_kind c)) ≡ true) z cs c
    (arms_end (name_ends n t) cs h) e))

fits_same : (t : Types) (k l : Kind) (d : Datum) → head_of t k ≡ head_of t l → Fits t l d → Fits t k d
fits_same t k l (number z) e h = rw e h
fits_same t k l (flag b) e h = rw e h
fits_same t k l (octets c) e h = rw e h
fits_same t k l (items vs) e h = rw e h
fits_same t k l (union tag arm) e h = rw e h
fits_same t k l none e h = rw e h
fits_same t k l (some v) e h = rw e h
fits_same t k l nothing e h = rw e h

form_fits : (n : ℕ) (t : Types) → Forms t → all_end t t ≡ true → NamesFit n t → (s : List ℕ) (f : Form)
    → form_named s t ≡ Some f → FormIsSound t f → kinds_end (name_ends n t) (form_kinds f) ≡ true
    → Fits t (named s) (form_zero t (name_zero n t) (Some f))
form_fits n t forms ends names s (alias k) e sound h =
    fits_same t (named s) k (kind_zero (name_zero n t) k) (name_head t s (alias k) ends e)
    (kind_fits n t names k (and_parts (core_ends (name_ends n t) (core k)) true h).0)
form_fits n t forms ends names s (enum ms) e sound h =
    let has = enum_has t ms sound in
    rw (name_head t s (enum ms) ends e) (has.within (first_number ms) has.first, has.first)
form_fits n t forms ends names s (struct ps) e sound h = rw (name_head t s (struct ps) ends e)
    (parts_do_fit n t names ps h)
form_fits n t forms ends names s (choice k cs) e sound h =
    let tag = tag_of (head_of t k) in
    let ended = and_parts (core_ends (name_ends n t) (core k)) (kinds_end (name_ends n t) (map arm_kind cs)) h in
    let has = tag_has (Known t) (head_of t k)
    (kind_parts n t (names_have n t forms ends) k ((known t k).1 sound.1.0) ended.0) sound.2 in
    let first = first_arm tag cs sound.0 in
    let is_case = first_is_case tag cs sound.4 has.zero_case in
    rw (name_head t s (choice k cs) ends e) (
      has.tags (first_case tag cs) is_case,
      arm_fits n t names tag cs has (first_case tag cs) is_case first.0 first.1
          ended.1,
    )

named_fits : (n : ℕ) (t : Types) → Forms t → all_end t t ≡ true → NamesFit n t → (s : List ℕ) (o : Option Form)
    → form_named s t ≡ o → form_ends (name_ends n t) o ≡ true
    → Fits t (named s) (form_zero t (name_zero n t) o)
named_fits n t forms ends names s None e h = absurd (false≢true h)
named_fits n t forms ends names s (Some f) e h = form_fits n t forms ends names s f e
    (of_found (FormIsSound t) t s f forms e) h

names_fit : (n : ℕ) (t : Types) → Forms t → all_end t t ≡ true → NamesFit n t
unfolding name_ends name_zero
names_fit zero t forms ends s h = absurd (false≢true h)
names_fit (suc n) t forms ends s h = named_fits n t forms ends (names_fit n t forms ends) s (form_named s t) refl h

defined : (t : Types) (s : List ℕ) (o : Option Form) → form_named s t ≡ o → is_some o ≡ true
    → (f : Form) × (form_named s t ≡ Some f)
defined t s None e h = absurd cc
defined t s (Some f) e h = (f, e)

known_ends : (t : Types) → all_end t t ≡ true → (k : Kind) → Known t k
    → core_ends (name_ends (length t) t) (core k) ≡ true
known_ends t ends (basic b) h = refl
known_ends t ends (array k m) h = known_ends t ends k h
known_ends t ends (array_up_to k m) h = refl
known_ends t ends (maybe k) h = refl
known_ends t ends (named s) h = let f = defined t s (form_named s t) refl h in ends_named t s f.0 ends f.1

-- the zero of a known type fits
pub zero_fits : (t : Types) (ps : Procs) → is_sound t ps ≡ true → (k : Kind) → is_known t k ≡ true
    → Fits t k (zero_of t k)
unfolding zero_of
zero_fits t ps sound k known =
    let s = tests t ps sound in
    kind_fits (length t) t (names_fit (length t) t ((forms_are t t).0 s.second) s.third) k
    (known_ends t s.third k known)

pub sound_values : (t : Types) (ps : Procs) → is_sound t ps ≡ true → HaveValues t (λ k. is_known t k ≡ true)
sound_values t ps sound =
    let s = tests t ps sound in
    record {
      parts = λ k known. kind_parts (length t) t (names_have (length t) t ((forms_are t t).0 s.second) s.third) k known
          (known_ends t s.third k known);
      value = λ k known. (zero_of t k, zero_fits t ps sound k known);
    }
