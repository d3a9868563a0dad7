-- In sound types, the names in one enum or one struct differ, and the numbers of an enum are ints.
use Rattle.std.proofs.Common.{◌≡◌, ℕ, ℤ, zero, suc, ◌^◌, List, [], ◌∷◌, true, true≢false, Option, Some, None, map, inl}
use Rattle.std.proofs.Common.{inr, refl, sym, subst}
use Rattle.std.proofs.lemmas.Bool.{or_cases}
use Rattle.std.proofs.lemmas.Bool.Decides.{Decides-int_eq}
use Rattle.std.specs.Ordering.{int_eq}
use Rattle.std.specs.List.{AllByRecursion, IsDistinct}
use Rattle.std.specs.Str.{bytes_eq}
use Rattle.xdr_value.specs.declared.ty.Basic.{Basic}
use Rattle.xdr_value.specs.declared.ty.Basic.TheVariants as basics
use Rattle.xdr_value.specs.Data.{Kind, basic, array, array_up_to, maybe, named, Part, Form, alias, enum, struct, choice}
use Rattle.xdr_value.specs.Data.{Types}
use Rattle.xdr_value.specs.Heads.{Tag, tag_int, tag_uint, tag_bool, tag_enum, tag_other, tag_of, Head, is_basic}
use Rattle.xdr_value.specs.Heads.{is_enum, is_struct, is_union, is_array, is_array_up_to, is_maybe, is_unknown}
use Rattle.xdr_value.specs.Heads.{head_within, head_of, head_of_form, form_named}
use Rattle.xdr_value.specs.Ranges.{IsWithin, is_within, has_number}
use Rattle.xdr_value.specs.Facts.{FormIsSound, names_of}
use Rattle.xdr_value.proofs.Forms.{of_found}
use Rattle.xdr_value.proofs.Tells.{within}

-- no two members have one name, and each number is an int
abbrev pub EnumSound : List (List ℕ × ℤ) → Type 0
EnumSound ms = IsDistinct bytes_eq (names_of ms) × ((z : ℤ) → has_number ms z ≡ true → is_within (2 ^ 31) z ≡ true)

-- so are those of a tag
abbrev pub TagSound : Tag → Type 0
TagSound tag_int = Unit {0}
TagSound tag_uint = Unit {0}
TagSound tag_bool = Unit {0}
TagSound (tag_enum ms) = EnumSound ms
TagSound tag_other = Unit {0}

-- no two members or fields have one name, and each member's number is an int
abbrev pub HeadSound : Head → Type 0
HeadSound (is_basic b) = Unit {0}
HeadSound (is_enum ms) = EnumSound ms
HeadSound (is_struct ps) = IsDistinct bytes_eq (map (λ (p : Part). p.name) ps)
HeadSound (is_union tag cs) = TagSound tag
HeadSound (is_array k n) = Unit {0}
HeadSound (is_array_up_to k n) = Unit {0}
HeadSound (is_maybe k) = Unit {0}
HeadSound is_unknown = Unit {0}

ints : (ms : List (List ℕ × ℤ)) → AllByRecursion (λ (m : List ℕ × ℤ). IsWithin (2 ^ 31) m.1) ms → (z : ℤ)
    → has_number ms z ≡ true → is_within (2 ^ 31) z ≡ true
ints [] all z has = absurd (true≢false (sym has))
ints (m ∷ ms) all z has =
    elim (or_cases (int_eq m.1 z) (has_number ms z) has) [
      | inl same ↦ subst (λ (y : ℤ). is_within (2 ^ 31) y ≡ true) ((Decides-int_eq m.1 z).0 same)
          ((within (2 ^ 31) m.1).1 all.0)
      | inr behind ↦ ints ms all.1 z behind
    ]

basic_tag : (b : Basic) → TagSound (tag_of (is_basic b))
basic_tag basics.Int = tt
basic_tag basics.Uint = tt
basic_tag basics.Hyper = tt
basic_tag basics.Uhyper = tt
basic_tag basics.Short = tt
basic_tag basics.Ushort = tt
basic_tag basics.Char = tt
basic_tag basics.Uchar = tt
basic_tag basics.Bool = tt
basic_tag basics.Void = tt
basic_tag (basics.Opaque n) = tt
basic_tag (basics.OpaqueUpTo n) = tt
basic_tag (basics.Text n) = tt

tag_sound : (h : Head) → HeadSound h → TagSound (tag_of h)
tag_sound (is_basic b) differ = basic_tag b
tag_sound (is_enum ms) differ = differ
tag_sound (is_struct ps) differ = tt
tag_sound (is_union tag cs) differ = tt
tag_sound (is_array k n) differ = tt
tag_sound (is_array_up_to k n) differ = tt
tag_sound (is_maybe k) differ = tt
tag_sound is_unknown differ = tt

form_sound_head : (t : Types) (follow : Kind → Head) → ((k : Kind) → HeadSound (follow k)) → (o : Option Form)
    → ((f : Form) → o ≡ Some f → FormIsSound t f) → HeadSound (head_of_form follow o)
form_sound_head t follow differ None sound = tt
form_sound_head t follow differ (Some (alias k)) sound = differ k
form_sound_head t follow differ (Some (enum ms)) sound = (let is = sound (enum ms) refl in (is.1, ints ms is.2))
form_sound_head t follow differ (Some (struct ps)) sound = (sound (struct ps) refl).1
form_sound_head t follow differ (Some (choice k cs)) sound = tag_sound (follow k) (differ k)

-- the definitions are sound
abbrev pub Forms : Types → Type 0
Forms t = AllByRecursion (λ (d : List ℕ × Form). FormIsSound t d.1) t

within_sound : (n : ℕ) (t : Types) → Forms t → (k : Kind) → HeadSound (head_within n t k)
unfolding head_within
within_sound n t sound (basic b) = tt
within_sound n t sound (array k m) = tt
within_sound n t sound (array_up_to k m) = tt
within_sound n t sound (maybe k) = tt
within_sound zero t sound (named s) = tt
within_sound (suc n) t sound (named s) =
    form_sound_head t (head_within n t) (within_sound n t sound) (form_named s t)
    (λ f is. of_found (FormIsSound t) t s f sound is)

-- so it is in what each type is
pub head_sound : (t : Types) → Forms t → (k : Kind) → HeadSound (head_of t k)
unfolding head_of
head_sound t sound k = within_sound _ t sound k
