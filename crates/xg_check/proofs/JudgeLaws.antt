-- What the tables say of a type that holds no endless one.
use Rattle.std.proofs.Common.{◌≡◌, ◌↔◌, ℕ, ℤ, ◌<◌, Bool, true, false, not, List, length, slice_get, Option, Some, None}
use Rattle.std.proofs.Common.{unwrap_or, option_map, option_and_then, refl, sym, ap, subst, ◌∙◌, arith, inl, inr}
use Rattle.std.specs.Prelude.{IsTrue}
use Rattle.std.proofs.lemmas.Bool.{false≢true}
use Rattle.xg_parse.specs.declared.tree.ConstWord.{ConstWord}
use Rattle.xg_parse.specs.declared.tree.TypeWord.{TypeWord}
use Rattle.xg_parse.specs.declared.tree.TypeWord.TheVariants as types
use Rattle.xg_parse.specs.declared.tree.Form.TheVariants as forms
use Rattle.xg_parse.specs.declared.tree.Part.{Part}
use Rattle.xg_check.specs.declared.tags.Tag.{Tag}
use Rattle.xg_check.specs.declared.tags.Tag.TheVariants as tags
use Rattle.xg_check.specs.Places.{place_of}
use Rattle.xg_check.specs.Constants.{ConstantDef, size_of}
use Rattle.xg_check.specs.Typed.{type_names, word_place}
use Rattle.xg_check.specs.Encodings.{place_hollow, hollow_at, is_hollow, array_bytes, both, form_bytes, word_bytes}
use Rattle.xg_check.specs.Encodings.{bytes_at, declared_bytes}
use Rattle.xg_check.specs.Tags.{place_tag, word_tag, tag_at, tag_of, has_case}
use Rattle.xg_check.specs.Judged.{Scope, HoldsNoEndless, passes_most, IsTooLarge, IsTypeTooLarge, is_no_case}
use Rattle.xg_check.specs.Held.{flat, capped, held_count, hollow_word, held_tag, IsCapped, AreEncodings}
use Rattle.xg_check.specs.Judging.{AreWithoutEnd}
use Rattle.xg_check.proofs.SearchLaws.{mark_at}
use Rattle.xg_check.proofs.WayLaws.{word_inside}
use Rattle.xg_check.proofs.FreeLaws.{no_endless_ends}
use Rattle.xg_check.proofs.MeasureLaws.{known_of, capped_known, known_is}

-- the bytes that are known
abbrev pub known_bytes : List Part → List ConstantDef → List (Option ℕ) → ℕ → Option ℕ
known_bytes ts cs least j = known_of (held_count least j) (bytes_at ts cs j)

module _ (ts : List Part) (cs : List ConstantDef) (hollow : List Bool) (least : List (Option ℕ))
    (are : AreEncodings ts cs hollow least) where
  pub known_capped : IsCapped (known_bytes ts cs least) least
  known_capped = capped_known ts cs least are.right

  pub count_is : (i : ℕ) → i < length ts → HoldsNoEndless ts (Some i)
      → held_count least i ≡ option_map capped (bytes_at ts cs i)
  count_is i lt free = ap flat (are.least_is i (no_endless_ends ts i lt free) lt)

  pub hollow_is_right : (t : TypeWord) → HoldsNoEndless ts (word_place ts t)
      → hollow_word hollow ts t ≡ is_hollow ts cs t
  hollow_is_right t free = by_place (word_place ts t) refl free
    where
      by_place : (o : Option ℕ) → word_place ts t ≡ o → HoldsNoEndless ts o
          → place_hollow (λ i. unwrap_or (slice_get hollow i) false) o ≡ place_hollow (hollow_at ts cs) o
      by_place None at h = refl
      by_place (Some i) at h =
          let lt : i < length ts = word_inside ts t i at in
          ap (λ (o : Option Bool). unwrap_or o false) (are.hollow_is i (no_endless_ends ts i lt h) lt)

  word_is : (t : TypeWord) → HoldsNoEndless ts (word_place ts t)
      → word_bytes (known_bytes ts cs least) ts t ≡ word_bytes (bytes_at ts cs) ts t
  word_is (types.Base words) free = refl
  word_is (types.Name name) free = by_place (word_place ts (types.Name name)) refl free
    where
      by_place : (o : Option ℕ) → word_place ts (types.Name name) ≡ o → HoldsNoEndless ts o
          → option_and_then (known_bytes ts cs least) o ≡ option_and_then (bytes_at ts cs) o
      by_place None at h = refl
      by_place (Some i) at h =
          known_is ts cs least i (count_is i (word_inside ts (types.Name name) i at) h)

  pub fixed_bytes : (t : TypeWord) (size : ConstWord) → HoldsNoEndless ts (word_place ts t)
      → form_bytes (word_bytes (known_bytes ts cs least) ts) cs (forms.Fixed t size)
      ≡ declared_bytes ts cs (forms.Fixed t size)
  fixed_bytes t size free = ap (λ (o : Option ℕ). both array_bytes (size_of cs size) o) (word_is t free)

-- the tags
pub tags_right : (ts : List Part) (found : List Tag)
    → ((i : ℕ) → i < length ts → slice_get found i ≡ Some (tag_at ts i))
    → (t : TypeWord) → word_tag (held_tag found) ts t ≡ tag_of ts t
tags_right ts found are (types.Base words) = refl
tags_right ts found are (types.Name name) = by_place (word_place ts (types.Name name)) refl
  where
    by_place : (o : Option ℕ) → word_place ts (types.Name name) ≡ o
        → place_tag (held_tag found) o ≡ place_tag (tag_at ts) o
    by_place None at = refl
    by_place (Some i) at =
        ap (λ (o : Option Tag). unwrap_or o tags.Other) (are i (word_inside ts (types.Name name) i at))

-- a type is marked exactly where it holds an endless one
pub free_is : (ts : List Part) (marks : List Bool) (i : ℕ) → AreWithoutEnd ts marks → i < length ts
    → (slice_get marks i ≡ Some false) ↔ HoldsNoEndless ts (Some i)
free_is ts marks i are lt = (
  λ e. are.free i e,
  λ free. elim (mark_at marks i (omega (arith, lt, are.size))) [
    | inl so ↦ absurd (are.held i so free)
    | inr not_so ↦ not_so
  ],
)

pub name_inside : (ts : List Part) (name : List ℕ) (i : ℕ) → place_of name (type_names ts) ≡ Some i → i < length ts
name_inside ts name i e = word_inside ts (types.Name name) i e

-- ---- what is judged of them

abbrev pub scope : List Part → List ConstantDef → Scope
scope ts cs = record { constants = cs; types = ts }

module _ (ts : List Part) (cs : List ConstantDef) where
  same_place : (name : List ℕ) (i : ℕ) → Some i ≡ place_of name (type_names ts)
      → (w : IsTypeTooLarge (scope ts cs) name) → w.place ≡ i
  same_place name i e w = let two : Some w.place ≡ Some i = sym w.stands ∙ sym e in cc

  pub not_free_type : (name : List ℕ) (i : ℕ) (r : Bool) → Some i ≡ place_of name (type_names ts)
      → r ≡ false → (HoldsNoEndless ts (Some i) → ⊥) → IsTrue r ↔ IsTypeTooLarge (scope ts cs) name
  not_free_type name i r e is not_free = (
    λ t. absurd (false≢true (sym is ∙ t)),
    λ w. absurd (not_free (subst (λ (j : ℕ). HoldsNoEndless ts (Some j)) (same_place name i e w) w.ends)),
  )

  pub free_type : (name : List ℕ) (i : ℕ) (r : Bool) → Some i ≡ place_of name (type_names ts)
      → HoldsNoEndless ts (Some i) → r ≡ passes_most (bytes_at ts cs i)
      → IsTrue r ↔ IsTypeTooLarge (scope ts cs) name
  free_type name i r e free is = (
    λ t. record { place = i; stands = sym e; ends = free; too_large = sym is ∙ t },
    λ w. is ∙ subst (λ (j : ℕ). passes_most (bytes_at ts cs j) ≡ true) (same_place name i e w) w.too_large,
  )

  pub held_hollow : (t : TypeWord) (r : Bool) → HoldsNoEndless ts (word_place ts t) → r ≡ is_hollow ts cs t
      → IsTrue r ↔ (HoldsNoEndless ts (word_place ts t) × (is_hollow ts cs t ≡ true))
  held_hollow t r free is = (λ so. (free, sym is ∙ so), λ h. is ∙ h.1)

  pub held_large : (t : TypeWord) (size : ConstWord) (r : Bool) → HoldsNoEndless ts (word_place ts t)
      → r ≡ passes_most (declared_bytes ts cs (forms.Fixed t size))
      → IsTrue r ↔ IsTooLarge (scope ts cs) (forms.Fixed t size)
  held_large t size r free is = (λ so. (free, sym is ∙ so), λ h. is ∙ h.1)

  pub opaque_large : (size : ConstWord) (r : Bool) → r ≡ passes_most (declared_bytes ts cs (forms.Opaque size))
      → IsTrue r ↔ IsTooLarge (scope ts cs) (forms.Opaque size)
  opaque_large size r is = (λ u. sym is ∙ u, λ h. is ∙ h)

  -- a case, where it has a value
  pub case_is : (tag : TypeWord) (t : Tag) (z : ℤ) (has : Bool) (v : Option ℤ) → t ≡ tag_of ts tag
      → has ≡ has_case ts cs t z → Some z ≡ v → not has ≡ is_no_case (scope ts cs) tag v
  case_is tag t z has v is e at =
      ap not (e ∙ ap (λ (u : Tag). has_case ts cs u z) is) ∙ ap (is_no_case (scope ts cs) tag) at
