-- The tag that a type of the text is, is that of its type in the interface.
use Rattle.std.proofs.Common.{◌≡◌, ℕ, ℤ, zero, suc, ◌^◌, Bool, true, false, cond, List, [], ◌∷◌, ◌++◌, length, map}
use Rattle.std.proofs.Common.{flat_map, slice_get, Option, Some, None, is_some, is_none, refl, sym, ap, subst, ◌∙◌, inl}
use Rattle.std.proofs.Common.{inr}
use Rattle.std.specs.Ordering.{int_eq}
use Rattle.std.specs.List.{AllByRecursion}
use lib.IntN.{pos}
use Rattle.std.proofs.lemmas.Bool.{false≢true, or_cases, or_left, or_right}
use Rattle.xdr_value.specs.declared.ty.Basic.{Basic}
use Rattle.xdr_value.specs.declared.ty.Basic.TheVariants as basics
use Rattle.xdr_value.specs.Data.{Form as Shape, alias, enum, struct, choice, Types}
use Rattle.xdr_value.specs.Heads.{Tag as XdrTag, tag_int, tag_uint, tag_bool, tag_enum, tag_other, tag_of as xdr_tag_of}
use Rattle.xdr_value.specs.Heads.{head_of_form, head_within, head_of, form_named}
use Rattle.xdr_value.specs.Ranges.{is_within, has_number}
use Rattle.xdr_value.specs.Facts.{IsDefined, names_of}
use Rattle.xdr_value.specs.Tests.{is_tag as xdr_is_tag, case_in_range}
use Rattle.xg_parse.specs.declared.tree.TypeWord.{TypeWord}
use Rattle.xg_parse.specs.declared.tree.TypeWord.TheVariants as types
use Rattle.xg_parse.specs.declared.tree.Form.{Form}
use Rattle.xg_parse.specs.declared.tree.Form.TheVariants as forms
use Rattle.xg_parse.specs.declared.tree.MembItem.{MembItem}
use Rattle.xg_parse.specs.declared.tree.Part.{Part}
use Rattle.xg_parse.specs.declared.tree.Part.TheVariants as parts
use Rattle.xg_check.specs.declared.tags.Tag.{Tag}
use Rattle.xg_check.specs.declared.tags.Tag.TheVariants as tags
use Rattle.xg_check.specs.Places.{place_of}
use Rattle.xg_check.specs.Bases.{base_named}
use Rattle.xg_check.specs.Constants.{ConstantDef, value_named}
use Rattle.xg_check.specs.Typed.{type_name, type_names}
use Rattle.xg_check.specs.Tags.{base_tag, place_tag, word_tag, form_tag, part_tag, tag_within, tag_at, tag_of, is_value}
use Rattle.xg_check.specs.Tags.{members_have, enum_has, has_case}
use Rattle.xg_check.specs.Judged.{is_tag}
use Rattle.xg_check.specs.Meant.{base_kind, word_kind, form_kind, value_or_zero, member_meant, part_type}
use Rattle.xg_check.proofs.KnownLaws.{place_defined}
use Rattle.xg_check.proofs.EndlessLaws.{found}

-- the members of an enum
abbrev pub enum_members : List ConstantDef → Option Part → List (List ℕ × ℤ)
enum_members cs (Some (parts.Enum n ms)) = map (member_meant cs) ms
enum_members cs _ = []

-- a tag of the text as one of the interface
abbrev pub tag_seen : List Part → List ConstantDef → Tag → XdrTag
tag_seen ts cs tags.Int = tag_int
tag_seen ts cs tags.Uint = tag_uint
tag_seen ts cs tags.Bool = tag_bool
tag_seen ts cs (tags.Enum i) = tag_enum (enum_members cs (slice_get ts i))
tag_seen ts cs tags.Other = tag_other

same_form : (s t : List ℕ) (f g : Shape) → ◌≡◌ {A = Types} ((s, f) ∷ []) ((t, g) ∷ []) → f ≡ g
same_form s t f g e =
    let x : List ℕ × Shape = (s, f) in
    let y : List ℕ × Shape = (t, g) in
    let pairs : x ≡ y = cc in
    ap (λ (q : List ℕ × Shape). q.1) pairs

module _ (cs : List ConstantDef) (ts : List Part) (all : AllByRecursion (λ p. is_some (type_name p) ≡ true) ts)
    (named_so : names_of (flat_map (part_type cs) ts) ≡ type_names ts) where
  base_tags : (n : ℕ) (b : Option Basic)
      → xdr_tag_of (head_within n (flat_map (part_type cs) ts) (base_kind b)) ≡ tag_seen ts cs (base_tag b)
  unfolding head_within
  base_tags n None = refl
  base_tags n (Some basics.Int) = refl
  base_tags n (Some basics.Uint) = refl
  base_tags n (Some basics.Hyper) = refl
  base_tags n (Some basics.Uhyper) = refl
  base_tags n (Some basics.Short) = refl
  base_tags n (Some basics.Ushort) = refl
  base_tags n (Some basics.Char) = refl
  base_tags n (Some basics.Uchar) = refl
  base_tags n (Some basics.Bool) = refl
  base_tags n (Some basics.Void) = refl
  base_tags n (Some (basics.Opaque m)) = refl
  base_tags n (Some (basics.OpaqueUpTo m)) = refl
  base_tags n (Some (basics.Text m)) = refl

  nothing_tag : (o : Option ℕ) → place_tag (λ i. tags.Other) o ≡ tags.Other
  nothing_tag None = refl
  nothing_tag (Some i) = refl

  -- a name that isn't defined has no place
  no_place : (s : List ℕ) → form_named s (flat_map (part_type cs) ts) ≡ None → place_of s (type_names ts) ≡ None
  no_place s e = by_place (place_of s (type_names ts)) refl
    where
      defined : (i : ℕ) → place_of s (type_names ts) ≡ Some i → IsDefined (flat_map (part_type cs) ts) s
      defined i at = place_defined (flat_map (part_type cs) ts) s
          (subst (λ (ns : List (List ℕ)). is_none (place_of s ns) ≡ false) (sym named_so)
          (ap (λ (o : Option ℕ). is_none o) at))

      by_place : (o : Option ℕ) → place_of s (type_names ts) ≡ o → place_of s (type_names ts) ≡ None
      by_place None at = at
      by_place (Some i) at =
          let d = defined i at in
          let both : None ≡ Some d.0 = sym e ∙ d.1 in
          absurd cc

  form_tags : (n : ℕ) (f : Form)
      → ((t : TypeWord) → xdr_tag_of (head_within n (flat_map (part_type cs) ts) (word_kind t))
      ≡ tag_seen ts cs (word_tag (tag_within n ts) ts t))
      → xdr_tag_of (head_within n (flat_map (part_type cs) ts) (form_kind cs f))
      ≡ tag_seen ts cs (form_tag (word_tag (tag_within n ts) ts) f)
  unfolding head_within
  form_tags n (forms.Plain t) go = go t
  form_tags n (forms.Star t) go = refl
  form_tags n (forms.Fixed t size) go = refl
  form_tags n (forms.UpTo t most) go = refl
  form_tags n (forms.Opaque size) go = refl
  form_tags n (forms.OpaqueUpTo most) go = refl
  form_tags n (forms.Text most) go = refl

  part_tags : (n i : ℕ) (p : Part) (s : List ℕ) (f : Shape) → slice_get ts i ≡ Some p → part_type cs p ≡ (s, f) ∷ []
      → ((t : TypeWord) → xdr_tag_of (head_within n (flat_map (part_type cs) ts) (word_kind t))
      ≡ tag_seen ts cs (word_tag (tag_within n ts) ts t))
      → xdr_tag_of (head_of_form (head_within n (flat_map (part_type cs) ts)) (Some f))
      ≡ tag_seen ts cs (part_tag (word_tag (tag_within n ts) ts) i (Some p))
  part_tags n i (parts.Typedef d) s f at is go =
      let same : alias (form_kind cs d.form) ≡ f = same_form d.name s (alias (form_kind cs d.form)) f is in
      subst (λ (g : Shape). xdr_tag_of (head_of_form (head_within n (flat_map (part_type cs) ts)) (Some g))
      ≡ tag_seen ts cs (form_tag (word_tag (tag_within n ts) ts) d.form)) same
      (form_tags n d.form go)
  part_tags n i (parts.Enum m ms) s f at is go =
      let same : enum (map (member_meant cs) ms) ≡ f = same_form m s (enum (map (member_meant cs) ms)) f is in
      subst (λ (g : Shape). xdr_tag_of (head_of_form (head_within n (flat_map (part_type cs) ts)) (Some g))
      ≡ tag_seen ts cs (tags.Enum i)) same
      (ap (λ (o : Option Part). tag_enum (enum_members cs o)) (sym at))
  part_tags n i (parts.Struct m ds) s f at is go =
      let same = same_form m s (struct _) f is in
      subst (λ (g : Shape). xdr_tag_of (head_of_form (head_within n (flat_map (part_type cs) ts)) (Some g)) ≡ tag_other)
      same refl
  part_tags n i (parts.Union m t tn arms o) s f at is go =
      let same = same_form m s (choice _ _) f is in
      subst (λ (g : Shape). xdr_tag_of (head_of_form (head_within n (flat_map (part_type cs) ts)) (Some g)) ≡ tag_other)
      same refl
  part_tags n i (parts.Package m) s f at is go = absurd cc
  part_tags n i (parts.Prefix m) s f at is go = absurd cc
  part_tags n i (parts.StatIndex w) s f at is go = absurd cc
  part_tags n i (parts.StartingOpcode w) s f at is go = absurd cc
  part_tags n i (parts.Const m w) s f at is go = absurd cc
  part_tags n i (parts.Proc m args k o) s f at is go = absurd cc

  words_tag : (n : ℕ) (t : TypeWord)
      → xdr_tag_of (head_within n (flat_map (part_type cs) ts) (word_kind t))
      ≡ tag_seen ts cs (word_tag (tag_within n ts) ts t)
  unfolding head_within tag_within
  words_tag zero (types.Base ws) = base_tags zero (base_named ws)
  words_tag (suc n) (types.Base ws) = base_tags (suc n) (base_named ws)
  words_tag zero (types.Name s) =
      ap (tag_seen ts cs) (sym (nothing_tag (place_of s (type_names ts))))
  words_tag (suc n) (types.Name s) = by_form (form_named s (flat_map (part_type cs) ts)) refl (λ t. words_tag n t)
    where
      by_form : (o : Option Shape) → form_named s (flat_map (part_type cs) ts) ≡ o
          → ((t : TypeWord) → xdr_tag_of (head_within n (flat_map (part_type cs) ts) (word_kind t))
          ≡ tag_seen ts cs (word_tag (tag_within n ts) ts t))
          → xdr_tag_of (head_of_form (head_within n (flat_map (part_type cs) ts))
          (form_named s (flat_map (part_type cs) ts)))
          ≡ tag_seen ts cs (place_tag (λ i. part_tag (word_tag (tag_within n ts) ts) i (slice_get ts i))
          (place_of s (type_names ts)))
      by_form None e go =
          ap (λ (o : Option Shape). xdr_tag_of (head_of_form (head_within n (flat_map (part_type cs) ts)) o)) e
          ∙ ap (λ (o : Option ℕ). tag_seen ts cs (place_tag (λ i. part_tag (word_tag (tag_within n ts) ts) i
          (slice_get ts i)) o)) (sym (no_place s e))
      by_form (Some f) e go =
          let x = found cs ts all s f e in
          ap (λ (o : Option Shape). xdr_tag_of (head_of_form (head_within n (flat_map (part_type cs) ts)) o)) e
          ∙ part_tags n x.place x.part s f x.at x.is go
          ∙ ap (λ (o : Option Part). tag_seen ts cs (part_tag (word_tag (tag_within n ts) ts) x.place o)) (sym x.at)
          ∙ ap (λ (o : Option ℕ). tag_seen ts cs (place_tag (λ i. part_tag (word_tag (tag_within n ts) ts) i
          (slice_get ts i)) o)) (sym x.stands)

  -- the tag of a type
  pub tags_are : length (flat_map (part_type cs) ts) ≡ length ts → (t : TypeWord)
      → xdr_tag_of (head_of (flat_map (part_type cs) ts) (word_kind t)) ≡ tag_seen ts cs (tag_of ts t)
  unfolding head_of tag_at
  tags_are same t =
      ap (λ (n : ℕ). xdr_tag_of (head_within n (flat_map (part_type cs) ts) (word_kind t))) same
      ∙ words_tag (length ts) t

-- each part that defines a type defines one
pub one_each : (cs : List ConstantDef) (ts : List Part) → AllByRecursion (λ p. is_some (type_name p) ≡ true) ts
    → length (flat_map (part_type cs) ts) ≡ length ts
one_each cs [] all = refl
one_each cs (p ∷ ts) all = by_part p all.0 (one_each cs ts all.1)
  where
    by_part : (q : Part) → is_some (type_name q) ≡ true → length (flat_map (part_type cs) ts) ≡ length ts
        → length (part_type cs q ++ flat_map (part_type cs) ts) ≡ suc (length ts)
    by_part (parts.Typedef d) h rest = ap suc rest
    by_part (parts.Enum n ms) h rest = ap suc rest
    by_part (parts.Struct n ds) h rest = ap suc rest
    by_part (parts.Union n t tn arms o) h rest = ap suc rest
    by_part (parts.Package n) h rest = absurd (false≢true h)
    by_part (parts.Prefix n) h rest = absurd (false≢true h)
    by_part (parts.StatIndex w) h rest = absurd (false≢true h)
    by_part (parts.StartingOpcode w) h rest = absurd (false≢true h)
    by_part (parts.Const n w) h rest = absurd (false≢true h)
    by_part (parts.Proc n args k o) h rest = absurd (false≢true h)

-- ---- cases

pub a_tag_seen : (ts : List Part) (cs : List ConstantDef) (t : Tag) → is_tag t ≡ true
    → xdr_is_tag (tag_seen ts cs t) ≡ true
a_tag_seen ts cs tags.Int h = refl
a_tag_seen ts cs tags.Uint h = refl
a_tag_seen ts cs tags.Bool h = refl
a_tag_seen ts cs (tags.Enum i) h = refl
a_tag_seen ts cs tags.Other h = absurd (false≢true h)

-- each member that has a value has one of 64 bits
abbrev pub AreSmall : List ConstantDef → List MembItem → Type 0
AreSmall cs ms = AllByRecursion (λ (m : MembItem). (z : ℤ) → value_named cs m.name ≡ Some z
    → is_within (2 ^ 63) z ≡ true) ms

members_number : (cs : List ConstantDef) (ms : List MembItem) (z : ℤ) → AreSmall cs ms → members_have cs ms z ≡ true
    → has_number (map (member_meant cs) ms) z ≡ true
members_number cs [] z small h = absurd (false≢true h)
members_number cs (m ∷ ms) z small h =
    elim (or_cases (is_value (value_named cs m.name) z) (members_have cs ms z) h) [
      | inl e ↦ or_left (int_eq (value_or_zero (value_named cs m.name)) z) (has_number (map (member_meant cs) ms) z)
          (by_value (value_named cs m.name) small.0 e)
      | inr e ↦ or_right (int_eq (value_or_zero (value_named cs m.name)) z) (has_number (map (member_meant cs) ms) z)
          (members_number cs ms z small.1 e)
    ]
  where
    by_value : (o : Option ℤ) → ((y : ℤ) → o ≡ Some y → is_within (2 ^ 63) y ≡ true) → is_value o z ≡ true
        → int_eq (value_or_zero o) z ≡ true
    by_value None fits e = absurd (false≢true e)
    by_value (Some y) fits e =
        ap (λ (b : Bool). int_eq (cond b y (pos 0)) z) (fits y refl) ∙ e

-- a value of the tag of the text is a case of that of the interface
pub case_seen : (ts : List Part) (cs : List ConstantDef) (t : Tag) (z : ℤ)
    → ((i : ℕ) (n : List ℕ) (ms : List MembItem) → slice_get ts i ≡ Some (parts.Enum n ms) → AreSmall cs ms)
    → has_case ts cs t z ≡ true → case_in_range (tag_seen ts cs t) z ≡ true
case_seen ts cs tags.Int z small h = h
case_seen ts cs tags.Uint z small h = h
case_seen ts cs tags.Bool z small h = h
case_seen ts cs (tags.Enum i) z small h = by_part (slice_get ts i) refl h
  where
    by_part : (o : Option Part) → slice_get ts i ≡ o → enum_has cs o z ≡ true → has_number (enum_members cs o) z ≡ true
    by_part None at e = absurd (false≢true e)
    by_part (Some (parts.Enum n ms)) at e = members_number cs ms z (small i n ms at) e
    by_part (Some (parts.Typedef d)) at e = absurd (false≢true e)
    by_part (Some (parts.Struct n ds)) at e = absurd (false≢true e)
    by_part (Some (parts.Union n t tn arms o)) at e = absurd (false≢true e)
    by_part (Some (parts.Package n)) at e = absurd (false≢true e)
    by_part (Some (parts.Prefix n)) at e = absurd (false≢true e)
    by_part (Some (parts.StatIndex w)) at e = absurd (false≢true e)
    by_part (Some (parts.StartingOpcode w)) at e = absurd (false≢true e)
    by_part (Some (parts.Const n w)) at e = absurd (false≢true e)
    by_part (Some (parts.Proc n args k o)) at e = absurd (false≢true e)
case_seen ts cs tags.Other z small h = absurd (false≢true h)
