-- The cases of a union of which none stands twice, and each is a value of its tag.
use Rattle.std.proofs.Common.{◌≡◌, ◌≢◌, ℕ, ℤ, ◌<◌, ◌^◌, Bool, true, false, cond, not, ◌||◌, nat_eq, List, [], ◌∷◌, ◌++◌}
use Rattle.std.proofs.Common.{map, flat_map, slice_get, Option, Some, None, is_some, refl, sym, ap, subst, ◌∙◌, arith}
use Rattle.std.proofs.Common.{inl, inr}
use lib.IntN.{pos, negsuc}
use Rattle.std.specs.Prelude.{⊤}
use Rattle.std.specs.Ordering.{int_eq}
use Rattle.std.specs.List.{AllByRecursion, IsDistinct}
use Rattle.std.proofs.lemmas.Bool.{and_from, false_from_ne_true, false≢true, ltb-true, lt-ltb, or_cases}
use Rattle.std.proofs.lemmas.Bool.Decides.{Decides-eqb, Decides-int_eq}
use Rattle.xdr_value.specs.Data.{Part as Field, Choice}
use Rattle.xdr_value.specs.Ranges.{is_within, is_below}
use Rattle.xdr_value.specs.Heads.{Tag as XdrTag}
use Rattle.xdr_value.specs.Facts.{same_case, CaseInRange, IsCase}
use Rattle.xg_parse.specs.declared.tree.ConstWord.{ConstWord}
use Rattle.xg_parse.specs.declared.tree.TypeWord.{TypeWord}
use Rattle.xg_parse.specs.declared.tree.Form.{Form}
use Rattle.xg_parse.specs.declared.tree.Form.TheVariants as forms
use Rattle.xg_parse.specs.declared.tree.Decl.{Decl}
use Rattle.xg_parse.specs.declared.tree.MembItem.{MembItem}
use Rattle.xg_parse.specs.declared.tree.ArmItem.{ArmItem}
use Rattle.xg_parse.specs.declared.tree.Part.{Part}
use Rattle.xg_parse.specs.declared.tree.Part.TheVariants as parts
use Rattle.xg_check.specs.declared.tags.Tag.{Tag}
use Rattle.xg_check.specs.declared.tags.Tag.TheVariants as tags
use Rattle.xg_check.specs.Constants.{ConstantDef, value_of, value_named}
use Rattle.xg_check.specs.Tags.{tag_of, is_value, members_have, enum_has, has_case}
use Rattle.xg_check.specs.Marks.{Mark, declares, union_case, uses_type, uses_constant, valued, sized, enum_type}
use Rattle.xg_check.specs.Marks.{struct_type, union_type, optional_constant, form_type, form_bound, case_marks}
use Rattle.xg_check.specs.Marks.{held_marks, arm_marks, default_marks}
use Rattle.xg_check.specs.Judged.{Scope, is_unknown_constant, same_value, are_same, is_no_case, has_case_word, has_arm}
use Rattle.xg_check.specs.Meant.{value_or_zero, held_meant, case_meant, arm_meant, default_meant}
use Rattle.xg_check.proofs.ApartLaws.{Apart}
use Rattle.xg_check.proofs.KnownLaws.{AllKnown, known_front, known_rest}
use Rattle.xg_check.proofs.ValueLaws.{AllRight, right_front, right_rest, wider}
use Rattle.xg_check.proofs.TagLaws.{AreSmall}

-- ---- a value of a tag fits 64 bits

below_fits : (n : ℕ) (z : ℤ) → (n < 2 ^ 63) → is_below n z ≡ true → is_within (2 ^ 63) z ≡ true
below_fits n (pos m) lt h = lt-ltb m (2 ^ 63) (omega (arith, lt, ltb-true m n h))
below_fits n (negsuc m) lt h = absurd (false≢true h)

members_fit : (cs : List ConstantDef) (ms : List MembItem) (z : ℤ) → AreSmall cs ms → members_have cs ms z ≡ true
    → is_within (2 ^ 63) z ≡ true
members_fit cs [] z small h = absurd (false≢true h)
members_fit cs (m ∷ ms) z small h =
    elim (or_cases (is_value (value_named cs m.name) z) (members_have cs ms z) h) [
      | inl e ↦ by_value (value_named cs m.name) small.0 e
      | inr e ↦ members_fit cs ms z small.1 e
    ]
  where
    by_value : (o : Option ℤ) → ((y : ℤ) → o ≡ Some y → is_within (2 ^ 63) y ≡ true) → is_value o z ≡ true
        → is_within (2 ^ 63) z ≡ true
    by_value None fits e = absurd (false≢true e)
    by_value (Some y) fits e =
        let is : y ≡ z = (Decides-int_eq y z).0 e in
        subst (λ (x : ℤ). is_within (2 ^ 63) x ≡ true) is (fits y refl)

fits : (ts : List Part) (cs : List ConstantDef) (t : Tag) (z : ℤ)
    → ((i : ℕ) (n : List ℕ) (ms : List MembItem) → slice_get ts i ≡ Some (parts.Enum n ms) → AreSmall cs ms)
    → has_case ts cs t z ≡ true → is_within (2 ^ 63) z ≡ true
fits ts cs tags.Int z small h = wider z h
fits ts cs tags.Uint z small h = below_fits (2 ^ 32) z (omega arith) h
fits ts cs tags.Bool z small h = below_fits 2 z (omega arith) h
fits ts cs (tags.Enum i) z small h = by_part (slice_get ts i) refl h
  where
    by_part : (o : Option Part) → slice_get ts i ≡ o → enum_has cs o z ≡ true → is_within (2 ^ 63) z ≡ true
    by_part None at e = absurd (false≢true e)
    by_part (Some (parts.Enum n ms)) at e = members_fit cs ms z (small i n ms at) e
    by_part (Some (parts.Typedef d)) at e = absurd (false≢true e)
    by_part (Some (parts.Struct n ds)) at e = absurd (false≢true e)
    by_part (Some (parts.Union n t tn arms o)) at e = absurd (false≢true e)
    by_part (Some (parts.Package n)) at e = absurd (false≢true e)
    by_part (Some (parts.Prefix n)) at e = absurd (false≢true e)
    by_part (Some (parts.StatIndex w)) at e = absurd (false≢true e)
    by_part (Some (parts.StartingOpcode w)) at e = absurd (false≢true e)
    by_part (Some (parts.Const n w)) at e = absurd (false≢true e)
    by_part (Some (parts.Proc n args k o)) at e = absurd (false≢true e)
fits ts cs tags.Other z small h = absurd (false≢true h)

-- ---- the cases of a union

-- a word whose value is one of the tag's
pub record CaseOf (s : Scope) (tag : TypeWord) (w : ConstWord) : Type 0 where
  pub value : ℤ
  pub is : value_of s.constants w ≡ Some value
  pub fits : is_within (2 ^ 63) value ≡ true
  pub has : has_case s.types s.constants (tag_of s.types tag) value ≡ true

module _ (s : Scope)
    (exists : (w : ConstWord) → is_unknown_constant s.constants w ≡ false → (z : ℤ) × (value_of s.constants w ≡ Some z))
    (small : (i : ℕ) (n : List ℕ) (ms : List MembItem) → slice_get s.types i ≡ Some (parts.Enum n ms)
    → AreSmall s.constants ms) where
  no_not : (b : Bool) → (not b ≡ true → ⊥) → b ≡ true
  no_not true f = refl
  no_not false f = absurd (f refl)

  case_of : (tag : TypeWord) (w : ConstWord) → is_unknown_constant s.constants w ≡ false
      → (is_no_case s tag (value_of s.constants w) ≡ true → ⊥) → CaseOf s tag w
  case_of tag w known right =
      let v = exists w known in
      let has : has_case s.types s.constants (tag_of s.types tag) v.0 ≡ true =
      no_not (has_case s.types s.constants (tag_of s.types tag) v.0)
      (λ t. right (ap (is_no_case s tag) v.1 ∙ t)) in
      record {
        value = v.0;
        is = v.1;
        fits = fits s.types s.constants (tag_of s.types tag) v.0 small has;
        has = has;
      }

  cases_of : (item : ℕ) (n : List ℕ) (tag : TypeWord) (ws : List ConstWord)
      → AllKnown s (flat_map (case_marks item n tag) ws) → AllRight s (flat_map (case_marks item n tag) ws)
      → AllByRecursion (CaseOf s tag) ws
  cases_of item n tag [] known right = tt
  cases_of item n tag (w ∷ ws) known right = (
    case_of tag w known.1.0 right.0,
    cases_of item n tag ws known.1.1 right.1.1,
  )

-- all words of the cases of arms, in order
abbrev pub case_words : List ArmItem → List ConstWord
case_words arms = flat_map (λ (a : ArmItem). a.cases) arms

module _ (s : Scope)
    (exists : (w : ConstWord) → is_unknown_constant s.constants w ≡ false → (z : ℤ) × (value_of s.constants w ≡ Some z))
    (small : (i : ℕ) (n : List ℕ) (ms : List MembItem) → slice_get s.types i ≡ Some (parts.Enum n ms)
    → AreSmall s.constants ms) where
  words_both : (tag : TypeWord) (xs ys : List ConstWord) → AllByRecursion (CaseOf s tag) xs
      → AllByRecursion (CaseOf s tag) ys → AllByRecursion (CaseOf s tag) (xs ++ ys)
  words_both tag [] ys h k = k
  words_both tag (x ∷ xs) ys h k = (h.0, words_both tag xs ys h.1 k)

  pub arms_of : (item : ℕ) (n : List ℕ) (tag : TypeWord) (arms : List ArmItem)
      → AllKnown s (flat_map (arm_marks item n tag) arms) → AllRight s (flat_map (arm_marks item n tag) arms)
      → AllByRecursion (CaseOf s tag) (case_words arms)
  arms_of item n tag [] known right = tt
  arms_of item n tag (a ∷ arms) known right =
      let k = known_front s (arm_marks item n tag a) (flat_map (arm_marks item n tag) arms) known in
      let r = right_front s (arm_marks item n tag a) (flat_map (arm_marks item n tag) arms) right in
      words_both tag a.cases (case_words arms)
      (cases_of s exists small item n tag a.cases
      (known_front s (flat_map (case_marks item n tag) a.cases) (held_marks a.decl) k)
      (right_front s (flat_map (case_marks item n tag) a.cases) (held_marks a.decl) r))
      (arms_of item n tag arms
      (known_rest s (arm_marks item n tag a) (flat_map (arm_marks item n tag) arms) known)
      (right_rest s (arm_marks item n tag a) (flat_map (arm_marks item n tag) arms) right))

-- ---- they differ

-- the words of the cases of an item
abbrev pub words_in : ℕ → List Mark → List ConstWord
words_in i [] = []
words_in i (union_case j n t w ∷ ms) = cond (nat_eq i j) (w ∷ words_in i ms) (words_in i ms)
words_in i (declares r n ∷ ms) = words_in i ms
words_in i (uses_type t ∷ ms) = words_in i ms
words_in i (uses_constant w ∷ ms) = words_in i ms
words_in i (valued n b ∷ ms) = words_in i ms
words_in i (sized d ∷ ms) = words_in i ms
words_in i (enum_type n es ∷ ms) = words_in i ms
words_in i (struct_type n ∷ ms) = words_in i ms
words_in i (union_type n t arms b ∷ ms) = words_in i ms

abbrev pub WordsApart : List ConstantDef → List ConstWord → Type 0
WordsApart cs [] = ⊤
WordsApart cs (w ∷ ws) =
    AllByRecursion (λ v. same_value (value_of cs v) (value_of cs w) ≡ false) ws × WordsApart cs ws

differs : (cs : List ConstantDef) (i j : ℕ) (n : List ℕ) (t : TypeWord) (w : ConstWord) (ms : List Mark)
    → nat_eq i j ≡ true → AllByRecursion (λ m. are_same cs m (union_case j n t w) ≡ false) ms
    → AllByRecursion (λ v. same_value (value_of cs v) (value_of cs w) ≡ false) (words_in i ms)
differs cs i j n t w [] e h = tt
differs cs i j n t w (union_case k m u v ∷ ms) e h =
    by_item (nat_eq i k) refl (differs cs i j n t w ms e h.1)
  where
    by_item : (b : Bool) → nat_eq i k ≡ b
        → AllByRecursion (λ x. same_value (value_of cs x) (value_of cs w) ≡ false) (words_in i ms)
        → AllByRecursion (λ x. same_value (value_of cs x) (value_of cs w) ≡ false)
        (cond b (v ∷ words_in i ms) (words_in i ms))
    by_item false f rest = rest
    by_item true f rest = (no, rest)
      where
        ij : i ≡ j
        ij = (Decides-eqb i j).0 e

        ik : i ≡ k
        ik = (Decides-eqb i k).0 f

        items : nat_eq k j ≡ true
        items = (Decides-eqb k j).1 (sym ik ∙ ij)

        no : same_value (value_of cs v) (value_of cs w) ≡ false
        no = false_from_ne_true (same_value (value_of cs v) (value_of cs w)) (λ x.
            false≢true (sym h.0 ∙ and_from (nat_eq k j) (same_value (value_of cs v) (value_of cs w)) items x))
differs cs i j n t w (declares r m ∷ ms) e h = differs cs i j n t w ms e h.1
differs cs i j n t w (uses_type u ∷ ms) e h = differs cs i j n t w ms e h.1
differs cs i j n t w (uses_constant v ∷ ms) e h = differs cs i j n t w ms e h.1
differs cs i j n t w (valued m b ∷ ms) e h = differs cs i j n t w ms e h.1
differs cs i j n t w (sized d ∷ ms) e h = differs cs i j n t w ms e h.1
differs cs i j n t w (enum_type m es ∷ ms) e h = differs cs i j n t w ms e h.1
differs cs i j n t w (struct_type m ∷ ms) e h = differs cs i j n t w ms e h.1
differs cs i j n t w (union_type m u arms b ∷ ms) e h = differs cs i j n t w ms e h.1

words_by : (cs : List ConstantDef) (w : ConstWord) (ws : List ConstWord) (b : Bool)
    → (b ≡ true → AllByRecursion (λ v. same_value (value_of cs v) (value_of cs w) ≡ false) ws)
    → WordsApart cs ws → WordsApart cs (cond b (w ∷ ws) ws)
words_by cs w ws true h rest = (h refl, rest)
words_by cs w ws false h rest = rest

pub words_apart : (cs : List ConstantDef) (i : ℕ) (ms : List Mark) → Apart cs ms → WordsApart cs (words_in i ms)
words_apart cs i [] h = tt
words_apart cs i (union_case j n t w ∷ ms) h =
    words_by cs w (words_in i ms) (nat_eq i j) (λ e. differs cs i j n t w ms e h.0) (words_apart cs i ms h.1)
words_apart cs i (declares r n ∷ ms) h = words_apart cs i ms h.1
words_apart cs i (uses_type t ∷ ms) h = words_apart cs i ms h.1
words_apart cs i (uses_constant w ∷ ms) h = words_apart cs i ms h.1
words_apart cs i (valued n b ∷ ms) h = words_apart cs i ms h.1
words_apart cs i (sized d ∷ ms) h = words_apart cs i ms h.1
words_apart cs i (enum_type n es ∷ ms) h = words_apart cs i ms h.1
words_apart cs i (struct_type n ∷ ms) h = words_apart cs i ms h.1
words_apart cs i (union_type n t arms b ∷ ms) h = words_apart cs i ms h.1

words_both_in : (i : ℕ) (xs ys : List Mark) → words_in i (xs ++ ys) ≡ words_in i xs ++ words_in i ys
words_both_in i [] ys = refl
words_both_in i (union_case j n t w ∷ xs) ys = by_item (nat_eq i j) (words_both_in i xs ys)
  where
    by_item : (b : Bool) → words_in i (xs ++ ys) ≡ words_in i xs ++ words_in i ys
        → cond b (w ∷ words_in i (xs ++ ys)) (words_in i (xs ++ ys))
        ≡ cond b (w ∷ words_in i xs) (words_in i xs) ++ words_in i ys
    by_item true rest = ap (λ (ws : List ConstWord). w ∷ ws) rest
    by_item false rest = rest
words_both_in i (declares r n ∷ xs) ys = words_both_in i xs ys
words_both_in i (uses_type t ∷ xs) ys = words_both_in i xs ys
words_both_in i (uses_constant w ∷ xs) ys = words_both_in i xs ys
words_both_in i (valued n b ∷ xs) ys = words_both_in i xs ys
words_both_in i (sized d ∷ xs) ys = words_both_in i xs ys
words_both_in i (enum_type n es ∷ xs) ys = words_both_in i xs ys
words_both_in i (struct_type n ∷ xs) ys = words_both_in i xs ys
words_both_in i (union_type n t arms b ∷ xs) ys = words_both_in i xs ys

-- ---- which words those are

no_words : (i : ℕ) (f : Form) → words_in i (form_type f) ≡ []
no_words i (forms.Plain t) = refl
no_words i (forms.Star t) = refl
no_words i (forms.Fixed t size) = refl
no_words i (forms.UpTo t most) = refl
no_words i (forms.Opaque size) = refl
no_words i (forms.OpaqueUpTo most) = refl
no_words i (forms.Text most) = refl

no_words_after : (i : ℕ) (o : Option ConstWord) → words_in i (optional_constant o) ≡ []
no_words_after i None = refl
no_words_after i (Some w) = refl

no_bound_words : (i : ℕ) (f : Form) → words_in i (form_bound f) ≡ []
no_bound_words i (forms.Plain t) = refl
no_bound_words i (forms.Star t) = refl
no_bound_words i (forms.Fixed t size) = refl
no_bound_words i (forms.UpTo t most) = no_words_after i most
no_bound_words i (forms.Opaque size) = refl
no_bound_words i (forms.OpaqueUpTo most) = no_words_after i most
no_bound_words i (forms.Text most) = no_words_after i most

no_held_words : (i : ℕ) (d : Option Decl) → words_in i (held_marks d) ≡ []
no_held_words i None = refl
no_held_words i (Some d) =
    words_both_in i (form_type d.form) (sized d ∷ form_bound d.form)
    ∙ ap (λ (ws : List ConstWord). ws ++ words_in i (form_bound d.form)) (no_words i d.form)
    ∙ no_bound_words i d.form

no_default_words : (i : ℕ) (o : Option ArmItem) → words_in i (default_marks o) ≡ []
no_default_words i None = refl
no_default_words i (Some a) = no_held_words i a.decl

self : (i : ℕ) → nat_eq i i ≡ true
self i = (Decides-eqb i i).1 refl

of_cases : (i : ℕ) (n : List ℕ) (tag : TypeWord) (ws : List ConstWord)
    → words_in i (flat_map (case_marks i n tag) ws) ≡ ws
of_cases i n tag [] = refl
of_cases i n tag (w ∷ ws) =
    ap (λ (b : Bool). cond b (w ∷ words_in i (flat_map (case_marks i n tag) ws))
    (words_in i (flat_map (case_marks i n tag) ws))) (self i)
    ∙ ap (λ (vs : List ConstWord). w ∷ vs) (of_cases i n tag ws)

nil : (ws : List ConstWord) → ws ++ [] ≡ ws
nil [] = refl
nil (w ∷ ws) = ap (λ (vs : List ConstWord). w ∷ vs) (nil ws)

of_arm : (i : ℕ) (n : List ℕ) (tag : TypeWord) (a : ArmItem) → words_in i (arm_marks i n tag a) ≡ a.cases
of_arm i n tag a =
    words_both_in i (flat_map (case_marks i n tag) a.cases) (held_marks a.decl)
    ∙ ap (λ (ws : List ConstWord). ws ++ words_in i (held_marks a.decl)) (of_cases i n tag a.cases)
    ∙ ap (λ (ws : List ConstWord). a.cases ++ ws) (no_held_words i a.decl)
    ∙ nil a.cases

of_arms : (i : ℕ) (n : List ℕ) (tag : TypeWord) (arms : List ArmItem)
    → words_in i (flat_map (arm_marks i n tag) arms) ≡ case_words arms
of_arms i n tag [] = refl
of_arms i n tag (a ∷ arms) =
    words_both_in i (arm_marks i n tag a) (flat_map (arm_marks i n tag) arms)
    ∙ ap (λ (ws : List ConstWord). ws ++ words_in i (flat_map (arm_marks i n tag) arms)) (of_arm i n tag a)
    ∙ ap (λ (ws : List ConstWord). a.cases ++ ws) (of_arms i n tag arms)

pub of_union : (i : ℕ) (n : List ℕ) (tag : TypeWord) (arms : List ArmItem) (o : Option ArmItem)
    → words_in i (flat_map (arm_marks i n tag) arms ++ default_marks o) ≡ case_words arms
of_union i n tag arms o =
    words_both_in i (flat_map (arm_marks i n tag) arms) (default_marks o)
    ∙ ap (λ (ws : List ConstWord). ws ++ words_in i (default_marks o)) (of_arms i n tag arms)
    ∙ ap (λ (ws : List ConstWord). case_words arms ++ ws) (no_default_words i o)
    ∙ nil (case_words arms)

-- ---- choices

abbrev pub cases_in : List Choice → List (Option ℤ)
cases_in cs = map (λ (c : Choice). c.case) cs

cases_join : (xs ys : List Choice) → cases_in (xs ++ ys) ≡ cases_in xs ++ cases_in ys
cases_join [] ys = refl
cases_join (x ∷ xs) ys = ap (λ (zs : List (Option ℤ)). x.case ∷ zs) (cases_join xs ys)

of_one : (cs : List ConstantDef) (held : Option Field) (ws : List ConstWord)
    → cases_in (map (case_meant cs held) ws) ≡ map (λ (w : ConstWord). Some (value_or_zero (value_of cs w))) ws
of_one cs held [] = refl
of_one cs held (w ∷ ws) =
    ap (λ (zs : List (Option ℤ)). Some (value_or_zero (value_of cs w)) ∷ zs) (of_one cs held ws)

map_join : (cs : List ConstantDef) (xs ys : List ConstWord)
    → map (λ (w : ConstWord). Some (value_or_zero (value_of cs w))) (xs ++ ys)
    ≡ map (λ (w : ConstWord). Some (value_or_zero (value_of cs w))) xs
    ++ map (λ (w : ConstWord). Some (value_or_zero (value_of cs w))) ys
map_join cs [] ys = refl
map_join cs (x ∷ xs) ys =
    ap (λ (zs : List (Option ℤ)). Some (value_or_zero (value_of cs x)) ∷ zs) (map_join cs xs ys)

of_all : (cs : List ConstantDef) (arms : List ArmItem) → cases_in (flat_map (arm_meant cs) arms)
    ≡ map (λ (w : ConstWord). Some (value_or_zero (value_of cs w))) (case_words arms)
of_all cs [] = refl
of_all cs (a ∷ arms) =
    cases_join (arm_meant cs a) (flat_map (arm_meant cs) arms)
    ∙ ap (λ (zs : List (Option ℤ)). zs ++ cases_in (flat_map (arm_meant cs) arms))
    (of_one cs (held_meant cs a.decl) a.cases)
    ∙ ap (λ (zs : List (Option ℤ)). map (λ (w : ConstWord). Some (value_or_zero (value_of cs w))) a.cases ++ zs)
    (of_all cs arms)
    ∙ sym (map_join cs a.cases (case_words arms))

case_value : (s : Scope) (tag : TypeWord) (w : ConstWord) (c : CaseOf s tag w)
    → value_or_zero (value_of s.constants w) ≡ c.value
case_value s tag w c =
    ap value_or_zero c.is ∙ ap (λ (b : Bool). cond b c.value (pos 0)) c.fits

values_turn : (a b : ℤ) → int_eq a b ≡ false → int_eq b a ≡ false
values_turn a b h = false_from_ne_true (int_eq b a) (λ t.
    let is : b ≡ a = (Decides-int_eq b a).0 t in
    let back : int_eq a b ≡ true = (Decides-int_eq a b).1 (sym is) in
    false≢true (sym h ∙ back))

apart_from : (s : Scope) (tag : TypeWord) (w : ConstWord) (ws : List ConstWord) (rest : List (Option ℤ))
    → CaseOf s tag w → AllByRecursion (CaseOf s tag) ws
    → AllByRecursion (λ v. same_value (value_of s.constants v) (value_of s.constants w) ≡ false) ws
    → AllByRecursion (λ y. same_case (Some (value_or_zero (value_of s.constants w))) y ≡ false) rest
    → AllByRecursion (λ y. same_case (Some (value_or_zero (value_of s.constants w))) y ≡ false)
    (map (λ (v : ConstWord). Some (value_or_zero (value_of s.constants v))) ws ++ rest)
apart_from s tag w [] rest c all h last = last
apart_from s tag w (v ∷ ws) rest c all h last = (
  ap (λ (x : ℤ). int_eq x (value_or_zero (value_of s.constants v))) (case_value s tag w c)
      ∙ ap (int_eq c.value) (case_value s tag v all.0)
      ∙ values_turn all.0.value c.value
      (sym (ap (λ (o : Option ℤ). same_value o (value_of s.constants w)) all.0.is
      ∙ ap (same_value (Some all.0.value)) c.is) ∙ h.0),
  apart_from s tag w ws rest c all.1 h.1 last,
)

all_distinct : (s : Scope) (tag : TypeWord) (ws : List ConstWord) (rest : List (Option ℤ))
    → AllByRecursion (CaseOf s tag) ws → WordsApart s.constants ws
    → ((z : ℤ) → AllByRecursion (λ y. same_case (Some z) y ≡ false) rest) → IsDistinct same_case rest
    → IsDistinct same_case (map (λ (v : ConstWord). Some (value_or_zero (value_of s.constants v))) ws ++ rest)
unfolding IsDistinct
all_distinct s tag [] rest all h none last = last
all_distinct s tag (w ∷ ws) rest all h none last = (
  apart_from s tag w ws rest all.0 all.1 h.0 (none (value_or_zero (value_of s.constants w))),
  all_distinct s tag ws rest all.1 h.1 none last,
)

default_apart : (cs : List ConstantDef) (o : Option ArmItem) (z : ℤ)
    → AllByRecursion (λ y. same_case (Some z) y ≡ false) (cases_in (default_meant cs o))
default_apart cs None z = tt
default_apart cs (Some a) z = (refl, tt)

default_distinct : (cs : List ConstantDef) (o : Option ArmItem) → IsDistinct same_case (cases_in (default_meant cs o))
unfolding IsDistinct
default_distinct cs None = tt
default_distinct cs (Some a) = (tt, tt)

-- the cases of a union differ
pub choices_differ : (s : Scope) (tag : TypeWord) (arms : List ArmItem) (o : Option ArmItem)
    → AllByRecursion (CaseOf s tag) (case_words arms) → WordsApart s.constants (case_words arms)
    → IsDistinct same_case (cases_in (flat_map (arm_meant s.constants) arms ++ default_meant s.constants o))
choices_differ s tag arms o all h =
    let cs = s.constants in
    subst (IsDistinct same_case)
    (sym (cases_join (flat_map (arm_meant cs) arms) (default_meant cs o)
    ∙ ap (λ (zs : List (Option ℤ)). zs ++ cases_in (default_meant cs o)) (of_all cs arms)))
    (all_distinct s tag (case_words arms) (cases_in (default_meant cs o)) all h (default_apart cs o)
    (default_distinct cs o))

-- ---- they are values of the tag

module _ (s : Scope) (tag : TypeWord) (seen : XdrTag)
    (is_seen : (z : ℤ) → has_case s.types s.constants (tag_of s.types tag) z ≡ true → IsCase seen z) where
  one_in_range : (held : Option Field) (w : ConstWord) → CaseOf s tag w
      → CaseInRange seen (case_meant s.constants held w)
  one_in_range held w c z e =
      let is : value_or_zero (value_of s.constants w) ≡ z = cc in
      subst (IsCase seen) (sym (case_value s tag w c) ∙ is) (is_seen c.value c.has)

  some_in_range : (held : Option Field) (ws : List ConstWord) → AllByRecursion (CaseOf s tag) ws
      → AllByRecursion (CaseInRange seen) (map (case_meant s.constants held) ws)
  some_in_range held [] all = tt
  some_in_range held (w ∷ ws) all = (one_in_range held w all.0, some_in_range held ws all.1)

  choices_join : (xs ys : List Choice) → AllByRecursion (CaseInRange seen) xs → AllByRecursion (CaseInRange seen) ys
      → AllByRecursion (CaseInRange seen) (xs ++ ys)
  choices_join [] ys h k = k
  choices_join (x ∷ xs) ys h k = (h.0, choices_join xs ys h.1 k)

  words_front : (xs ys : List ConstWord) → AllByRecursion (CaseOf s tag) (xs ++ ys) → AllByRecursion (CaseOf s tag) xs
  words_front [] ys h = tt
  words_front (x ∷ xs) ys h = (h.0, words_front xs ys h.1)

  words_rest : (xs ys : List ConstWord) → AllByRecursion (CaseOf s tag) (xs ++ ys) → AllByRecursion (CaseOf s tag) ys
  words_rest [] ys h = h
  words_rest (x ∷ xs) ys h = words_rest xs ys h.1

  arms_in_range : (arms : List ArmItem) → AllByRecursion (CaseOf s tag) (case_words arms)
      → AllByRecursion (CaseInRange seen) (flat_map (arm_meant s.constants) arms)
  arms_in_range [] all = tt
  arms_in_range (a ∷ arms) all =
      choices_join (arm_meant s.constants a) (flat_map (arm_meant s.constants) arms)
      (some_in_range (held_meant s.constants a.decl) a.cases (words_front a.cases (case_words arms) all))
      (arms_in_range arms (words_rest a.cases (case_words arms) all))

  default_in_range : (o : Option ArmItem) → AllByRecursion (CaseInRange seen) (default_meant s.constants o)
  default_in_range None = tt
  default_in_range (Some a) = (λ z e. absurd cc, tt)

  -- the cases of a union are values of its tag
  pub choices_in_range : (arms : List ArmItem) (o : Option ArmItem) → AllByRecursion (CaseOf s tag) (case_words arms)
      → AllByRecursion (CaseInRange seen) (flat_map (arm_meant s.constants) arms ++ default_meant s.constants o)
  choices_in_range arms o all =
      choices_join (flat_map (arm_meant s.constants) arms) (default_meant s.constants o) (arms_in_range arms all)
      (default_in_range o)

-- ---- a union has a choice

pub some_choice : (cs : List ConstantDef) (arms : List ArmItem) (o : Option ArmItem)
    → ((is_some o || has_arm arms) ≡ false → ⊥) → flat_map (arm_meant cs) arms ++ default_meant cs o ≢ []
some_choice cs [] None h e = h refl
some_choice cs [] (Some a) h e = cc
some_choice cs (a ∷ arms) o h e = by_cases a.cases h e (λ k f. some_choice cs arms o k f)
  where
    by_cases : (ws : List ConstWord) → ((is_some o || (has_case_word ws || has_arm arms)) ≡ false → ⊥)
        → (map (case_meant cs (held_meant cs a.decl)) ws ++ flat_map (arm_meant cs) arms) ++ default_meant cs o ≡ []
        → (((is_some o || has_arm arms) ≡ false → ⊥) → flat_map (arm_meant cs) arms ++ default_meant cs o ≡ [] → ⊥)
        → ⊥
    by_cases [] k f more = more k f
    by_cases (w ∷ ws) k f more = cc
