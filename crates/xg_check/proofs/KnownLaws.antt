-- What follows where each name is defined: the types of a text name only types of it.
use Rattle.std.proofs.Common.{◌≡◌, ℕ, suc, Bool, true, false, cond, List, [], ◌∷◌, ◌++◌, map, flat_map, filter, Option}
use Rattle.std.proofs.Common.{Some, None, is_some, is_none, option_map, refl, sym, ap, subst}
use Rattle.std.specs.Str.{bytes_eq}
use Rattle.std.specs.List.{AllByRecursion}
use Rattle.std.proofs.lemmas.Slice.Eq.{bytes_eq-Decides}
use Rattle.std.proofs.lemmas.Bool.{false_from_ne_true, false≢true}
use Rattle.std.proofs.lemmas.Bool.Decides.{same_from_decides}
use Rattle.xdr_value.specs.declared.ty.Basic.{Basic}
use Rattle.xdr_value.specs.Data.{Part as Field, Choice, Form as Shape, Types, Param}
use Rattle.xdr_value.specs.Heads.{form_named, part_kind, arm_kind}
use Rattle.xdr_value.specs.Facts.{IsDefined, IsKnown, part_kinds, names_of}
use Rattle.xdr_value.specs.declared.def.Mode.{Mode}
use Rattle.xg_parse.specs.declared.tree.ConstWord.{ConstWord}
use Rattle.xg_parse.specs.declared.tree.TypeWord.{TypeWord}
use Rattle.xg_parse.specs.declared.tree.TypeWord.TheVariants as types
use Rattle.xg_parse.specs.declared.tree.Form.{Form}
use Rattle.xg_parse.specs.declared.tree.Form.TheVariants as forms
use Rattle.xg_parse.specs.declared.tree.Decl.{Decl}
use Rattle.xg_parse.specs.declared.tree.ArmItem.{ArmItem}
use Rattle.xg_parse.specs.declared.tree.ArgItem.{ArgItem}
use Rattle.xg_parse.specs.declared.tree.Part.{Part}
use Rattle.xg_parse.specs.declared.tree.Part.TheVariants as parts
use Rattle.xg_parse.specs.declared.tree.Item.{Item}
use Rattle.xg_check.specs.declared.marks.Space.{Space}
use Rattle.xg_check.specs.declared.marks.Space.TheVariants as spaces
use Rattle.xg_check.specs.Places.{place_of}
use Rattle.xg_check.specs.Bases.{base_named}
use Rattle.xg_check.specs.Constants.{ConstantDef}
use Rattle.xg_check.specs.Typed.{type_name, types_in, type_names}
use Rattle.xg_check.specs.Marks.{Mark, sized, form_type, form_bound, optional_name, decl_marks, field_marks, arg_marks}
use Rattle.xg_check.specs.Marks.{case_marks, held_marks, arm_marks, default_marks}
use Rattle.xg_check.specs.Judged.{Scope, is_unknown, is_unknown_type, IsUnknown}
use Rattle.xg_check.specs.Meant.{base_kind, word_kind, form_kind, field_meant, held_meant, case_meant, arm_meant}
use Rattle.xg_check.specs.Meant.{default_meant, part_type, types_meant, mode_behind, arg_kind, args_meant}

-- ---- marks of which each is known

abbrev pub AllKnown : Scope → List Mark → Type 0
AllKnown s marks = AllByRecursion (λ m. is_unknown s m ≡ false) marks

pub all_known : (s : Scope) (marks : List Mark) → ((k : ℕ) → IsUnknown s marks k → ⊥) → AllKnown s marks
all_known s [] h = tt
all_known s (m ∷ ms) h = (
  false_from_ne_true (is_unknown s m) (λ e. h 0 (record { mark = m; stands = refl; unknown = e })),
  all_known s ms (λ k u. h (suc k) (record { mark = u.mark; stands = u.stands; unknown = u.unknown })),
)

pub known_front : (s : Scope) (xs ys : List Mark) → AllKnown s (xs ++ ys) → AllKnown s xs
known_front s [] ys h = tt
known_front s (x ∷ xs) ys h = (h.0, known_front s xs ys h.1)

pub known_rest : (s : Scope) (xs ys : List Mark) → AllKnown s (xs ++ ys) → AllKnown s ys
known_rest s [] ys h = h
known_rest s (x ∷ xs) ys h = known_rest s xs ys h.1

-- ---- definitions by their names

pub names_meant : (cs : List ConstantDef) (items : List Item) → names_of (types_meant cs items) ≡ type_names
    (types_in items)
names_meant cs [] = refl
names_meant cs (i ∷ is) = by_part i.part (names_meant cs is)
  where
    by_part : (p : Part) → names_of (types_meant cs is) ≡ type_names (types_in is)
        → names_of (part_type cs p ++ types_meant cs is)
        ≡ type_names (filter (λ q. is_some (type_name q)) (p ∷ map (λ (j : Item). j.part) is))
    by_part (parts.Typedef d) rest = ap (λ (ns : List (List ℕ)). d.name ∷ ns) rest
    by_part (parts.Enum n ms) rest = ap (λ (ns : List (List ℕ)). n ∷ ns) rest
    by_part (parts.Struct n ds) rest = ap (λ (ns : List (List ℕ)). n ∷ ns) rest
    by_part (parts.Union n t tn arms o) rest = ap (λ (ns : List (List ℕ)). n ∷ ns) rest
    by_part (parts.Package n) rest = rest
    by_part (parts.Prefix n) rest = rest
    by_part (parts.StatIndex w) rest = rest
    by_part (parts.StartingOpcode w) rest = rest
    by_part (parts.Const n w) rest = rest
    by_part (parts.Proc n args k o) rest = rest

pub tests_turn : (a b : List ℕ) → bytes_eq a b ≡ bytes_eq b a
tests_turn a b = same_from_decides (bytes_eq a b) (bytes_eq b a)
    ((bytes_eq-Decides a b).0, (bytes_eq-Decides a b).1)
    (λ e. sym ((bytes_eq-Decides b a).0 e), λ e. (bytes_eq-Decides b a).1 (sym e))

-- a name that has a place is defined
pub place_defined : (t : Types) (name : List ℕ) → is_none (place_of name (names_of t)) ≡ false → IsDefined t name
place_defined [] name e = absurd (false≢true (sym e))
place_defined (d ∷ ds) name e = by_test (bytes_eq d.0 name) (bytes_eq name d.0) refl (tests_turn d.0 name) e
    (λ h. place_defined ds name h)
  where
    there : (o : Option ℕ) → is_none (option_map suc o) ≡ false → is_none o ≡ false
    there None f = f
    there (Some i) f = refl

    by_test : (b c : Bool) → bytes_eq d.0 name ≡ b → b ≡ c
        → is_none (cond c (Some 0) (option_map suc (place_of name (names_of ds)))) ≡ false
        → (is_none (place_of name (names_of ds)) ≡ false → IsDefined ds name)
        → (f : Shape) × (cond b (Some d.1) (form_named name ds) ≡ Some f)
    by_test true true is same f more = (d.1, refl)
    by_test true false is same f more = absurd (false≢true (sym same))
    by_test false true is same f more = absurd (false≢true same)
    by_test false false is same f more = more (there (place_of name (names_of ds)) f)

-- ---- known types

module _ (cs : List ConstantDef) (items : List Item) where
  pub word_known : (t : TypeWord) → is_unknown_type (types_in items) t ≡ false
      → IsKnown (types_meant cs items) (word_kind t)
  word_known (types.Base words) e = by_base (base_named words)
    where
      by_base : (b : Option Basic) → IsKnown (types_meant cs items) (base_kind b)
      by_base None = tt
      by_base (Some b) = tt
  word_known (types.Name name) e =
      place_defined (types_meant cs items) name
      (subst (λ (ns : List (List ℕ)). is_none (place_of name ns) ≡ false) (sym (names_meant cs items)) e)

  pub form_known : (f : Form) → AllKnown (record { constants = cs; types = types_in items }) (form_type f)
      → IsKnown (types_meant cs items) (form_kind cs f)
  form_known (forms.Plain t) h = word_known t h.0
  form_known (forms.Star t) h = word_known t h.0
  form_known (forms.Fixed t size) h = word_known t h.0
  form_known (forms.UpTo t most) h = word_known t h.0
  form_known (forms.Opaque size) h = tt
  form_known (forms.OpaqueUpTo most) h = tt
  form_known (forms.Text most) h = tt

  pub arg_known : (f : Form) → AllKnown (record { constants = cs; types = types_in items }) (form_type f)
      → IsKnown (types_meant cs items) (arg_kind cs f)
  arg_known (forms.Plain t) h = word_known t h.0
  arg_known (forms.Star t) h = word_known t h.0
  arg_known (forms.Fixed t size) h = word_known t h.0
  arg_known (forms.UpTo t most) h = word_known t h.0
  arg_known (forms.Opaque size) h = tt
  arg_known (forms.OpaqueUpTo most) h = tt
  arg_known (forms.Text most) h = tt

  of_decl : (space : Option Space) (d : Decl)
      → AllKnown (record { constants = cs; types = types_in items }) (decl_marks space d)
      → AllKnown (record { constants = cs; types = types_in items }) (form_type d.form)
  of_decl space d h =
      known_front (record { constants = cs; types = types_in items }) (form_type d.form)
      (optional_name space d.name ++ (sized d ∷ form_bound d.form)) h

  pub fields_known : (item : ℕ) (ds : List Decl)
      → AllKnown (record { constants = cs; types = types_in items }) (flat_map (field_marks item) ds)
      → AllByRecursion (IsKnown (types_meant cs items)) (part_kinds (map (field_meant cs) ds))
  fields_known item [] h = tt
  fields_known item (d ∷ ds) h =
      let s : Scope = record { constants = cs; types = types_in items } in (
        form_known d.form (of_decl (Some (spaces.List item)) d
            (known_front s (field_marks item d) (flat_map (field_marks item) ds) h)),
        fields_known item ds (known_rest s (field_marks item d) (flat_map (field_marks item) ds) h),
      )

  pub args_known : (item : ℕ) (before : Mode) (args : List ArgItem)
      → AllKnown (record { constants = cs; types = types_in items }) (flat_map (arg_marks item) args)
      → AllByRecursion (λ (a : Param). IsKnown (types_meant cs items) a.kind) (args_meant cs before args)
  args_known item before [] h = tt
  args_known item before (a ∷ args) h =
      let s : Scope = record { constants = cs; types = types_in items } in (
        arg_known a.decl.form (of_decl (Some (spaces.List item)) a.decl
            (known_front s (arg_marks item a) (flat_map (arg_marks item) args) h)),
        args_known item (mode_behind before a.mode) args
            (known_rest s (arg_marks item a) (flat_map (arg_marks item) args) h),
      )

  -- what an arm holds
  held_known : (d : Option Decl) → AllKnown (record { constants = cs; types = types_in items }) (held_marks d)
      → IsKnown (types_meant cs items) (part_kind (held_meant cs d))
  held_known None h = tt
  held_known (Some d) h = form_known d.form (of_decl None d h)

  all_both : (xs ys : List Choice)
      → AllByRecursion (IsKnown (types_meant cs items)) (map arm_kind xs)
      → AllByRecursion (IsKnown (types_meant cs items)) (map arm_kind ys)
      → AllByRecursion (IsKnown (types_meant cs items)) (map arm_kind (xs ++ ys))
  all_both [] ys h k = k
  all_both (x ∷ xs) ys h k = (h.0, all_both xs ys h.1 k)

  cases_known : (held : Option Field) (ws : List ConstWord) → IsKnown (types_meant cs items) (part_kind held)
      → AllByRecursion (IsKnown (types_meant cs items)) (map arm_kind (map (case_meant cs held) ws))
  cases_known held [] h = tt
  cases_known held (w ∷ ws) h = (h, cases_known held ws h)

  arms_known : (item : ℕ) (n : List ℕ) (tag : TypeWord) (arms : List ArmItem)
      → AllKnown (record { constants = cs; types = types_in items }) (flat_map (arm_marks item n tag) arms)
      → AllByRecursion (IsKnown (types_meant cs items)) (map arm_kind (flat_map (arm_meant cs) arms))
  arms_known item n tag [] h = tt
  arms_known item n tag (a ∷ arms) h =
      let s : Scope = record { constants = cs; types = types_in items } in
      let one = known_front s (arm_marks item n tag a) (flat_map (arm_marks item n tag) arms) h in
      let held = known_rest s (flat_map (case_marks item n tag) a.cases) (held_marks a.decl) one in
      all_both (arm_meant cs a) (flat_map (arm_meant cs) arms)
      (cases_known (held_meant cs a.decl) a.cases (held_known a.decl held))
      (arms_known item n tag arms (known_rest s (arm_marks item n tag a) (flat_map (arm_marks item n tag) arms) h))

  default_known : (o : Option ArmItem)
      → AllKnown (record { constants = cs; types = types_in items }) (default_marks o)
      → AllByRecursion (IsKnown (types_meant cs items)) (map arm_kind (default_meant cs o))
  default_known None h = tt
  default_known (Some a) h = (held_known a.decl h, tt)

  pub choices_known : (item : ℕ) (n : List ℕ) (tag : TypeWord) (arms : List ArmItem) (o : Option ArmItem)
      → AllKnown (record { constants = cs; types = types_in items })
      (flat_map (arm_marks item n tag) arms ++ default_marks o)
      → AllByRecursion (IsKnown (types_meant cs items))
      (map arm_kind (flat_map (arm_meant cs) arms ++ default_meant cs o))
  choices_known item n tag arms o h =
      let s : Scope = record { constants = cs; types = types_in items } in
      all_both (flat_map (arm_meant cs) arms) (default_meant cs o)
      (arms_known item n tag arms (known_front s (flat_map (arm_marks item n tag) arms) (default_marks o) h))
      (default_known o (known_rest s (flat_map (arm_marks item n tag) arms) (default_marks o) h))
