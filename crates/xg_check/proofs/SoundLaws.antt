-- The types and procedures of a text without a fault are those of an interface.
use Rattle.std.proofs.Common.{◌≡◌, ◌≢◌, ℕ, ℤ, suc, ◌^◌, Bool, true, false, cond, nat_eq, List, [], ◌∷◌, ◌++◌, map}
use Rattle.std.proofs.Common.{flat_map, slice_get, Option, Some, None, is_some, refl, sym, ap, subst, ◌∙◌}
use Rattle.std.specs.Prelude.{⊤}
use Rattle.std.specs.Str.{bytes_eq}
use Rattle.std.specs.List.{AllByRecursion, IsDistinct}
use Rattle.xdr_value.specs.Data.{Part as Field, Form as Shape, enum, struct, choice, Types, Procs}
use Rattle.xdr_value.specs.Ranges.{IsWithin, is_within}
use Rattle.xdr_value.specs.Heads.{Tag as XdrTag, tag_of as xdr_tag_of, head_of, tag_other}
use Rattle.xg_parse.specs.declared.tree.KindWord.{KindWord}
use Rattle.xdr_value.specs.Facts.{IsEndless, IsCase, names_of, FormIsSound, ProcIsSound, IsSound}
use Rattle.xdr_value.specs.Tests.{is_sound}
use Rattle.xdr_value.proofs.Tells.{within, a_case, a_tag}
use Rattle.xdr_value.proofs.SoundLaw.{sound_says}
use Rattle.xdr_value.specs.declared.def.Mode.TheVariants as modes
use Rattle.xg_parse.specs.declared.tree.ConstWord.{ConstWord}
use Rattle.xg_parse.specs.declared.tree.TypeWord.{TypeWord}
use Rattle.xg_parse.specs.declared.tree.Decl.{Decl}
use Rattle.xg_parse.specs.declared.tree.MembItem.{MembItem}
use Rattle.xg_parse.specs.declared.tree.ArmItem.{ArmItem}
use Rattle.xg_parse.specs.declared.tree.ArgItem.{ArgItem}
use Rattle.xg_parse.specs.declared.tree.Part.{Part}
use Rattle.xg_parse.specs.declared.tree.Part.TheVariants as parts
use Rattle.xg_parse.specs.declared.tree.Item.{Item}
use Rattle.xg_parse.specs.declared.tree.Tree.{Tree}
use Rattle.xg_check.specs.declared.marks.Space.TheVariants as spaces
use Rattle.xg_check.specs.Places.{HoldsNowhere}
use Rattle.xg_check.specs.Constants.{ConstantDef, constants_in, value_of, value_named}
use Rattle.xg_check.specs.Typed.{type_name, types_in, type_names}
use Rattle.xg_check.specs.Tags.{tag_of}
use Rattle.xg_check.specs.Marks.{Mark, form_type, optional_name, sized, form_bound, member_marks, field_marks}
use Rattle.xg_check.specs.Marks.{arg_marks, optional_constant, arm_marks, default_marks, part_marks, marks_from}
use Rattle.xg_check.specs.Judged.{Scope, is_unknown_type, is_unknown_constant, is_tag, IsUnionWrong, no_arm, no_tag}
use Rattle.xg_check.specs.Opcodes.{opcode_behind, opcodes_behind}
use Rattle.xg_check.specs.Meant.{word_kind, field_meant, member_meant, value_or_zero, arm_meant, default_meant}
use Rattle.xg_check.specs.Meant.{part_type, types_meant, proc_meant, with_proc, procs_behind}
use Rattle.xg_check.specs.Meaning.{IsFaultless, OpcodeAt, OpcodeTwiceAt}
use Rattle.xg_check.proofs.ApartLaws.{Apart, apart, apart_front, apart_rest, distinct_in, of_members, of_fields}
use Rattle.xg_check.proofs.ApartLaws.{of_args, types_differ}
use Rattle.xg_check.proofs.KnownLaws.{AllKnown, all_known, known_front, known_rest, names_meant, word_known, form_known}
use Rattle.xg_check.proofs.KnownLaws.{fields_known, args_known, choices_known}
use Rattle.xg_check.proofs.EndlessLaws.{none_endless, only_types, types_are}
use Rattle.xg_check.proofs.ValueLaws.{AllRight, all_right, right_front, right_rest, all_both, constants_differ}
use Rattle.xg_check.proofs.ValueLaws.{known_exists, wider, members_int}
use Rattle.xg_check.proofs.TagLaws.{AreSmall, tag_seen, tags_are, one_each, a_tag_seen, case_seen}
use Rattle.xg_check.proofs.CaseLaws.{WordsApart, words_apart, of_union, arms_of, choices_differ, choices_in_range}
use Rattle.xg_check.proofs.CaseLaws.{some_choice}
use Rattle.xg_check.proofs.ProcLaws.{numbers_meant, numbers_differ, procs_differ, arg_names}
use Rattle.xg_check.proofs.GraphLaws.{all_at}

-- ---- members of enums have values of int

abbrev pub SmallPart : List ConstantDef → Part → Type 0
SmallPart cs (parts.Enum n ms) = AreSmall cs ms
SmallPart cs _ = ⊤

small_members : (cs : List ConstantDef) (ms : List MembItem)
    → AllByRecursion (λ (m : MembItem). (z : ℤ) → value_named cs m.name ≡ Some z → is_within (2 ^ 31) z ≡ true) ms
    → AreSmall cs ms
small_members cs [] h = tt
small_members cs (m ∷ ms) h = (λ z e. wider z (h.0 z e), small_members cs ms h.1)

small_part : (s : Scope) (k : ℕ) (p : Part) → AllRight s (part_marks k p) → SmallPart s.constants p
small_part s k (parts.Enum n ms) h = small_members s.constants ms (members_int s ms h.1.1)
small_part s k (parts.Package n) h = tt
small_part s k (parts.Prefix n) h = tt
small_part s k (parts.StatIndex w) h = tt
small_part s k (parts.StartingOpcode w) h = tt
small_part s k (parts.Const n w) h = tt
small_part s k (parts.Typedef d) h = tt
small_part s k (parts.Struct n ds) h = tt
small_part s k (parts.Union n t tn arms o) h = tt
small_part s k (parts.Proc n args kind o) h = tt

small_parts : (s : Scope) (k : ℕ) (items : List Item) → AllRight s (marks_from k items)
    → AllByRecursion (SmallPart s.constants) (types_in items)
small_parts s k [] h = tt
small_parts s k (i ∷ is) h =
    by_test (is_some (type_name i.part))
    (small_part s k i.part (right_front s (part_marks k i.part) (marks_from (suc k) is) h))
    (small_parts s (suc k) is (right_rest s (part_marks k i.part) (marks_from (suc k) is) h))
  where
    by_test : (b : Bool) → SmallPart s.constants i.part → AllByRecursion (SmallPart s.constants) (types_in is)
        → AllByRecursion (SmallPart s.constants) (cond b (i.part ∷ types_in is) (types_in is))
    by_test true one rest = (one, rest)
    by_test false one rest = rest

-- ---- one definition after the other

module _ (s : Scope) (items : List Item) (types_so : s.types ≡ types_in items)
    (exists : (w : ConstWord) → is_unknown_constant s.constants w ≡ false → (z : ℤ) × (value_of s.constants w ≡ Some z))
    (small : (i : ℕ) (n : List ℕ) (ms : List MembItem) → slice_get s.types i ≡ Some (parts.Enum n ms)
    → AreSmall s.constants ms)
    (seen : (t : TypeWord) → xdr_tag_of (head_of (types_meant s.constants items) (word_kind t))
    ≡ tag_seen s.types s.constants (tag_of s.types t)) where
  as_scope : (ms : List Mark) → AllKnown s ms
      → AllKnown (record { constants = s.constants; types = types_in items }) ms
  as_scope ms h =
      subst (λ (ts : List Part). AllKnown (record { constants = s.constants; types = ts }) ms) types_so h

  member_names : (ms : List MembItem)
      → names_of (map (member_meant s.constants) ms) ≡ map (λ (m : MembItem). m.name) ms
  member_names [] = refl
  member_names (m ∷ ms) = ap (λ (ns : List (List ℕ)). m.name ∷ ns) (member_names ms)

  field_names : (ds : List Decl)
      → map (λ (p : Field). p.name) (map (field_meant s.constants) ds) ≡ map (λ (d : Decl). d.name) ds
  field_names [] = refl
  field_names (d ∷ ds) = ap (λ (ns : List (List ℕ)). d.name ∷ ns) (field_names ds)

  -- 0 stands for no value, and is one of int
  in_int : (o : Option ℤ) → ((z : ℤ) → o ≡ Some z → is_within (2 ^ 31) z ≡ true)
      → IsWithin (2 ^ 31) (value_or_zero o)
  in_int None h = (within (2 ^ 31) (value_or_zero None)).0 refl
  in_int (Some z) h =
      let fits : value_or_zero (Some z) ≡ z = ap (λ (b : Bool). cond b z (value_or_zero None)) (wider z (h z refl)) in
      subst (IsWithin (2 ^ 31)) (sym fits) ((within (2 ^ 31) z).0 (h z refl))

  members_within : (ms : List MembItem)
      → AllByRecursion (λ (m : MembItem). (z : ℤ) → value_named s.constants m.name ≡ Some z
      → is_within (2 ^ 31) z ≡ true) ms
      → AllByRecursion (λ (m : List ℕ × ℤ). IsWithin (2 ^ 31) m.1) (map (member_meant s.constants) ms)
  members_within [] h = tt
  members_within (m ∷ ms) h = (in_int (value_named s.constants m.name) h.0, members_within ms h.1)

  some_members : (ms : List MembItem) → (ms ≡ [] → ⊥) → map (member_meant s.constants) ms ≢ []
  some_members [] h e = h refl
  some_members (m ∷ ms) h e = cc

  enum_sound : (n : List ℕ) (ms : List MembItem) → Apart s.constants (flat_map member_marks ms)
      → AllRight s (flat_map member_marks ms) → (ms ≡ [] → ⊥)
      → FormIsSound (types_meant s.constants items) (enum (map (member_meant s.constants) ms))
  enum_sound n ms far right some = (
    some_members ms some,
    subst (IsDistinct bytes_eq) (of_members ms ∙ sym (member_names ms))
        (distinct_in s.constants spaces.Constant (flat_map member_marks ms) far),
    members_within ms (members_int s ms right),
  )

  struct_sound : (k : ℕ) (ds : List Decl) → Apart s.constants (flat_map (field_marks k) ds)
      → AllKnown s (flat_map (field_marks k) ds)
      → FormIsSound (types_meant s.constants items) (struct (map (field_meant s.constants) ds))
  struct_sound k ds far known = (
    fields_known s.constants items k ds (as_scope (flat_map (field_marks k) ds) known),
    subst (IsDistinct bytes_eq) (of_fields k ds ∙ sym (field_names ds))
        (distinct_in s.constants (spaces.List k) (flat_map (field_marks k) ds) far),
  )

  true_or_not : (b : Bool) → (b ≡ false → ⊥) → b ≡ true
  true_or_not true h = refl
  true_or_not false h = absurd (h refl)

  union_sound : (k : ℕ) (n : List ℕ) (tag : TypeWord) (arms : List ArmItem) (o : Option ArmItem)
      → Apart s.constants (flat_map (arm_marks k n tag) arms ++ default_marks o)
      → is_unknown_type s.types tag ≡ false
      → AllKnown s (flat_map (arm_marks k n tag) arms ++ default_marks o)
      → AllRight s (flat_map (arm_marks k n tag) arms ++ default_marks o)
      → (IsUnionWrong s n tag arms (is_some o) → ⊥)
      → FormIsSound (types_meant s.constants items)
      (choice (word_kind tag) (flat_map (arm_meant s.constants) arms ++ default_meant s.constants o))
  union_sound k n tag arms o far tag_known known right fine =
      let cs = s.constants in
      let all = arms_of s exists small k n tag arms
      (known_front s (flat_map (arm_marks k n tag) arms) (default_marks o) known)
      (right_front s (flat_map (arm_marks k n tag) arms) (default_marks o) right) in
      let is_one : is_tag (tag_of s.types tag) ≡ true =
      true_or_not (is_tag (tag_of s.types tag)) (λ e. fine (no_tag e)) in (
        some_choice cs arms o (λ e. fine (no_arm e)),
        (
          word_known cs items tag (subst (λ (ts : List Part). is_unknown_type ts tag ≡ false) types_so tag_known),
          choices_known cs items k n tag arms o
              (as_scope (flat_map (arm_marks k n tag) arms ++ default_marks o) known),
        ),
        subst (λ (t : XdrTag). t ≢ tag_other) (sym (seen tag))
            ((a_tag (tag_seen s.types cs (tag_of s.types tag))).0 (a_tag_seen s.types cs (tag_of s.types tag) is_one)),
        choices_differ s tag arms o all
            (subst (WordsApart cs) (of_union k n tag arms o)
            (words_apart cs k (flat_map (arm_marks k n tag) arms ++ default_marks o) far)),
        choices_in_range s tag (xdr_tag_of (head_of (types_meant cs items) (word_kind tag)))
            (λ z h. subst (λ (t : XdrTag). IsCase t z) (sym (seen tag))
            ((a_case (tag_seen s.types cs (tag_of s.types tag)) z).0
            (case_seen s.types cs (tag_of s.types tag) z small h))) arms o all,
      )

  -- the type that a part defines
  part_sound : (k : ℕ) (p : Part) → Apart s.constants (part_marks k p) → AllKnown s (part_marks k p)
      → AllRight s (part_marks k p)
      → AllByRecursion (λ (d : List ℕ × Shape). FormIsSound (types_meant s.constants items) d.1)
      (part_type s.constants p)
  part_sound k (parts.Typedef d) far known right = (
    form_known s.constants items d.form (as_scope (form_type d.form)
        (known_front s (form_type d.form) (optional_name (Some spaces.Type) d.name ++ (sized d ∷ form_bound d.form))
        known)),
    tt,
  )
  part_sound k (parts.Enum n ms) far known right = (enum_sound n ms far.1.1 right.1.1 right.1.0, tt)
  part_sound k (parts.Struct n ds) far known right = (struct_sound k ds far.1.1 known.1.1, tt)
  part_sound k (parts.Union n t tn arms o) far known right =
      (union_sound k n t arms o far.1.1.1 known.1.1.0 known.1.1.1 right.1.1.1 right.1.0, tt)
  part_sound k (parts.Package n) far known right = tt
  part_sound k (parts.Prefix n) far known right = tt
  part_sound k (parts.StatIndex w) far known right = tt
  part_sound k (parts.StartingOpcode w) far known right = tt
  part_sound k (parts.Const n w) far known right = tt
  part_sound k (parts.Proc n args kind o) far known right = tt

  pub forms_sound : (k : ℕ) (is : List Item) → Apart s.constants (marks_from k is) → AllKnown s (marks_from k is)
      → AllRight s (marks_from k is)
      → AllByRecursion (λ (d : List ℕ × Shape). FormIsSound (types_meant s.constants items) d.1)
      (types_meant s.constants is)
  forms_sound k [] far known right = tt
  forms_sound k (i ∷ is) far known right =
      all_both (λ (d : List ℕ × Shape). FormIsSound (types_meant s.constants items) d.1) (part_type s.constants i.part)
      (types_meant s.constants is)
      (part_sound k i.part (apart_front s.constants (part_marks k i.part) (marks_from (suc k) is) far)
      (known_front s (part_marks k i.part) (marks_from (suc k) is) known)
      (right_front s (part_marks k i.part) (marks_from (suc k) is) right))
      (forms_sound (suc k) is (apart_rest s.constants (part_marks k i.part) (marks_from (suc k) is) far)
      (known_rest s (part_marks k i.part) (marks_from (suc k) is) known)
      (right_rest s (part_marks k i.part) (marks_from (suc k) is) right))

  -- ---- procedures

  proc_sound : (k : ℕ) (opcode : Option ℤ) (n : List ℕ) (args : List ArgItem) (kind : Option KindWord)
      (given : Option ConstWord)
      → Apart s.constants (part_marks k (parts.Proc n args kind given))
      → AllKnown s (part_marks k (parts.Proc n args kind given))
      → ProcIsSound (types_meant s.constants items) (proc_meant s.constants opcode n args kind)
  proc_sound k opcode n args kind given far known = (
    args_known s.constants items k modes.In args (as_scope (flat_map (arg_marks k) args)
        (known_front s (flat_map (arg_marks k) args) (optional_constant given) known.1)),
    subst (IsDistinct bytes_eq) (of_args k args ∙ sym (arg_names s.constants modes.In args))
        (distinct_in s.constants (spaces.List k) (flat_map (arg_marks k) args)
        (apart_front s.constants (flat_map (arg_marks k) args) (optional_constant given) far.1)),
  )

  with_sound : (k : ℕ) (front : List Part) (p : Part) (rest : Procs) → Apart s.constants (part_marks k p)
      → AllKnown s (part_marks k p) → AllByRecursion (ProcIsSound (types_meant s.constants items)) rest
      → AllByRecursion (ProcIsSound (types_meant s.constants items)) (with_proc s.constants front p rest)
  with_sound k front (parts.Proc n args kind given) rest far known h =
      (proc_sound k (opcode_behind s.constants front given) n args kind given far known, h)
  with_sound k front (parts.Package n) rest far known h = h
  with_sound k front (parts.Prefix n) rest far known h = h
  with_sound k front (parts.StatIndex w) rest far known h = h
  with_sound k front (parts.StartingOpcode w) rest far known h = h
  with_sound k front (parts.Const n w) rest far known h = h
  with_sound k front (parts.Typedef d) rest far known h = h
  with_sound k front (parts.Enum n ms) rest far known h = h
  with_sound k front (parts.Struct n ds) rest far known h = h
  with_sound k front (parts.Union n t tn arms o) rest far known h = h

  pub procs_sound : (k : ℕ) (front : List Part) (is : List Item) → Apart s.constants (marks_from k is)
      → AllKnown s (marks_from k is)
      → AllByRecursion (ProcIsSound (types_meant s.constants items)) (procs_behind s.constants front is)
  procs_sound k front [] far known = tt
  procs_sound k front (i ∷ is) far known =
      with_sound k front i.part (procs_behind s.constants (i.part ∷ front) is)
      (apart_front s.constants (part_marks k i.part) (marks_from (suc k) is) far)
      (known_front s (part_marks k i.part) (marks_from (suc k) is) known)
      (procs_sound (suc k) (i.part ∷ front) is
      (apart_rest s.constants (part_marks k i.part) (marks_from (suc k) is) far)
      (known_rest s (part_marks k i.part) (marks_from (suc k) is) known))

-- ---- the interface of a text

pub meant_sound : (tree : Tree) → IsFaultless tree → HoldsNowhere (OpcodeAt tree) → HoldsNowhere (OpcodeTwiceAt tree)
    → IsSound (types_meant (constants_in tree.items) tree.items) (procs_behind (constants_in tree.items) [] tree.items)
meant_sound tree h has once =
    let items = tree.items in
    let cs = constants_in items in
    let s : Scope = record { constants = cs; types = types_in items } in
    let marks = marks_from 0 items in
    let far = apart cs marks h.twice in
    let known = all_known s marks h.unknown in
    let right = all_right s marks h.size in
    let exists = known_exists s items refl known right (constants_differ cs items h.twice) in
    let small : (i : ℕ) (n : List ℕ) (ms : List MembItem) → slice_get (types_in items) i ≡ Some (parts.Enum n ms)
    → AreSmall cs ms =
    λ i n ms at. all_at (SmallPart cs) (types_in items) i (parts.Enum n ms) (small_parts s 0 items right) at in
    let same = types_are cs items in
    let names : names_of (flat_map (part_type cs) (types_in items)) ≡ type_names (types_in items) =
    subst (λ (t : Types). names_of t ≡ type_names (types_in items)) same (names_meant cs items) in
    let seen : (t : TypeWord) → xdr_tag_of (head_of (types_meant cs items) (word_kind t))
    ≡ tag_seen (types_in items) cs (tag_of (types_in items) t) =
    λ t. subst (λ (u : Types). xdr_tag_of (head_of u (word_kind t))
    ≡ tag_seen (types_in items) cs (tag_of (types_in items) t)) (sym same)
    (tags_are cs (types_in items) (only_types items) names (one_each cs (types_in items) (only_types items)) t) in
    record {
      types_differ = types_differ cs items h.twice;
      forms = forms_sound s items refl exists small seen 0 items far known right;
      endless = λ n holds. none_endless cs (types_in items) (only_types items) h.endless n
          (subst (λ (t : Types). IsEndless t n) same holds);
      procs_differ = procs_differ cs items h.twice;
      opcodes_differ = subst (IsDistinct nat_eq) (sym (numbers_meant cs [] items))
          (numbers_differ (opcodes_behind cs [] items) has once);
      procs = procs_sound s items refl exists small seen 0 [] items far known;
    }

-- which the test says yes to
pub meant_passes : (tree : Tree) → IsFaultless tree → HoldsNowhere (OpcodeAt tree) → HoldsNowhere (OpcodeTwiceAt tree)
    → is_sound (types_meant (constants_in tree.items) tree.items) (procs_behind (constants_in tree.items) [] tree.items)
    ≡ true
meant_passes tree h has once =
    (sound_says (types_meant (constants_in tree.items) tree.items)
    (procs_behind (constants_in tree.items) [] tree.items)).1 (meant_sound tree h has once)
