-- What follows where nothing stands twice: names of one space differ.
use Rattle.std.proofs.Common.{◌≡◌, ℕ, suc, Bool, true, false, cond, List, [], ◌∷◌, ◌++◌, map, flat_map, slice_get}
use Rattle.std.proofs.Common.{Option, Some, None, refl, sym, ap, subst, ◌∙◌, arith}
use Rattle.std.specs.Prelude.{⊤}
use Rattle.std.specs.Str.{bytes_eq}
use Rattle.std.specs.List.{AllByRecursion, IsDistinct}
use Rattle.std.proofs.lemmas.Slice.Eq.{bytes_eq-Decides}
use Rattle.std.proofs.lemmas.Bool.{and_from, false_from_ne_true, false≢true}
use Rattle.std.proofs.lemmas.Bool.Decides.{Decides-eqb}
use Rattle.xg_parse.specs.declared.tree.ConstWord.{ConstWord}
use Rattle.xg_parse.specs.declared.tree.TypeWord.{TypeWord}
use Rattle.xg_parse.specs.declared.tree.Form.{Form}
use Rattle.xg_parse.specs.declared.tree.Form.TheVariants as forms
use Rattle.xg_parse.specs.declared.tree.Decl.{Decl}
use Rattle.xg_parse.specs.declared.tree.MembItem.{MembItem}
use Rattle.xg_parse.specs.declared.tree.ArmItem.{ArmItem}
use Rattle.xg_parse.specs.declared.tree.ArgItem.{ArgItem}
use Rattle.xg_parse.specs.declared.tree.Part.{Part}
use Rattle.xg_parse.specs.declared.tree.Part.TheVariants as parts
use Rattle.xg_parse.specs.declared.tree.Item.{Item}
use Rattle.xdr_value.specs.Facts.{names_of}
use Rattle.xg_check.specs.declared.marks.Space.{Space}
use Rattle.xg_check.specs.declared.marks.Space.TheVariants as spaces
use Rattle.xg_check.specs.Constants.{ConstantDef}
use Rattle.xg_check.specs.Marks.{Mark, declares, union_case, uses_type, uses_constant, valued, sized, enum_type}
use Rattle.xg_check.specs.Marks.{struct_type, union_type, optional_constant, form_type, form_bound, optional_name}
use Rattle.xg_check.specs.Marks.{decl_marks, member_marks, field_marks, arg_marks, case_marks, held_marks, arm_marks}
use Rattle.xg_check.specs.Marks.{default_marks, part_marks, marks_from}
use Rattle.xg_check.specs.Judged.{same_space, are_same, IsTwice}
use Rattle.xg_check.specs.Meant.{part_type, types_meant}

-- ---- marks of which none is the same as one before

abbrev pub Apart : List ConstantDef → List Mark → Type 0
Apart cs [] = ⊤
Apart cs (m ∷ ms) = AllByRecursion (λ n. are_same cs n m ≡ false) ms × Apart cs ms

pub all_by : {A : Type 0} (P : A → Type 0) (xs : List A) → ((j : ℕ) (x : A) → slice_get xs j ≡ Some x → P x)
    → AllByRecursion P xs
all_by P [] h = tt
all_by P (x ∷ xs) h = (h 0 x refl, all_by P xs (λ j y e. h (suc j) y e))

pub apart : (cs : List ConstantDef) (marks : List Mark) → ((k : ℕ) → IsTwice cs marks k → ⊥) → Apart cs marks
apart cs [] h = tt
apart cs (m ∷ ms) h = (
  all_by (λ n. are_same cs n m ≡ false) ms (λ j n e. false_from_ne_true (are_same cs n m) (λ same. h (suc j) (record {
    mark = n;
    stands = e;
    earlier = 0;
    before = omega arith;
    other = m;
    stood = refl;
    same = same;
  }))),
  apart cs ms (λ k t. h (suc k) (record {
    mark = t.mark;
    stands = t.stands;
    earlier = suc t.earlier;
    before = omega (arith, t.before);
    other = t.other;
    stood = t.stood;
    same = t.same;
  })),
)

all_front : {A : Type 0} (P : A → Type 0) (xs ys : List A) → AllByRecursion P (xs ++ ys) → AllByRecursion P xs
all_front P [] ys h = tt
all_front P (x ∷ xs) ys h = (h.0, all_front P xs ys h.1)

pub apart_front : (cs : List ConstantDef) (xs ys : List Mark) → Apart cs (xs ++ ys) → Apart cs xs
apart_front cs [] ys h = tt
apart_front cs (x ∷ xs) ys h = (all_front (λ n. are_same cs n x ≡ false) xs ys h.0, apart_front cs xs ys h.1)

pub apart_rest : (cs : List ConstantDef) (xs ys : List Mark) → Apart cs (xs ++ ys) → Apart cs ys
apart_rest cs [] ys h = h
apart_rest cs (x ∷ xs) ys h = apart_rest cs xs ys h.1

-- ---- the names of a space

abbrev pub declared_in : Space → List Mark → List (List ℕ)
declared_in s [] = []
declared_in s (declares r n ∷ ms) = cond (same_space r s) (n ∷ declared_in s ms) (declared_in s ms)
declared_in s (union_case i n t w ∷ ms) = declared_in s ms
declared_in s (uses_type t ∷ ms) = declared_in s ms
declared_in s (uses_constant w ∷ ms) = declared_in s ms
declared_in s (valued n b ∷ ms) = declared_in s ms
declared_in s (sized d ∷ ms) = declared_in s ms
declared_in s (enum_type n es ∷ ms) = declared_in s ms
declared_in s (struct_type n ∷ ms) = declared_in s ms
declared_in s (union_type n t arms b ∷ ms) = declared_in s ms

space_is : (r s : Space) → same_space r s ≡ true → r ≡ s
space_is spaces.Type spaces.Type e = refl
space_is spaces.Type spaces.Constant e = absurd (false≢true e)
space_is spaces.Type spaces.Procedure e = absurd (false≢true e)
space_is spaces.Type (spaces.List j) e = absurd (false≢true e)
space_is spaces.Constant spaces.Type e = absurd (false≢true e)
space_is spaces.Constant spaces.Constant e = refl
space_is spaces.Constant spaces.Procedure e = absurd (false≢true e)
space_is spaces.Constant (spaces.List j) e = absurd (false≢true e)
space_is spaces.Procedure spaces.Type e = absurd (false≢true e)
space_is spaces.Procedure spaces.Constant e = absurd (false≢true e)
space_is spaces.Procedure spaces.Procedure e = refl
space_is spaces.Procedure (spaces.List j) e = absurd (false≢true e)
space_is (spaces.List i) spaces.Type e = absurd (false≢true e)
space_is (spaces.List i) spaces.Constant e = absurd (false≢true e)
space_is (spaces.List i) spaces.Procedure e = absurd (false≢true e)
space_is (spaces.List i) (spaces.List j) e = ap spaces.List ((Decides-eqb i j).0 e)

pub same_self : (s : Space) → same_space s s ≡ true
same_self spaces.Type = refl
same_self spaces.Constant = refl
same_self spaces.Procedure = refl
same_self (spaces.List i) = (Decides-eqb i i).1 refl

text_back : (a b : List ℕ) → bytes_eq a b ≡ false → bytes_eq b a ≡ false
text_back a b h = false_from_ne_true (bytes_eq b a) (λ e.
    let is : b ≡ a = (bytes_eq-Decides b a).0 e in
    let back : bytes_eq a b ≡ true = (bytes_eq-Decides a b).1 (sym is) in
    false≢true (sym h ∙ back))

-- a name of the space differs from each behind it
differs : (cs : List ConstantDef) (s r : Space) (n : List ℕ) (ms : List Mark) → same_space r s ≡ true
    → AllByRecursion (λ m. are_same cs m (declares r n) ≡ false) ms
    → AllByRecursion (λ m. bytes_eq n m ≡ false) (declared_in s ms)
differs cs s r n [] e h = tt
differs cs s r n (declares q m ∷ ms) e h = by_space (same_space q s) refl (differs cs s r n ms e h.1)
  where
    by_space : (b : Bool) → same_space q s ≡ b → AllByRecursion (λ k. bytes_eq n k ≡ false) (declared_in s ms)
        → AllByRecursion (λ k. bytes_eq n k ≡ false) (cond b (m ∷ declared_in s ms) (declared_in s ms))
    by_space false f rest = rest
    by_space true f rest = (text_back m n no, rest)
      where
        is : r ≡ q
        is = space_is r s e ∙ sym (space_is q s f)

        spaces_same : same_space q r ≡ true
        spaces_same = subst (λ (u : Space). same_space q u ≡ true) (sym is) (same_self q)

        no : bytes_eq m n ≡ false
        no = false_from_ne_true (bytes_eq m n) (λ t.
            false≢true (sym h.0 ∙ and_from (same_space q r) (bytes_eq m n) spaces_same t))
differs cs s r n (union_case i m t w ∷ ms) e h = differs cs s r n ms e h.1
differs cs s r n (uses_type t ∷ ms) e h = differs cs s r n ms e h.1
differs cs s r n (uses_constant w ∷ ms) e h = differs cs s r n ms e h.1
differs cs s r n (valued m b ∷ ms) e h = differs cs s r n ms e h.1
differs cs s r n (sized d ∷ ms) e h = differs cs s r n ms e h.1
differs cs s r n (enum_type m es ∷ ms) e h = differs cs s r n ms e h.1
differs cs s r n (struct_type m ∷ ms) e h = differs cs s r n ms e h.1
differs cs s r n (union_type m t arms b ∷ ms) e h = differs cs s r n ms e h.1

distinct_by : (s : Space) (n : List ℕ) (ms : List Mark) (b : Bool)
    → (b ≡ true → AllByRecursion (λ m. bytes_eq n m ≡ false) (declared_in s ms))
    → IsDistinct bytes_eq (declared_in s ms) → IsDistinct bytes_eq (cond b (n ∷ declared_in s ms) (declared_in s ms))
unfolding IsDistinct
distinct_by s n ms true h rest = (h refl, rest)
distinct_by s n ms false h rest = rest

-- the names of a space differ
pub distinct_in : (cs : List ConstantDef) (s : Space) (ms : List Mark) → Apart cs ms
    → IsDistinct bytes_eq (declared_in s ms)
unfolding IsDistinct
distinct_in cs s [] h = tt
distinct_in cs s (declares r n ∷ ms) h =
    distinct_by s n ms (same_space r s) (λ e. differs cs s r n ms e h.0) (distinct_in cs s ms h.1)
distinct_in cs s (union_case i n t w ∷ ms) h = distinct_in cs s ms h.1
distinct_in cs s (uses_type t ∷ ms) h = distinct_in cs s ms h.1
distinct_in cs s (uses_constant w ∷ ms) h = distinct_in cs s ms h.1
distinct_in cs s (valued n b ∷ ms) h = distinct_in cs s ms h.1
distinct_in cs s (sized d ∷ ms) h = distinct_in cs s ms h.1
distinct_in cs s (enum_type n es ∷ ms) h = distinct_in cs s ms h.1
distinct_in cs s (struct_type n ∷ ms) h = distinct_in cs s ms h.1
distinct_in cs s (union_type n t arms b ∷ ms) h = distinct_in cs s ms h.1

-- ---- which names those are

pub declared_both : (s : Space) (xs ys : List Mark) → declared_in s (xs ++ ys) ≡ declared_in s xs ++ declared_in s ys
declared_both s [] ys = refl
declared_both s (declares r n ∷ xs) ys = by_space (same_space r s) (declared_both s xs ys)
  where
    by_space : (b : Bool) → declared_in s (xs ++ ys) ≡ declared_in s xs ++ declared_in s ys
        → cond b (n ∷ declared_in s (xs ++ ys)) (declared_in s (xs ++ ys))
        ≡ cond b (n ∷ declared_in s xs) (declared_in s xs) ++ declared_in s ys
    by_space true rest = ap (λ (zs : List (List ℕ)). n ∷ zs) rest
    by_space false rest = rest
declared_both s (union_case i n t w ∷ xs) ys = declared_both s xs ys
declared_both s (uses_type t ∷ xs) ys = declared_both s xs ys
declared_both s (uses_constant w ∷ xs) ys = declared_both s xs ys
declared_both s (valued n b ∷ xs) ys = declared_both s xs ys
declared_both s (sized d ∷ xs) ys = declared_both s xs ys
declared_both s (enum_type n es ∷ xs) ys = declared_both s xs ys
declared_both s (struct_type n ∷ xs) ys = declared_both s xs ys
declared_both s (union_type n t arms b ∷ xs) ys = declared_both s xs ys

pub none_of : {A : Type 0} (s : Space) (f : A → List Mark) (xs : List A) → ((x : A) → declared_in s (f x) ≡ [])
    → declared_in s (flat_map f xs) ≡ []
none_of s f [] h = refl
none_of s f (x ∷ xs) h =
    declared_both s (f x) (flat_map f xs) ∙ ap (λ (ns : List (List ℕ)). ns ++ declared_in s (flat_map f xs)) (h x)
    ∙ none_of s f xs h

pub each_of : {A : Type 0} (s : Space) (f : A → List Mark) (name : A → List ℕ) (xs : List A)
    → ((x : A) → declared_in s (f x) ≡ name x ∷ []) → declared_in s (flat_map f xs) ≡ map name xs
each_of s f name [] h = refl
each_of s f name (x ∷ xs) h =
    declared_both s (f x) (flat_map f xs) ∙ ap (λ (ns : List (List ℕ)). ns ++ declared_in s (flat_map f xs)) (h x)
    ∙ ap (λ (ns : List (List ℕ)). name x ∷ ns) (each_of s f name xs h)

no_type : (s : Space) (f : Form) → declared_in s (form_type f) ≡ []
no_type s (forms.Plain t) = refl
no_type s (forms.Star t) = refl
no_type s (forms.Fixed t size) = refl
no_type s (forms.UpTo t most) = refl
no_type s (forms.Opaque size) = refl
no_type s (forms.OpaqueUpTo most) = refl
no_type s (forms.Text most) = refl

pub no_constant : (s : Space) (w : Option ConstWord) → declared_in s (optional_constant w) ≡ []
no_constant s None = refl
no_constant s (Some w) = refl

no_bound : (s : Space) (f : Form) → declared_in s (form_bound f) ≡ []
no_bound s (forms.Plain t) = refl
no_bound s (forms.Star t) = refl
no_bound s (forms.Fixed t size) = refl
no_bound s (forms.UpTo t most) = no_constant s most
no_bound s (forms.Opaque size) = refl
no_bound s (forms.OpaqueUpTo most) = no_constant s most
no_bound s (forms.Text most) = no_constant s most

pub of_decl : (s : Space) (space : Option Space) (d : Decl)
    → declared_in s (decl_marks space d) ≡ declared_in s (optional_name space d.name)
of_decl s space d =
    declared_both s (form_type d.form) (optional_name space d.name ++ (sized d ∷ form_bound d.form))
    ∙ ap (λ (ns : List (List ℕ)). ns ++ declared_in s (optional_name space d.name ++ (sized d ∷ form_bound d.form)))
    (no_type s d.form)
    ∙ declared_both s (optional_name space d.name) (sized d ∷ form_bound d.form)
    ∙ ap (λ (ns : List (List ℕ)). declared_in s (optional_name space d.name) ++ ns) (no_bound s d.form)
    ∙ nil (declared_in s (optional_name space d.name))
  where
    nil : (ns : List (List ℕ)) → ns ++ [] ≡ ns
    nil [] = refl
    nil (n ∷ ns) = ap (λ (ms : List (List ℕ)). n ∷ ms) (nil ns)

of_held : (s : Space) (d : Option Decl) → declared_in s (held_marks d) ≡ []
of_held s None = refl
of_held s (Some d) = of_decl s None d

of_cases : (s : Space) (item : ℕ) (n : List ℕ) (t : TypeWord) (ws : List ConstWord)
    → declared_in s (flat_map (case_marks item n t) ws) ≡ []
of_cases s item n t ws = none_of s (case_marks item n t) ws (λ w. refl)

of_arm : (s : Space) (item : ℕ) (n : List ℕ) (t : TypeWord) (a : ArmItem) → declared_in s (arm_marks item n t a) ≡ []
of_arm s item n t a =
    declared_both s (flat_map (case_marks item n t) a.cases) (held_marks a.decl)
    ∙ ap (λ (ns : List (List ℕ)). ns ++ declared_in s (held_marks a.decl)) (of_cases s item n t a.cases)
    ∙ of_held s a.decl

of_default : (s : Space) (a : Option ArmItem) → declared_in s (default_marks a) ≡ []
of_default s None = refl
of_default s (Some a) = of_held s a.decl

pub of_arms : (s : Space) (item : ℕ) (n : List ℕ) (t : TypeWord) (arms : List ArmItem) (otherwise : Option ArmItem)
    → declared_in s (flat_map (arm_marks item n t) arms ++ default_marks otherwise) ≡ []
of_arms s item n t arms otherwise =
    declared_both s (flat_map (arm_marks item n t) arms) (default_marks otherwise)
    ∙ ap (λ (ns : List (List ℕ)). ns ++ declared_in s (default_marks otherwise))
    (none_of s (arm_marks item n t) arms (of_arm s item n t))
    ∙ of_default s otherwise

-- the names of members are those of constants
pub of_members : (ms : List MembItem)
    → declared_in spaces.Constant (flat_map member_marks ms) ≡ map (λ (m : MembItem). m.name) ms
of_members ms = each_of spaces.Constant member_marks (λ (m : MembItem). m.name) ms
    (λ m. ap (λ (ns : List (List ℕ)). m.name ∷ ns) (no_constant spaces.Constant m.value))

-- the names of fields, and those of arguments, are those of their list
pub of_fields : (item : ℕ) (ds : List Decl)
    → declared_in (spaces.List item) (flat_map (field_marks item) ds) ≡ map (λ (d : Decl). d.name) ds
of_fields item ds = each_of (spaces.List item) (field_marks item) (λ (d : Decl). d.name) ds (λ d.
    of_decl (spaces.List item) (Some (spaces.List item)) d
    ∙ ap (λ (b : Bool). cond b (d.name ∷ []) []) (same_self (spaces.List item)))

pub of_args : (item : ℕ) (args : List ArgItem)
    → declared_in (spaces.List item) (flat_map (arg_marks item) args) ≡ map (λ (a : ArgItem). a.decl.name) args
of_args item args = each_of (spaces.List item) (arg_marks item) (λ (a : ArgItem). a.decl.name) args (λ a.
    of_decl (spaces.List item) (Some (spaces.List item)) a.decl
    ∙ ap (λ (b : Bool). cond b (a.decl.name ∷ []) []) (same_self (spaces.List item)))

-- the types of a part
of_part : (cs : List ConstantDef) (item : ℕ) (p : Part)
    → declared_in spaces.Type (part_marks item p) ≡ names_of (part_type cs p)
of_part cs item (parts.Package n) = refl
of_part cs item (parts.Prefix n) = refl
of_part cs item (parts.StatIndex w) = refl
of_part cs item (parts.StartingOpcode w) = refl
of_part cs item (parts.Const n w) = refl
of_part cs item (parts.Typedef d) = of_decl spaces.Type (Some spaces.Type) d
of_part cs item (parts.Enum n ms) =
    ap (λ (ns : List (List ℕ)). n ∷ ns) (none_of spaces.Type member_marks ms (λ m. no_constant spaces.Type m.value))
of_part cs item (parts.Struct n ds) =
    ap (λ (ns : List (List ℕ)). n ∷ ns) (none_of spaces.Type (field_marks item) ds
    (λ d. of_decl spaces.Type (Some (spaces.List item)) d))
of_part cs item (parts.Union n tag tag_name arms otherwise) =
    ap (λ (ns : List (List ℕ)). n ∷ ns) (of_arms spaces.Type item n tag arms otherwise)
of_part cs item (parts.Proc n args kind opcode) =
    declared_both spaces.Type (flat_map (arg_marks item) args) (optional_constant opcode)
    ∙ ap (λ (ns : List (List ℕ)). ns ++ declared_in spaces.Type (optional_constant opcode))
    (none_of spaces.Type (arg_marks item) args (λ a. of_decl spaces.Type (Some (spaces.List item)) a.decl))
    ∙ no_constant spaces.Type opcode

names_both : {X : Type 0} (xs ys : List (List ℕ × X)) → names_of (xs ++ ys) ≡ names_of xs ++ names_of ys
names_both [] ys = refl
names_both (x ∷ xs) ys = ap (λ (ns : List (List ℕ)). x.0 ∷ ns) (names_both xs ys)

-- the names of types are those that are declared as such
pub of_types : (cs : List ConstantDef) (k : ℕ) (items : List Item)
    → declared_in spaces.Type (marks_from k items) ≡ names_of (types_meant cs items)
of_types cs k [] = refl
of_types cs k (i ∷ is) =
    declared_both spaces.Type (part_marks k i.part) (marks_from (suc k) is)
    ∙ ap (λ (ns : List (List ℕ)). ns ++ declared_in spaces.Type (marks_from (suc k) is)) (of_part cs k i.part)
    ∙ ap (λ (ns : List (List ℕ)). names_of (part_type cs i.part) ++ ns) (of_types cs (suc k) is)
    ∙ sym (names_both (part_type cs i.part) (types_meant cs is))

-- types differ by their names
pub types_differ : (cs : List ConstantDef) (items : List Item) → ((k : ℕ) → IsTwice cs (marks_from 0 items) k → ⊥)
    → IsDistinct bytes_eq (names_of (types_meant cs items))
types_differ cs items h =
    subst (IsDistinct bytes_eq) (of_types cs 0 items)
    (distinct_in cs spaces.Type (marks_from 0 items) (apart cs (marks_from 0 items) h))
