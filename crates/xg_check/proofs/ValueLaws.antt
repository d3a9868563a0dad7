-- Where a text has no fault of names and sizes, each constant has a value, and each member one of int.
use Rattle.std.proofs.Common.{◌≡◌, ℕ, ℤ, zero, suc, ◌<◌, ◌^◌, Bool, true, false, cond, not, List, [], ◌∷◌, ◌++◌, length}
use Rattle.std.proofs.Common.{map, flat_map, slice_get, Option, Some, None, option_map, option_and_then, refl, sym, ap}
use Rattle.std.proofs.Common.{subst, ◌∙◌, arith}
use lib.IntN.{pos, negsuc}
use Rattle.std.specs.Str.{bytes_eq}
use Rattle.std.specs.List.{AllByRecursion, IsDistinct}
use Rattle.std.proofs.lemmas.Slice.Eq.{bytes_eq-Decides}
use Rattle.std.proofs.lemmas.Bool.{false_from_ne_true, false≢true, ltb-true, lt-ltb}
use Rattle.std.proofs.lemmas.Option.{slice_get_within, slice_get-map}
use Rattle.xdr_value.specs.Ranges.{is_within}
use Rattle.xg_parse.specs.declared.tree.ConstWord.{ConstWord}
use Rattle.xg_parse.specs.declared.tree.MembItem.{MembItem}
use Rattle.xg_parse.specs.declared.tree.Part.{Part}
use Rattle.xg_parse.specs.declared.tree.Part.TheVariants as parts
use Rattle.xg_parse.specs.declared.tree.Item.{Item}
use Rattle.xg_check.specs.declared.marks.Space.TheVariants as spaces
use Rattle.xg_check.specs.Places.{place_of}
use Rattle.xg_check.specs.Graphs.{Step, Leads, at_once, through}
use Rattle.xg_check.specs.Constants.{Given, word, first, next, ConstantDef, given_or, members_from, part_constants}
use Rattle.xg_check.specs.Constants.{constants_in, constant_names, value_at, value_of, value_named}
use Rattle.xg_check.specs.Constants.{constant_ways}
use Rattle.xg_check.specs.Marks.{Mark, optional_constant, member_marks, field_marks, arg_marks, part_marks, marks_from}
use Rattle.xg_check.specs.Judged.{Scope, is_unknown_constant, is_no_int, IsConstantWrong, ring, no_int, IsWrong}
use Rattle.xg_check.specs.Judged.{IsSizeFault, IsTwice}
use Rattle.xg_check.proofs.ApartLaws.{apart, declared_in, distinct_in, declared_both, none_of, no_constant, of_decl}
use Rattle.xg_check.proofs.ApartLaws.{of_arms, of_members}
use Rattle.xg_check.proofs.KnownLaws.{AllKnown, known_front, known_rest}
use Rattle.xg_check.proofs.RingLaws.{GivenKnown, word_exists, length_ways}
use Rattle.xg_check.proofs.GraphLaws.{all_at}

-- ---- marks of which none is wrong

abbrev pub AllRight : Scope → List Mark → Type 0
AllRight s marks = AllByRecursion (λ m. IsWrong s m → ⊥) marks

pub all_right : (s : Scope) (marks : List Mark) → ((k : ℕ) → IsSizeFault s marks k → ⊥) → AllRight s marks
all_right s [] h = tt
all_right s (m ∷ ms) h = (
  λ w. h 0 (record { mark = m; stands = refl; wrong = w }),
  all_right s ms (λ k f. h (suc k) (record { mark = f.mark; stands = f.stands; wrong = f.wrong })),
)

pub right_front : (s : Scope) (xs ys : List Mark) → AllRight s (xs ++ ys) → AllRight s xs
right_front s [] ys h = tt
right_front s (x ∷ xs) ys h = (h.0, right_front s xs ys h.1)

pub right_rest : (s : Scope) (xs ys : List Mark) → AllRight s (xs ++ ys) → AllRight s ys
right_rest s [] ys h = h
right_rest s (x ∷ xs) ys h = right_rest s xs ys h.1

-- ---- lists

pub all_both : {A : Type 0} (P : A → Type 0) (xs ys : List A) → AllByRecursion P xs → AllByRecursion P ys
    → AllByRecursion P (xs ++ ys)
all_both P [] ys h k = k
all_both P (x ∷ xs) ys h k = (h.0, all_both P xs ys h.1 k)

-- where names differ, each stands first where it stands
pub place_at : (names : List (List ℕ)) (i : ℕ) (name : List ℕ) → IsDistinct bytes_eq names
    → slice_get names i ≡ Some name → place_of name names ≡ Some i
unfolding IsDistinct
place_at [] i name differ e = absurd cc
place_at (n ∷ names) zero name differ e =
    let is : n ≡ name = cc in
    ap (λ (b : Bool). cond b (Some 0) (option_map suc (place_of name names))) ((bytes_eq-Decides name n).1 (sym is))
place_at (n ∷ names) (suc i) name differ e =
    let no : bytes_eq n name ≡ false = all_at (λ y. bytes_eq n y ≡ false) names i name differ.0 e in
    let turned : bytes_eq name n ≡ false = false_from_ne_true (bytes_eq name n) (λ t.
    let is : name ≡ n = (bytes_eq-Decides name n).0 t in
    let back : bytes_eq n name ≡ true = (bytes_eq-Decides n name).1 (sym is) in
    false≢true (sym no ∙ back)) in
    ap (λ (b : Bool). cond b (Some 0) (option_map suc (place_of name names))) turned
    ∙ ap (option_map suc) (place_at names i name differ.1 e)

-- ---- the constants of a text

member_names : (other : Given) (ms : List MembItem)
    → map (λ (m : MembItem). m.name) ms ≡ constant_names (members_from other ms)
member_names other [] = refl
member_names other (m ∷ ms) = ap (λ (ns : List (List ℕ)). m.name ∷ ns) (member_names next ms)

names_both : (xs ys : List ConstantDef) → constant_names (xs ++ ys) ≡ constant_names xs ++ constant_names ys
names_both [] ys = refl
names_both (x ∷ xs) ys = ap (λ (ns : List (List ℕ)). x.name ∷ ns) (names_both xs ys)

part_names : (k : ℕ) (p : Part) → declared_in spaces.Constant (part_marks k p) ≡ constant_names (part_constants p)
part_names k (parts.Package n) = refl
part_names k (parts.Prefix n) = refl
part_names k (parts.StatIndex w) = refl
part_names k (parts.StartingOpcode w) = refl
part_names k (parts.Const n w) = refl
part_names k (parts.Typedef d) = of_decl spaces.Constant (Some spaces.Type) d
part_names k (parts.Enum n ms) = of_members ms ∙ member_names first ms
part_names k (parts.Struct n ds) =
    none_of spaces.Constant (field_marks k) ds (λ d. of_decl spaces.Constant (Some (spaces.List k)) d)
part_names k (parts.Union n t tn arms o) = of_arms spaces.Constant k n t arms o
part_names k (parts.Proc n args kind o) =
    declared_both spaces.Constant (flat_map (arg_marks k) args) (optional_constant o)
    ∙ ap (λ (ns : List (List ℕ)). ns ++ declared_in spaces.Constant (optional_constant o))
    (none_of spaces.Constant (arg_marks k) args (λ a. of_decl spaces.Constant (Some (spaces.List k)) a.decl))
    ∙ no_constant spaces.Constant o

of_constants : (k : ℕ) (items : List Item)
    → declared_in spaces.Constant (marks_from k items) ≡ constant_names (constants_in items)
of_constants k [] = refl
of_constants k (i ∷ is) =
    declared_both spaces.Constant (part_marks k i.part) (marks_from (suc k) is)
    ∙ ap (λ (ns : List (List ℕ)). ns ++ declared_in spaces.Constant (marks_from (suc k) is)) (part_names k i.part)
    ∙ ap (λ (ns : List (List ℕ)). constant_names (part_constants i.part) ++ ns) (of_constants (suc k) is)
    ∙ sym (names_both (part_constants i.part) (constants_in is))

-- names of constants differ
pub constants_differ : (cs : List ConstantDef) (items : List Item) → ((k : ℕ) → IsTwice cs (marks_from 0 items) k → ⊥)
    → IsDistinct bytes_eq (constant_names (constants_in items))
constants_differ cs items h =
    subst (IsDistinct bytes_eq) (of_constants 0 items)
    (distinct_in cs spaces.Constant (marks_from 0 items) (apart cs (marks_from 0 items) h))

-- ---- what holds of each constant

module _ (s : Scope) where
  -- the word that it gives is known
  member_known : (other : Given) (ms : List MembItem) → GivenKnown s.constants other
      → AllKnown s (flat_map member_marks ms)
      → AllByRecursion (λ (c : ConstantDef). GivenKnown s.constants c.given) (members_from other ms)
  member_known other [] h k = tt
  member_known other (m ∷ ms) h k = (
    by_value m.value (known_front s (member_marks m) (flat_map member_marks ms) k).1.1,
    member_known next ms tt (known_rest s (member_marks m) (flat_map member_marks ms) k),
  )
    where
      by_value : (v : Option ConstWord) → AllKnown s (optional_constant v) → GivenKnown s.constants (given_or other v)
      by_value None a = h
      by_value (Some w) a = a.0

  part_known : (k : ℕ) (p : Part) → AllKnown s (part_marks k p)
      → AllByRecursion (λ (c : ConstantDef). GivenKnown s.constants c.given) (part_constants p)
  part_known k (parts.Const n w) h = (h.1.1.0, tt)
  part_known k (parts.Enum n ms) h = member_known first ms tt h.1.1
  part_known k (parts.Package n) h = tt
  part_known k (parts.Prefix n) h = tt
  part_known k (parts.StatIndex w) h = tt
  part_known k (parts.StartingOpcode w) h = tt
  part_known k (parts.Typedef d) h = tt
  part_known k (parts.Struct n ds) h = tt
  part_known k (parts.Union n t tn arms o) h = tt
  part_known k (parts.Proc n args kind o) h = tt

  pub given_known : (k : ℕ) (items : List Item) → AllKnown s (marks_from k items)
      → AllByRecursion (λ (c : ConstantDef). GivenKnown s.constants c.given) (constants_in items)
  given_known k [] h = tt
  given_known k (i ∷ is) h =
      all_both (λ (c : ConstantDef). GivenKnown s.constants c.given) (part_constants i.part) (constants_in is)
      (part_known k i.part (known_front s (part_marks k i.part) (marks_from (suc k) is) h))
      (given_known (suc k) is (known_rest s (part_marks k i.part) (marks_from (suc k) is) h))

  members_right : (other : Given) (ms : List MembItem) → AllRight s (flat_map member_marks ms)
      → AllByRecursion (λ (c : ConstantDef). (j : ℕ) → place_of c.name (constant_names s.constants) ≡ Some j
      → Leads (constant_ways s.constants) j j → ⊥) (members_from other ms)
  members_right other [] h = tt
  members_right other (m ∷ ms) h = (
    λ j at l. (right_front s (member_marks m) (flat_map member_marks ms) h).1.0 (j, at, ring l),
    members_right next ms (right_rest s (member_marks m) (flat_map member_marks ms) h),
  )

  part_right : (k : ℕ) (p : Part) → AllRight s (part_marks k p)
      → AllByRecursion (λ (c : ConstantDef). (j : ℕ) → place_of c.name (constant_names s.constants) ≡ Some j
      → Leads (constant_ways s.constants) j j → ⊥) (part_constants p)
  part_right k (parts.Const n w) h = (λ j at l. h.1.0 (j, at, ring l), tt)
  part_right k (parts.Enum n ms) h = members_right first ms h.1.1
  part_right k (parts.Package n) h = tt
  part_right k (parts.Prefix n) h = tt
  part_right k (parts.StatIndex w) h = tt
  part_right k (parts.StartingOpcode w) h = tt
  part_right k (parts.Typedef d) h = tt
  part_right k (parts.Struct n ds) h = tt
  part_right k (parts.Union n t tn arms o) h = tt
  part_right k (parts.Proc n args kind o) h = tt

  pub in_no_ring : (k : ℕ) (items : List Item) → AllRight s (marks_from k items)
      → AllByRecursion (λ (c : ConstantDef). (j : ℕ) → place_of c.name (constant_names s.constants) ≡ Some j
      → Leads (constant_ways s.constants) j j → ⊥) (constants_in items)
  in_no_ring k [] h = tt
  in_no_ring k (i ∷ is) h =
      all_both (λ (c : ConstantDef). (j : ℕ) → place_of c.name (constant_names s.constants) ≡ Some j
      → Leads (constant_ways s.constants) j j → ⊥) (part_constants i.part) (constants_in is)
      (part_right k i.part (right_front s (part_marks k i.part) (marks_from (suc k) is) h))
      (in_no_ring (suc k) is (right_rest s (part_marks k i.part) (marks_from (suc k) is) h))

-- the first constant of a text follows none
pub first_follows_none : (items : List Item) (c : ConstantDef) → slice_get (constants_in items) 0 ≡ Some c
    → c.given ≡ next → ⊥
first_follows_none [] c e is = absurd cc
first_follows_none (i ∷ is) c e follows = by_part i.part e (λ h. first_follows_none is c h follows)
  where
    given_first : (v : Option ConstWord) → given_or first v ≡ next → ⊥
    given_first None h = absurd cc
    given_first (Some w) h = absurd cc

    by_part : (p : Part) → slice_get (part_constants p ++ constants_in is) 0 ≡ Some c
        → (slice_get (constants_in is) 0 ≡ Some c → ⊥) → ⊥
    by_part (parts.Const n w) h more =
        let same : record { name = n; given = word w; is_member = false } ≡ c = cc in
        let gives : word w ≡ next = ap (λ (x : ConstantDef). x.given) same ∙ follows in
        absurd cc
    by_part (parts.Enum n []) h more = more h
    by_part (parts.Enum n (m ∷ ms)) h more =
        let same : record { name = m.name; given = given_or first m.value; is_member = true } ≡ c = cc in
        given_first m.value (ap (λ (x : ConstantDef). x.given) same ∙ follows)
    by_part (parts.Package n) h more = more h
    by_part (parts.Prefix n) h more = more h
    by_part (parts.StatIndex w) h more = more h
    by_part (parts.StartingOpcode w) h more = more h
    by_part (parts.Typedef d) h more = more h
    by_part (parts.Struct n ds) h more = more h
    by_part (parts.Union n t tn arms o) h more = more h
    by_part (parts.Proc n args kind o) h more = more h

-- ---- each word that is known has a value

first_step : (g : List (List ℕ)) (i j : ℕ) → Leads g i j → (k : ℕ) × Step g i k
first_step g i j (at_once a b s) = (j, s)
first_step g i j (through a m b s rest) = (m, s)

pub item_at : {A : Type 0} (xs : List A) (i : ℕ) → i < length xs → (x : A) × (slice_get xs i ≡ Some x)
item_at [] i h = absurd (omega (arith, h))
item_at (x ∷ xs) zero h = (x, refl)
item_at (x ∷ xs) (suc i) h = item_at xs i (omega (arith, h))

pub known_exists : (s : Scope) (items : List Item) → s.constants ≡ constants_in items
    → AllKnown s (marks_from 0 items) → AllRight s (marks_from 0 items)
    → IsDistinct bytes_eq (constant_names (constants_in items)) → (w : ConstWord)
    → is_unknown_constant s.constants w ≡ false → (z : ℤ) × (value_of s.constants w ≡ Some z)
known_exists s items is known right differ w here =
    word_exists s.constants none
    (λ i c at. all_at (λ (d : ConstantDef). GivenKnown s.constants d.given) (constants_in items) i c
    (given_known s 0 items known) (subst (λ (cs : List ConstantDef). slice_get cs i ≡ Some c) is at))
    (λ c at follows. first_follows_none items c (subst (λ (cs : List ConstantDef). slice_get cs 0 ≡ Some c) is at)
    follows)
    w here
  where
    none : (i : ℕ) → Leads (constant_ways s.constants) i i → ⊥
    none i l =
        let step = first_step (constant_ways s.constants) i i l in
        let lt : i < length s.constants =
        omega (
          arith,
          slice_get_within (constant_ways s.constants) i step.1.next step.1.from,
          length_ways s.constants 0 s.constants,
        ) in
        let c = item_at s.constants i lt in
        let at : slice_get (constants_in items) i ≡ Some c.0 =
        subst (λ (cs : List ConstantDef). slice_get cs i ≡ Some c.0) is c.1 in
        let named : slice_get (constant_names (constants_in items)) i ≡ Some c.0.name =
        slice_get-map (λ (d : ConstantDef). d.name) (constants_in items) i
        ∙ ap (option_map (λ (d : ConstantDef). d.name)) at in
        let place : place_of c.0.name (constant_names s.constants) ≡ Some i =
        subst (λ (cs : List ConstantDef). place_of c.0.name (constant_names cs) ≡ Some i) (sym is)
        (place_at (constant_names (constants_in items)) i c.0.name differ named) in
        all_at (λ (d : ConstantDef). (j : ℕ) → place_of d.name (constant_names s.constants) ≡ Some j
        → Leads (constant_ways s.constants) j j → ⊥) (constants_in items) i c.0
        (in_no_ring s 0 items right) at i place l

-- ---- members

pub wider : (z : ℤ) → is_within (2 ^ 31) z ≡ true → is_within (2 ^ 63) z ≡ true
wider (pos m) h = lt-ltb m (2 ^ 63) (omega (arith, ltb-true m (2 ^ 31) h))
wider (negsuc m) h = lt-ltb m (2 ^ 63) (omega (arith, ltb-true m (2 ^ 31) h))

-- each member that has a value has one of int
pub members_int : (s : Scope) (ms : List MembItem) → AllRight s (flat_map member_marks ms)
    → AllByRecursion (λ (m : MembItem). (z : ℤ) → value_named s.constants m.name ≡ Some z
    → is_within (2 ^ 31) z ≡ true) ms
members_int s [] h = tt
members_int s (m ∷ ms) h = (
  λ z e. by_place (place_of m.name (constant_names s.constants)) refl
      (right_front s (member_marks m) (flat_map member_marks ms) h).1.0 z e,
  members_int s ms (right_rest s (member_marks m) (flat_map member_marks ms) h),
)
  where
    no_not : (b : Bool) → (not b ≡ true → ⊥) → b ≡ true
    no_not true f = refl
    no_not false f = absurd (f refl)

    by_place : (o : Option ℕ) → place_of m.name (constant_names s.constants) ≡ o
        → ((i : ℕ) × (place_of m.name (constant_names s.constants) ≡ Some i) × IsConstantWrong s.constants i true → ⊥)
        → (z : ℤ) → option_and_then (value_at s.constants) (place_of m.name (constant_names s.constants)) ≡ Some z
        → is_within (2 ^ 31) z ≡ true
    by_place None at right z e =
        let none : None ≡ Some z = sym (ap (option_and_then (value_at s.constants)) at) ∙ e in absurd cc
    by_place (Some i) at right z e =
        let has : value_at s.constants i ≡ Some z = sym (ap (option_and_then (value_at s.constants)) at) ∙ e in
        no_not (is_within (2 ^ 31) z) (λ t. right (i, at, no_int (ap (λ (o : Option ℤ). is_no_int o) has ∙ t)))
