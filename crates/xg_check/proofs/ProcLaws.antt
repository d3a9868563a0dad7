-- Procedures of a text differ by their names and their opcodes.
use Rattle.std.proofs.Common.{◌≡◌, ℕ, ℤ, suc, ◌<◌, false, nat_eq, List, [], ◌∷◌, ◌++◌, length, map, flat_map, slice_get}
use Rattle.std.proofs.Common.{Option, Some, None, unwrap_or, option_and_then, refl, sym, ap, subst, ◌∙◌, arith}
use Rattle.std.specs.Str.{bytes_eq}
use Rattle.std.specs.List.{AllByRecursion, IsDistinct}
use Rattle.std.proofs.lemmas.Bool.{false_from_ne_true}
use Rattle.std.proofs.lemmas.Bool.Decides.{Decides-eqb}
use Rattle.std.proofs.lemmas.Option.{slice_get_within}
use Rattle.xdr_value.specs.Data.{Param, Procedure}
use Rattle.xdr_value.specs.declared.def.Mode.{Mode}
use Rattle.xg_parse.specs.declared.tree.ArgItem.{ArgItem}
use Rattle.xg_parse.specs.declared.tree.Part.{Part}
use Rattle.xg_parse.specs.declared.tree.Part.TheVariants as parts
use Rattle.xg_parse.specs.declared.tree.Item.{Item}
use Rattle.xg_check.specs.declared.marks.Space.TheVariants as spaces
use Rattle.xg_check.specs.Constants.{ConstantDef, in_32_bits}
use Rattle.xg_check.specs.Marks.{member_marks, field_marks, arg_marks, optional_constant, part_marks, marks_from}
use Rattle.xg_check.specs.Opcodes.{opcode_behind, with_opcode, opcodes_behind}
use Rattle.xg_check.specs.Judged.{opcode_at, IsWithoutOpcode, IsOpcodeTwice, IsTwice}
use Rattle.xg_check.specs.Meant.{mode_behind, args_meant, with_proc, procs_behind}
use Rattle.xg_check.proofs.ApartLaws.{apart, distinct_in, declared_in, declared_both, none_of, no_constant, of_decl}
use Rattle.xg_check.proofs.ApartLaws.{of_arms}

-- ---- opcodes

abbrev pub number_of : List ℕ × Option ℤ → ℕ
number_of p = unwrap_or (in_32_bits p.1) 0

pub numbers_meant : (cs : List ConstantDef) (front : List Part) (items : List Item)
    → map (λ (p : Procedure). p.opcode) (procs_behind cs front items) ≡ map number_of (opcodes_behind cs front items)
numbers_meant cs front [] = refl
numbers_meant cs front (i ∷ is) = by_part i.part (numbers_meant cs (i.part ∷ front) is)
  where
    by_part : (p : Part)
        → map (λ (q : Procedure). q.opcode) (procs_behind cs (i.part ∷ front) is)
        ≡ map number_of (opcodes_behind cs (i.part ∷ front) is)
        → map (λ (q : Procedure). q.opcode) (with_proc cs front p (procs_behind cs (i.part ∷ front) is))
        ≡ map number_of (with_opcode cs front p (opcodes_behind cs (i.part ∷ front) is))
    by_part (parts.Proc n args k o) rest = ap (λ (ns : List ℕ). number_of (n, opcode_behind cs front o) ∷ ns) rest
    by_part (parts.Package n) rest = rest
    by_part (parts.Prefix n) rest = rest
    by_part (parts.StatIndex w) rest = rest
    by_part (parts.StartingOpcode w) rest = rest
    by_part (parts.Const n w) rest = rest
    by_part (parts.Typedef d) rest = rest
    by_part (parts.Enum n ms) rest = rest
    by_part (parts.Struct n ds) rest = rest
    by_part (parts.Union n t tn arms o) rest = rest

has_opcode : (ops : List (List ℕ × Option ℤ)) (k : ℕ) (p : List ℕ × Option ℤ) → slice_get ops k ≡ Some p
    → k < length ops
    → (IsWithoutOpcode ops k → ⊥) → (n : ℕ) × (in_32_bits p.1 ≡ Some n)
has_opcode ops k p at lt h = by_number (in_32_bits p.1) refl
  where
    here : opcode_at ops k ≡ in_32_bits p.1
    here = ap (option_and_then (λ (q : List ℕ × Option ℤ). in_32_bits q.1)) at

    by_number : (o : Option ℕ) → in_32_bits p.1 ≡ o → (n : ℕ) × (in_32_bits p.1 ≡ Some n)
    by_number None e = absurd (h (record { there = lt; none = here ∙ e }))
    by_number (Some n) e = (n, e)

numbers_apart : (p : List ℕ × Option ℤ) (ops : List (List ℕ × Option ℤ))
    → ((j : ℕ) (q : List ℕ × Option ℤ) → slice_get ops j ≡ Some q → nat_eq (number_of p) (number_of q) ≡ false)
    → AllByRecursion (λ y. nat_eq (number_of p) y ≡ false) (map number_of ops)
numbers_apart p [] h = tt
numbers_apart p (q ∷ ops) h = (h 0 q refl, numbers_apart p ops (λ j r e. h (suc j) r e))

pub numbers_differ : (ops : List (List ℕ × Option ℤ)) → ((k : ℕ) → IsWithoutOpcode ops k → ⊥)
    → ((k : ℕ) → IsOpcodeTwice ops k → ⊥) → IsDistinct nat_eq (map number_of ops)
unfolding IsDistinct
numbers_differ [] has once = tt
numbers_differ (p ∷ ops) has once = (
  numbers_apart p ops (λ j q e. first_differs p ops j q e has once),
  numbers_differ ops
      (λ k h. has (suc k) (record { there = omega (arith, h.there); none = h.none }))
      (λ k h. once (suc k) (record {
        opcode = h.opcode;
        has = h.has;
        earlier = suc h.earlier;
        before = omega (arith, h.before);
        had = h.had;
      })),
)
  where
    first_differs : (p : List ℕ × Option ℤ) (ops : List (List ℕ × Option ℤ)) (j : ℕ) (q : List ℕ × Option ℤ)
        → slice_get ops j ≡ Some q → ((k : ℕ) → IsWithoutOpcode (p ∷ ops) k → ⊥)
        → ((k : ℕ) → IsOpcodeTwice (p ∷ ops) k → ⊥) → nat_eq (number_of p) (number_of q) ≡ false
    first_differs p ops j q e has once = false_from_ne_true (nat_eq (number_of p) (number_of q)) (λ t.
        let lt : j < length ops = slice_get_within ops j q e in
        let a = has_opcode (p ∷ ops) 0 p refl (omega (arith, lt)) (has 0) in
        let b = has_opcode (p ∷ ops) (suc j) q e (omega (arith, lt)) (has (suc j)) in
        let same : number_of p ≡ number_of q = (Decides-eqb (number_of p) (number_of q)).0 t in
        let a_is : number_of p ≡ a.0 = ap (λ (o : Option ℕ). unwrap_or o 0) a.1 in
        let b_is : number_of q ≡ b.0 = ap (λ (o : Option ℕ). unwrap_or o 0) b.1 in
        let nums : a.0 ≡ b.0 = sym a_is ∙ (same ∙ b_is) in
        let at_q : opcode_at (p ∷ ops) (suc j) ≡ in_32_bits q.1 =
        ap (option_and_then (λ (r : List ℕ × Option ℤ). in_32_bits r.1)) e in
        once (suc j) (record {
          opcode = b.0;
          has = at_q ∙ b.1;
          earlier = 0;
          before = omega arith;
          had = a.1 ∙ ap Some nums;
        }))

-- ---- names

-- the names of procedures are those that are declared as such
pub of_procs : (cs : List ConstantDef) (k : ℕ) (front : List Part) (items : List Item)
    → declared_in spaces.Procedure (marks_from k items) ≡ map (λ (p : Procedure). p.name) (procs_behind cs front items)
of_procs cs k front [] = refl
of_procs cs k front (i ∷ is) =
    declared_both spaces.Procedure (part_marks k i.part) (marks_from (suc k) is)
    ∙ by_part i.part (of_procs cs (suc k) (i.part ∷ front) is)
  where
    by_part : (p : Part)
        → declared_in spaces.Procedure (marks_from (suc k) is)
        ≡ map (λ (q : Procedure). q.name) (procs_behind cs (i.part ∷ front) is)
        → declared_in spaces.Procedure (part_marks k p) ++ declared_in spaces.Procedure (marks_from (suc k) is)
        ≡ map (λ (q : Procedure). q.name) (with_proc cs front p (procs_behind cs (i.part ∷ front) is))
    by_part (parts.Proc n args kind o) rest =
        ap (λ (ns : List (List ℕ)). (n ∷ ns) ++ declared_in spaces.Procedure (marks_from (suc k) is))
        (declared_both spaces.Procedure (flat_map (arg_marks k) args) (optional_constant o)
        ∙ ap (λ (ns : List (List ℕ)). ns ++ declared_in spaces.Procedure (optional_constant o))
        (none_of spaces.Procedure (arg_marks k) args (λ a. of_decl spaces.Procedure (Some (spaces.List k)) a.decl))
        ∙ no_constant spaces.Procedure o)
        ∙ ap (λ (ns : List (List ℕ)). n ∷ ns) rest
    by_part (parts.Package n) rest = rest
    by_part (parts.Prefix n) rest = rest
    by_part (parts.StatIndex w) rest = rest
    by_part (parts.StartingOpcode w) rest = rest
    by_part (parts.Const n w) rest = rest
    by_part (parts.Typedef d) rest =
        ap (λ (ns : List (List ℕ)). ns ++ declared_in spaces.Procedure (marks_from (suc k) is))
        (of_decl spaces.Procedure (Some spaces.Type) d) ∙ rest
    by_part (parts.Enum n ms) rest =
        ap (λ (ns : List (List ℕ)). ns ++ declared_in spaces.Procedure (marks_from (suc k) is))
        (none_of spaces.Procedure member_marks ms (λ m. no_constant spaces.Procedure m.value)) ∙ rest
    by_part (parts.Struct n ds) rest =
        ap (λ (ns : List (List ℕ)). ns ++ declared_in spaces.Procedure (marks_from (suc k) is))
        (none_of spaces.Procedure (field_marks k) ds
        (λ d. of_decl spaces.Procedure (Some (spaces.List k)) d)) ∙ rest
    by_part (parts.Union n t tn arms o) rest =
        ap (λ (ns : List (List ℕ)). ns ++ declared_in spaces.Procedure (marks_from (suc k) is))
        (of_arms spaces.Procedure k n t arms o) ∙ rest

pub procs_differ : (cs : List ConstantDef) (items : List Item) → ((k : ℕ) → IsTwice cs (marks_from 0 items) k → ⊥)
    → IsDistinct bytes_eq (map (λ (p : Procedure). p.name) (procs_behind cs [] items))
procs_differ cs items h =
    subst (IsDistinct bytes_eq) (of_procs cs 0 [] items)
    (distinct_in cs spaces.Procedure (marks_from 0 items) (apart cs (marks_from 0 items) h))

pub arg_names : (cs : List ConstantDef) (before : Mode) (args : List ArgItem)
    → map (λ (a : Param). a.name) (args_meant cs before args) ≡ map (λ (a : ArgItem). a.decl.name) args
arg_names cs before [] = refl
arg_names cs before (a ∷ args) =
    ap (λ (ns : List (List ℕ)). a.decl.name ∷ ns) (arg_names cs (mode_behind before a.mode) args)
