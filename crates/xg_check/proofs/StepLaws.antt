-- Procedures with their opcodes, one item more.
use Rattle.std.proofs.Common.{◌≡◌, ℕ, ℤ, zero, suc, ◌+◌, ◌<◌, ◌≤◌, List, [], ◌∷◌, ◌++◌, length, drop, get_or, map}
use Rattle.std.proofs.Common.{slice_get, Option, Some, refl, sym, ap, subst, ◌∙◌, arith, append_assoc}
use Rattle.std.proofs.lemmas.List.{at_drop_more, at_drop_all}
use Rattle.xdr_value.specs.Data.{Procs}
use Rattle.xg_parse.specs.declared.tree.Part.{Part}
use Rattle.xg_parse.specs.declared.tree.Part.TheVariants as parts
use Rattle.xg_parse.specs.declared.tree.Item.{Item}
use Rattle.xg_check.specs.Constants.{ConstantDef}
use Rattle.xg_check.specs.Opcodes.{opcode_behind, with_opcode, opcodes_behind}
use Rattle.xg_check.specs.Meant.{with_proc, procs_behind, proc_meant}
use Rattle.xg_check.specs.Counting.{part_proc}
use Rattle.xg_check.specs.Held.{flat}
use Rattle.xg_check.proofs.CountLaws.{nothing_behind}

abbrev pub Ops : Type 0
Ops = List (List ℕ × Option ℤ)

abbrev pub seconds : Ops → List (Option ℤ)
seconds ops = map (λ (p : List ℕ × Option ℤ). p.1) ops

head_dropped : {A : Type 0} (xs ys : List A) (n : ℕ) (y : A) → drop n xs ≡ y ∷ ys → slice_get xs n ≡ Some y
head_dropped [] ys zero y e = absurd cc
head_dropped [] ys (suc n) y e = absurd cc
head_dropped (x ∷ xs) ys zero y e = cc
head_dropped (x ∷ xs) ys (suc n) y e = head_dropped xs ys n y e

rest_dropped : {A : Type 0} (xs ys : List A) (n : ℕ) (y : A) → drop n xs ≡ y ∷ ys → drop (suc n) xs ≡ ys
rest_dropped [] ys zero y e = absurd cc
rest_dropped [] ys (suc n) y e = absurd cc
rest_dropped (x ∷ xs) ys zero y e = cc
rest_dropped (x ∷ xs) ys (suc n) y e = rest_dropped xs ys n y e

module _ (cs : List ConstantDef) (front : List Part) (list : List (Option ℤ)) (n : ℕ) (opcode : Option ℤ)
    (is : opcode ≡ flat (slice_get list n)) where
  part_procs : (p : Part) (rest : Ops) (others : Procs) → drop n list ≡ seconds (with_opcode cs front p rest)
      → with_proc cs front p others ≡ part_proc cs opcode p ++ others
  part_procs (parts.Package m) rest others e = refl
  part_procs (parts.Prefix m) rest others e = refl
  part_procs (parts.StatIndex w) rest others e = refl
  part_procs (parts.StartingOpcode w) rest others e = refl
  part_procs (parts.Const m w) rest others e = refl
  part_procs (parts.Typedef d) rest others e = refl
  part_procs (parts.Enum m ms) rest others e = refl
  part_procs (parts.Struct m ds) rest others e = refl
  part_procs (parts.Union m t tn arms o) rest others e = refl
  part_procs (parts.Proc m args k o) rest others e =
      let here : opcode ≡ opcode_behind cs front o =
      is ∙ ap flat (head_dropped list (seconds rest) n (opcode_behind cs front o) e) in
      ap (λ (v : Option ℤ). proc_meant cs v m args k ∷ others) (sym here)

  none_left : (rest : Ops) (count : ℕ) → count ≡ 0 → drop n list ≡ seconds rest → drop (n + count) list ≡ seconds rest
  none_left rest count c e =
      let same : n ≡ n + count = omega (arith, c) in subst (λ (k : ℕ). drop k list ≡ seconds rest) same e

  part_left : (p : Part) (rest : Ops) (count : ℕ) → count ≡ length (part_proc cs opcode p)
      → drop n list ≡ seconds (with_opcode cs front p rest) → drop (n + count) list ≡ seconds rest
  part_left (parts.Package m) rest count c e = none_left rest count c e
  part_left (parts.Prefix m) rest count c e = none_left rest count c e
  part_left (parts.StatIndex w) rest count c e = none_left rest count c e
  part_left (parts.StartingOpcode w) rest count c e = none_left rest count c e
  part_left (parts.Const m w) rest count c e = none_left rest count c e
  part_left (parts.Typedef d) rest count c e = none_left rest count c e
  part_left (parts.Enum m ms) rest count c e = none_left rest count c e
  part_left (parts.Struct m ds) rest count c e = none_left rest count c e
  part_left (parts.Union m t tn arms o) rest count c e = none_left rest count c e
  part_left (parts.Proc m args k o) rest count c e =
      let one : suc n ≡ n + count = omega (arith, c) in
      subst (λ (j : ℕ). drop j list ≡ seconds rest) one
      (rest_dropped list (seconds rest) n (opcode_behind cs front o) e)

  module _ (items : List Item) (i : ℕ) (d : Item) (lt : i < length items) (at : d ≡ get_or items i d)
      (left : drop n list ≡ seconds (opcodes_behind cs front (drop i items))) where
    here_opcodes : drop n list ≡ seconds
        (with_opcode cs front d.part (opcodes_behind cs (d.part ∷ front) (drop (i + 1) items)))
    here_opcodes = left ∙ ap seconds (at_drop_more (opcodes_behind cs front) items i d lt
        ∙ ap (λ (x : Item). with_opcode cs front x.part (opcodes_behind cs (x.part ∷ front) (drop (i + 1) items)))
        (sym at))

    pub procs_more : (was new total : Procs) → was ++ procs_behind cs front (drop i items) ≡ total
        → new ≡ was ++ part_proc cs opcode d.part
        → new ++ procs_behind cs (d.part ∷ front) (drop (i + 1) items) ≡ total
    procs_more was new total e made =
        let others = procs_behind cs (d.part ∷ front) (drop (i + 1) items) in
        let here : procs_behind cs front (drop i items) ≡ part_proc cs opcode d.part ++ others =
        at_drop_more (procs_behind cs front) items i d lt
        ∙ ap (λ (x : Item). with_proc cs front x.part (procs_behind cs (x.part ∷ front) (drop (i + 1) items))) (sym at)
        ∙ part_procs d.part (opcodes_behind cs (d.part ∷ front) (drop (i + 1) items)) others here_opcodes in
        ap (λ (ps : Procs). ps ++ others) made ∙ append_assoc was (part_proc cs opcode d.part) others
        ∙ ap (λ (ps : Procs). was ++ ps) (sym here) ∙ e

    pub left_more : (m : ℕ) → m ≡ n + length (part_proc cs opcode d.part)
        → drop m list ≡ seconds (opcodes_behind cs (d.part ∷ front) (drop (i + 1) items))
    left_more m e = subst (λ (k : ℕ). drop k list ≡ seconds (opcodes_behind cs (d.part ∷ front) (drop (i + 1) items)))
        (sym e)
        (part_left d.part (opcodes_behind cs (d.part ∷ front) (drop (i + 1) items))
        (length (part_proc cs opcode d.part))
        refl here_opcodes)

-- all items
pub procs_last : (cs : List ConstantDef) (front : List Part) (items : List Item) (i : ℕ) (procs total : Procs)
    → length items ≤ i → procs ++ procs_behind cs front (drop i items) ≡ total → procs ≡ total
procs_last cs front items i procs total le e =
    sym (ap (λ (ps : Procs). procs ++ ps) (at_drop_all (procs_behind cs front) items i le) ∙ nothing_behind procs) ∙ e
