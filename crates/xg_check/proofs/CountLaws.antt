-- Opcodes counted one procedure at a time, and procedures with their names.
use Rattle.std.proofs.Common.{◌≡◌, ℕ, ℤ, zero, suc, ◌+◌, ◌-◌, ◌<◌, ◌≤◌, ◌<ℤ◌, ◌+ℤ◌, pos, Bool, true, false, List, []}
use Rattle.std.proofs.Common.{◌∷◌, ◌++◌, length, drop, get_or, map, slice_get, Option, Some, None, IfSome}
use Rattle.std.proofs.Common.{refl, sym, ap, ◌∙◌, arith, append_assoc}
use Rattle.std.proofs.lemmas.List.{at_drop_more, at_drop_all}
use Rattle.std.proofs.lemmas.Int.{ints}
use Rattle.xg_parse.specs.declared.tree.ConstWord.{ConstWord}
use Rattle.xg_parse.specs.declared.tree.ArgItem.{ArgItem}
use Rattle.xg_parse.specs.declared.tree.KindWord.{KindWord}
use Rattle.xg_parse.specs.declared.tree.Part.{Part}
use Rattle.xg_parse.specs.declared.tree.Part.TheVariants as parts
use Rattle.xg_parse.specs.declared.tree.Item.{Item}
use Rattle.xg_check.specs.declared.opcodes.Count.{Count}
use Rattle.xg_check.specs.Constants.{ConstantDef, value_of}
use Rattle.xg_check.specs.Opcodes.{last_start, none_counted, last_opcode, counted_from, opcode_behind, with_opcode}
use Rattle.xg_check.specs.Opcodes.{opcodes_behind}
use Rattle.xg_check.specs.Counts.{counted_next, count_given, count_counted, count_from, count_behind}
use Rattle.xg_check.specs.Counts.{part_opcode, count_part, part_proc_name}

-- ---- what the next opcode is counted from

module _ (cs : List ConstantDef) where
  next_from : (s : Option ConstWord) (first : Bool) (last : Option ℤ)
      → counted_next (count_from cs s first last) ≡ counted_from cs s first last
  next_from None first last = refl
  next_from (Some w) true last = refl
  next_from (Some w) false last = refl

  -- the opcode of a procedure that gives none
  pub next_is : (front : List Part) (count : Count) → count ≡ count_behind cs front
      → counted_next count ≡ opcode_behind cs front None
  next_is front count e =
      ap counted_next e ∙ next_from (last_start front) (none_counted front) (last_opcode cs front)

  given_from : (s : Option ConstWord) (first : Bool) (last v : Option ℤ)
      → count_given (count_from cs s first last) v ≡ count_from cs s first v
  given_from None first last v = refl
  given_from (Some w) true last v = refl
  given_from (Some w) false last v = refl

  pub given_is : (front : List Part) (count : Count) (name : List ℕ) (args : List ArgItem) (kind : Option KindWord)
      (w : ConstWord) → count ≡ count_behind cs front
      → count_given count (value_of cs w) ≡ count_behind cs (parts.Proc name args kind (Some w) ∷ front)
  given_is front count name args kind w e =
      ap (λ (c : Count). count_given c (value_of cs w)) e
      ∙ given_from (last_start front) (none_counted front) (last_opcode cs front) (value_of cs w)

  counted_behind : (s : Option ConstWord) (first : Bool) (last : Option ℤ)
      → count_counted (count_from cs s first last) ≡ count_from cs s false (counted_from cs s first last)
  counted_behind None first last = refl
  counted_behind (Some w) true last = refl
  counted_behind (Some w) false last = refl

  pub counted_is : (front : List Part) (count : Count) (name : List ℕ) (args : List ArgItem) (kind : Option KindWord)
      → count ≡ count_behind cs front → count_counted count ≡ count_behind cs (parts.Proc name args kind None ∷ front)
  counted_is front count name args kind e =
      ap count_counted e ∙ counted_behind (last_start front) (none_counted front) (last_opcode cs front)

  -- ---- opcodes, one item more

  pub opcodes_more : (front : List Part) (items : List Item) (i : ℕ) (d : Item) → i < length items
      → opcodes_behind cs front (drop i items)
      ≡ with_opcode cs front (get_or items i d).part
      (opcodes_behind cs ((get_or items i d).part ∷ front) (drop (i + 1) items))
  opcodes_more front items i d lt = at_drop_more (opcodes_behind cs front) items i d lt

  pub part_counted : (front : List Part) (count : Count) (p : Part) → count ≡ count_behind cs front
      → count_part cs count p ≡ count_behind cs (p ∷ front)
  part_counted front count (parts.Package n) e = e
  part_counted front count (parts.Prefix n) e = e
  part_counted front count (parts.StatIndex w) e = e
  part_counted front count (parts.StartingOpcode w) e = refl
  part_counted front count (parts.Const n w) e = e
  part_counted front count (parts.Typedef d) e = e
  part_counted front count (parts.Enum n ms) e = e
  part_counted front count (parts.Struct n ds) e = e
  part_counted front count (parts.Union n t tn arms o) e = e
  part_counted front count (parts.Proc n args k (Some w)) e = given_is front count n args k w e
  part_counted front count (parts.Proc n args k None) e = counted_is front count n args k e

  pub part_opcodes : (front : List Part) (count : Count) (p : Part) (rest : List (List ℕ × Option ℤ))
      → count ≡ count_behind cs front
      → map (λ (q : List ℕ × Option ℤ). q.1) (with_opcode cs front p rest)
      ≡ part_opcode cs count p ++ map (λ (q : List ℕ × Option ℤ). q.1) rest
  part_opcodes front count (parts.Package n) rest e = refl
  part_opcodes front count (parts.Prefix n) rest e = refl
  part_opcodes front count (parts.StatIndex w) rest e = refl
  part_opcodes front count (parts.StartingOpcode w) rest e = refl
  part_opcodes front count (parts.Const n w) rest e = refl
  part_opcodes front count (parts.Typedef d) rest e = refl
  part_opcodes front count (parts.Enum n ms) rest e = refl
  part_opcodes front count (parts.Struct n ds) rest e = refl
  part_opcodes front count (parts.Union n t tn arms o) rest e = refl
  part_opcodes front count (parts.Proc n args k (Some w)) rest e = refl
  part_opcodes front count (parts.Proc n args k None) rest e =
      ap (λ (v : Option ℤ). v ∷ map (λ (q : List ℕ × Option ℤ). q.1) rest) (sym (next_is front count e))

  -- an item more
  pub list_more : (front : List Part) (count : Count) (items : List Item) (i : ℕ) (d : Item)
      (list new total : List (Option ℤ))
      → i < length items → d ≡ get_or items i d → count ≡ count_behind cs front
      → list ++ map (λ (q : List ℕ × Option ℤ). q.1) (opcodes_behind cs front (drop i items)) ≡ total
      → new ≡ list ++ part_opcode cs count d.part
      → new ++ map (λ (q : List ℕ × Option ℤ). q.1) (opcodes_behind cs (d.part ∷ front) (drop (i + 1) items)) ≡ total
  list_more front count items i d list new total lt is e was made =
      let rest = opcodes_behind cs (d.part ∷ front) (drop (i + 1) items) in
      let seconds : List (List ℕ × Option ℤ) → List (Option ℤ) = λ ops. map (λ (q : List ℕ × Option ℤ). q.1) ops in
      let here : opcodes_behind cs front (drop i items) ≡ with_opcode cs front d.part rest =
      opcodes_more front items i d lt
      ∙ ap (λ (x : Item). with_opcode cs front x.part (opcodes_behind cs (x.part ∷ front) (drop (i + 1) items)))
      (sym is) in
      ap (λ (xs : List (Option ℤ)). xs ++ seconds rest) made
      ∙ append_assoc list (part_opcode cs count d.part) (seconds rest)
      ∙ ap (λ (xs : List (Option ℤ)). list ++ xs) (sym (part_opcodes front count d.part rest e))
      ∙ ap (λ (ops : List (List ℕ × Option ℤ)). list ++ seconds ops) (sym here) ∙ was

pub nothing_behind : {A : Type 0} (xs : List A) → xs ++ [] ≡ xs
nothing_behind [] = refl
nothing_behind {A} (x ∷ xs) = ap (λ (ys : List A). x ∷ ys) (nothing_behind xs)

-- all items
pub list_last : (cs : List ConstantDef) (front : List Part) (items : List Item) (i : ℕ) (list total : List (Option ℤ))
    → length items ≤ i
    → list ++ map (λ (q : List ℕ × Option ℤ). q.1) (opcodes_behind cs front (drop i items)) ≡ total → list ≡ total
list_last cs front items i list total le e =
    sym (ap (λ (ops : List (List ℕ × Option ℤ)). list ++ map (λ (q : List ℕ × Option ℤ). q.1) ops)
    (at_drop_all (opcodes_behind cs front) items i le) ∙ nothing_behind list) ∙ e

-- ---- bounds

pub higher : (m n : ℕ) (o : Option ℤ) → m < n + 1 → IfSome o (λ z. z <ℤ pos m) → IfSome o (λ z. z <ℤ pos n)
higher m n None lt h = h
higher m n (Some z) lt h = omega (arith, ints, h, lt)

-- ---- names of procedures

abbrev pub named : Option (List ℕ) → List (List ℕ) → List (List ℕ)
named None ns = ns
named (Some n) ns = n ∷ ns

abbrev pub proc_names : List Item → List (List ℕ)
proc_names [] = []
proc_names (i ∷ is) = named (part_proc_name i.part) (proc_names is)

pub names_of_opcodes : (cs : List ConstantDef) (front : List Part) (items : List Item)
    → map (λ (p : List ℕ × Option ℤ). p.0) (opcodes_behind cs front items) ≡ proc_names items
names_of_opcodes cs front [] = refl
names_of_opcodes cs front (i ∷ is) = by_part i.part (names_of_opcodes cs (i.part ∷ front) is)
  where
    by_part : (p : Part)
        → map (λ (q : List ℕ × Option ℤ). q.0) (opcodes_behind cs (i.part ∷ front) is) ≡ proc_names is
        → map (λ (q : List ℕ × Option ℤ). q.0) (with_opcode cs front p (opcodes_behind cs (i.part ∷ front) is))
        ≡ named (part_proc_name p) (proc_names is)
    by_part (parts.Proc n args k o) rest = ap (λ (ns : List (List ℕ)). n ∷ ns) rest
    by_part (parts.Package n) rest = rest
    by_part (parts.Prefix n) rest = rest
    by_part (parts.StatIndex w) rest = rest
    by_part (parts.StartingOpcode w) rest = rest
    by_part (parts.Const n w) rest = rest
    by_part (parts.Typedef d) rest = rest
    by_part (parts.Enum n ms) rest = rest
    by_part (parts.Struct n ds) rest = rest
    by_part (parts.Union n t tn arms o) rest = rest

-- an item more
pub names_more : (items : List Item) (i : ℕ) (d : Item) → i < length items → d ≡ get_or items i d
    → proc_names (drop i items) ≡ named (part_proc_name d.part) (proc_names (drop (i + 1) items))
names_more items i d lt is =
    at_drop_more proc_names items i d lt
    ∙ ap (λ (x : Item). named (part_proc_name x.part) (proc_names (drop (i + 1) items))) (sym is)

pub name_none : (items : List Item) (i : ℕ) (d : Item) (k : ℕ) → i < length items → d ≡ get_or items i d
    → None ≡ part_proc_name d.part
    → slice_get (proc_names (drop (i + 1) items)) k ≡ slice_get (proc_names (drop i items)) k
name_none items i d k lt is e =
    ap (λ (o : Option (List ℕ)). slice_get (named o (proc_names (drop (i + 1) items))) k) e
    ∙ ap (λ (ns : List (List ℕ)). slice_get ns k) (sym (names_more items i d lt is))

later : (n : List ℕ) (ns : List (List ℕ)) (k : ℕ) → (k ≡ 0 → ⊥) → slice_get ns (k - 1) ≡ slice_get (n ∷ ns) k
later n ns zero ne = absurd (ne refl)
later n ns (suc k) ne = let e : suc k - 1 ≡ k = omega arith in ap (slice_get ns) e

pub name_later : (items : List Item) (i : ℕ) (d : Item) (n : List ℕ) (k : ℕ) → i < length items → d ≡ get_or items i d
    → Some n ≡ part_proc_name d.part → (k ≡ 0 → ⊥)
    → slice_get (proc_names (drop (i + 1) items)) (k - 1) ≡ slice_get (proc_names (drop i items)) k
name_later items i d n k lt is e ne =
    later n (proc_names (drop (i + 1) items)) k ne
    ∙ ap (λ (o : Option (List ℕ)). slice_get (named o (proc_names (drop (i + 1) items))) k) e
    ∙ ap (λ (ns : List (List ℕ)). slice_get ns k) (sym (names_more items i d lt is))

pub name_here : (items : List Item) (i : ℕ) (d : Item) (n : List ℕ) (k : ℕ) → i < length items → d ≡ get_or items i d
    → Some n ≡ part_proc_name d.part → k ≡ 0 → Some n ≡ slice_get (proc_names (drop i items)) k
name_here items i d n k lt is e zero_is =
    ap (λ (o : Option (List ℕ)). slice_get (named o (proc_names (drop (i + 1) items))) 0) e
    ∙ ap (λ (ns : List (List ℕ)). slice_get ns 0) (sym (names_more items i d lt is))
    ∙ ap (slice_get (proc_names (drop i items))) (sym zero_is)

pub name_nowhere : (items : List Item) (i k : ℕ) → length items ≤ i → None ≡ slice_get (proc_names (drop i items)) k
name_nowhere items i k le = ap (λ (ns : List (List ℕ)). slice_get ns k) (sym (at_drop_all proc_names items i le))
