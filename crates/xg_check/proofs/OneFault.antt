-- A text has one meaning, or one first fault.
use Rattle.std.proofs.Common.{◌≡◌, ◌≢◌, ℕ, ℤ, List, Option, Some, slice_get, Result, Ok, Err, IfOk, IfErr, IsOkAnd}
use Rattle.std.proofs.Common.{refl, sym, ap, subst, ◌∙◌}
use Rattle.xdr_value.specs.declared.interface.Interface.{Interface}
use Rattle.xg_parse.specs.declared.tree.Tree.{Tree}
use Rattle.xg_check.specs.declared.fault.CheckFault.{CheckFault}
use Rattle.xg_check.specs.declared.fault.CheckFault.TheVariants as faults
use Rattle.xg_check.specs.Marks.{mark_name}
use Rattle.xg_check.specs.Judged.{opcode_at}
use Rattle.xg_check.specs.Meaning.{Meant, interface_of, marks_of, opcodes_of, TwiceAt, UnknownAt, SizeAt, EndlessAt}
use Rattle.xg_check.specs.Meaning.{OpcodeAt, OpcodeTwiceAt, MarkNamed, IsFirstFault, Meaning}
use Rattle.xg_check.specs.Answers.{IsChecked}
use Rattle.xg_check.proofs.PlaceLaws.{one_first}
use Rattle.xg_check.proofs.OrderLaws.{the_same}

mark_names : (tree : Tree) (j k : ℕ) (m n : List ℕ) → j ≡ k → MarkNamed tree j m → MarkNamed tree k n → m ≡ n
mark_names tree j k m n e a b =
    let at : slice_get (marks_of tree) k ≡ Some a.0 = subst (λ (i : ℕ). slice_get (marks_of tree) i ≡ Some a.0) e a.1 in
    let same : a.0 ≡ b.0 = the_same (slice_get (marks_of tree) k) a.0 b.0 at b.1 in
    a.2 ∙ ap mark_name same ∙ sym b.2

at_one_place : {A : Type 0} (xs : List A) (j k : ℕ) (m n : A) → j ≡ k → slice_get xs j ≡ Some m
    → slice_get xs k ≡ Some n
    → m ≡ n
at_one_place {A} xs j k m n e a b =
    the_same (slice_get xs k) m n (subst (λ (i : ℕ). slice_get xs i ≡ Some m) e a) b

opcodes_at : (ops : List (List ℕ × Option ℤ)) (j k m n : ℕ) → j ≡ k → opcode_at ops j ≡ Some m
    → opcode_at ops k ≡ Some n → m ≡ n
opcodes_at ops j k m n e a b =
    the_same (opcode_at ops k) m n (subst (λ (i : ℕ). opcode_at ops i ≡ Some m) e a) b

pub one_fault : (tree : Tree) (f g : CheckFault) → IsFirstFault tree f → IsFirstFault tree g → f ≡ g
one_fault tree (faults.Twice m) (faults.Twice n) a b =
    ap faults.Twice (mark_names tree a.0 b.0 m n (one_first (TwiceAt tree) a.0 b.0 a.1 b.1) a.2 b.2)
one_fault tree (faults.Twice m) (faults.Unknown n) a b = absurd (b.0 a.0 a.1.0)
one_fault tree (faults.Twice m) (faults.Size n) a b = absurd (b.0 a.0 a.1.0)
one_fault tree (faults.Twice m) (faults.Endless n) a b = absurd (b.0 a.0 a.1.0)
one_fault tree (faults.Twice m) (faults.Opcode n) a b = absurd (b.0 a.0 a.1.0)
one_fault tree (faults.Twice m) (faults.OpcodeTwice n) a b = absurd (b.0 a.0 a.1.0)
one_fault tree (faults.Unknown m) (faults.Twice n) a b = absurd (a.0 b.0 b.1.0)
one_fault tree (faults.Unknown m) (faults.Unknown n) a b =
    ap faults.Unknown
    (mark_names tree a.1.0 b.1.0 m n (one_first (UnknownAt tree) a.1.0 b.1.0 a.1.1 b.1.1) a.1.2 b.1.2)
one_fault tree (faults.Unknown m) (faults.Size n) a b = absurd (b.1 a.1.0 a.1.1.0)
one_fault tree (faults.Unknown m) (faults.Endless n) a b = absurd (b.1 a.1.0 a.1.1.0)
one_fault tree (faults.Unknown m) (faults.Opcode n) a b = absurd (b.1 a.1.0 a.1.1.0)
one_fault tree (faults.Unknown m) (faults.OpcodeTwice n) a b = absurd (b.1 a.1.0 a.1.1.0)
one_fault tree (faults.Size m) (faults.Twice n) a b = absurd (a.0 b.0 b.1.0)
one_fault tree (faults.Size m) (faults.Unknown n) a b = absurd (a.1 b.1.0 b.1.1.0)
one_fault tree (faults.Size m) (faults.Size n) a b =
    ap faults.Size
    (mark_names tree a.2.0 b.2.0 m n (one_first (SizeAt tree) a.2.0 b.2.0 a.2.1 b.2.1) a.2.2 b.2.2)
one_fault tree (faults.Size m) (faults.Endless n) a b = absurd (b.2 a.2.0 a.2.1.0)
one_fault tree (faults.Size m) (faults.Opcode n) a b = absurd (b.2 a.2.0 a.2.1.0)
one_fault tree (faults.Size m) (faults.OpcodeTwice n) a b = absurd (b.2 a.2.0 a.2.1.0)
one_fault tree (faults.Endless m) (faults.Twice n) a b = absurd (a.0 b.0 b.1.0)
one_fault tree (faults.Endless m) (faults.Unknown n) a b = absurd (a.1 b.1.0 b.1.1.0)
one_fault tree (faults.Endless m) (faults.Size n) a b = absurd (a.2 b.2.0 b.2.1.0)
one_fault tree (faults.Endless m) (faults.Endless n) a b =
    ap faults.Endless
    (at_one_place _ a.3.0 b.3.0 m n (one_first (EndlessAt tree) a.3.0 b.3.0 a.3.1 b.3.1) a.3.2 b.3.2)
one_fault tree (faults.Endless m) (faults.Opcode n) a b = absurd (b.3 a.3.0 a.3.1.0)
one_fault tree (faults.Endless m) (faults.OpcodeTwice n) a b = absurd (b.3 a.3.0 a.3.1.0)
one_fault tree (faults.Opcode m) (faults.Twice n) a b = absurd (a.0 b.0 b.1.0)
one_fault tree (faults.Opcode m) (faults.Unknown n) a b = absurd (a.1 b.1.0 b.1.1.0)
one_fault tree (faults.Opcode m) (faults.Size n) a b = absurd (a.2 b.2.0 b.2.1.0)
one_fault tree (faults.Opcode m) (faults.Endless n) a b = absurd (a.3 b.3.0 b.3.1.0)
one_fault tree (faults.Opcode m) (faults.Opcode n) a b =
    ap faults.Opcode
    (at_one_place _ a.4.0 b.4.0 m n (one_first (OpcodeAt tree) a.4.0 b.4.0 a.4.1 b.4.1) a.4.2 b.4.2)
one_fault tree (faults.Opcode m) (faults.OpcodeTwice n) a b = absurd (b.4 a.4.0 a.4.1.0)
one_fault tree (faults.OpcodeTwice m) (faults.Twice n) a b = absurd (a.0 b.0 b.1.0)
one_fault tree (faults.OpcodeTwice m) (faults.Unknown n) a b = absurd (a.1 b.1.0 b.1.1.0)
one_fault tree (faults.OpcodeTwice m) (faults.Size n) a b = absurd (a.2 b.2.0 b.2.1.0)
one_fault tree (faults.OpcodeTwice m) (faults.Endless n) a b = absurd (a.3 b.3.0 b.3.1.0)
one_fault tree (faults.OpcodeTwice m) (faults.Opcode n) a b = absurd (a.4 b.4.0 b.4.1.0)
one_fault tree (faults.OpcodeTwice m) (faults.OpcodeTwice n) a b =
    ap faults.OpcodeTwice
    (opcodes_at (opcodes_of tree) a.5.0 b.5.0 m n (one_first (OpcodeTwiceAt tree) a.5.0 b.5.0 a.5.1 b.5.1) a.5.2 b.5.2)
one_fault tree faults.OutOfMemory g a b = absurd a
one_fault tree (faults.Twice m) faults.OutOfMemory a b = absurd b
one_fault tree (faults.Unknown m) faults.OutOfMemory a b = absurd b
one_fault tree (faults.Size m) faults.OutOfMemory a b = absurd b
one_fault tree (faults.Endless m) faults.OutOfMemory a b = absurd b
one_fault tree (faults.Opcode m) faults.OutOfMemory a b = absurd b
one_fault tree (faults.OpcodeTwice m) faults.OutOfMemory a b = absurd b

-- what has a meaning has no fault
pub meaning_or_fault : (tree : Tree) (m : Meant) (f : CheckFault) → Meaning tree m → IsFirstFault tree f → ⊥
meaning_or_fault tree m (faults.Twice n) h b = h.faultless.twice b.0 b.1.0
meaning_or_fault tree m (faults.Unknown n) h b = h.faultless.unknown b.1.0 b.1.1.0
meaning_or_fault tree m (faults.Size n) h b = h.faultless.size b.2.0 b.2.1.0
meaning_or_fault tree m (faults.Endless n) h b = h.faultless.endless b.3.0 b.3.1.0
meaning_or_fault tree m (faults.Opcode n) h b = h.opcode b.4.0 b.4.1.0
meaning_or_fault tree m (faults.OpcodeTwice n) h b = h.opcode_twice b.5.0 b.5.1.0
meaning_or_fault tree m faults.OutOfMemory h b = b

-- ---- from an answer that is right

abbrev Answer : Type 0
Answer = Result Interface CheckFault

pub means : (tree : Tree) (r : Answer) → IsChecked tree r → IfOk r (λ i. Meaning tree (interface_of i))
means tree (Ok i) h = h
means tree (Err f) h = tt

pub faulty : (tree : Tree) (r : Answer) → IsChecked tree r
    → IfErr r (λ f. f ≢ faults.OutOfMemory → IsFirstFault tree f)
faulty tree (Ok i) h = tt
faulty tree (Err (faults.Twice n)) h = λ there. h
faulty tree (Err (faults.Unknown n)) h = λ there. h
faulty tree (Err (faults.Size n)) h = λ there. h
faulty tree (Err (faults.Endless n)) h = λ there. h
faulty tree (Err (faults.Opcode n)) h = λ there. h
faulty tree (Err (faults.OpcodeTwice n)) h = λ there. h
faulty tree (Err faults.OutOfMemory) h = λ there. absurd (there refl)

pub only_meaning : (tree : Tree) (r : Answer) → IsChecked tree r → (m : Meant) → Meaning tree m
    → r ≢ Err faults.OutOfMemory → IsOkAnd r (λ i. interface_of i ≡ m)
only_meaning tree (Ok i) h m meant there = h.is ∙ sym meant.is
only_meaning tree (Err (faults.Twice n)) h m meant there = absurd (meaning_or_fault tree m (faults.Twice n) meant h)
only_meaning tree (Err (faults.Unknown n)) h m meant there = absurd (meaning_or_fault tree m (faults.Unknown n) meant h)
only_meaning tree (Err (faults.Size n)) h m meant there = absurd (meaning_or_fault tree m (faults.Size n) meant h)
only_meaning tree (Err (faults.Endless n)) h m meant there = absurd (meaning_or_fault tree m (faults.Endless n) meant h)
only_meaning tree (Err (faults.Opcode n)) h m meant there = absurd (meaning_or_fault tree m (faults.Opcode n) meant h)
only_meaning tree (Err (faults.OpcodeTwice n)) h m meant there =
    absurd (meaning_or_fault tree m (faults.OpcodeTwice n) meant h)
only_meaning tree (Err faults.OutOfMemory) h m meant there = absurd (there refl)

pub only_fault : (tree : Tree) (r : Answer) → IsChecked tree r → (f : CheckFault) → IsFirstFault tree f
    → r ≢ Err faults.OutOfMemory → r ≡ Err f
only_fault tree (Ok i) h f first there = absurd (meaning_or_fault tree (interface_of i) f h first)
only_fault tree (Err (faults.Twice n)) h f first there = ap Err (one_fault tree (faults.Twice n) f h first)
only_fault tree (Err (faults.Unknown n)) h f first there = ap Err (one_fault tree (faults.Unknown n) f h first)
only_fault tree (Err (faults.Size n)) h f first there = ap Err (one_fault tree (faults.Size n) f h first)
only_fault tree (Err (faults.Endless n)) h f first there = ap Err (one_fault tree (faults.Endless n) f h first)
only_fault tree (Err (faults.Opcode n)) h f first there = ap Err (one_fault tree (faults.Opcode n) f h first)
only_fault tree (Err (faults.OpcodeTwice n)) h f first there = ap Err (one_fault tree (faults.OpcodeTwice n) f h first)
only_fault tree (Err faults.OutOfMemory) h f first there = absurd (there refl)
