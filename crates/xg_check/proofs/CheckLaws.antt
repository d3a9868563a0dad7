-- The faults of a text, from what the passes answer.
use Rattle.std.proofs.Common.{◌≡◌, ℕ, ℤ, ◌<◌, List, length, map, slice_get, Option, Some, None, option_map}
use Rattle.std.proofs.Common.{option_and_then, unwrap_or, refl, sym, ap, subst, ◌∙◌, arith}
use Rattle.std.specs.Borrow.{Bor}
use Rattle.std.proofs.lemmas.Option.{slice_get-map}
use Rattle.std.proofs.lemmas.List.{length-map}
use Rattle.xg_parse.specs.declared.tree.Part.{Part}
use Rattle.xg_parse.specs.declared.tree.Tree.{Tree}
use Rattle.xg_check.specs.declared.fault.CheckFault.TheVariants as faults
use Rattle.xg_check.specs.Places.{IsFirst, HoldsNowhere}
use Rattle.xg_check.specs.Constants.{ConstantDef, constants_in, in_32_bits}
use Rattle.xg_check.specs.Typed.{types_in, type_names}
use Rattle.xg_check.specs.Marks.{Mark, marks_in}
use Rattle.xg_check.specs.Judged.{Scope, IsTwice, IsUnknown, IsSizeFault, IsEndless, opcode_at}
use Rattle.xg_check.specs.Counting.{number_at, IsMissing, StandsAgain}
use Rattle.xg_check.specs.Answers.{IsFirstNamed, IsFirstOf, IsFirstPlace, IsFirstNumber, IsFaultOf}
use Rattle.xg_check.specs.Meaning.{TwiceAt, UnknownAt, SizeAt, EndlessAt, OpcodeAt, OpcodeTwiceAt, opcodes_of}
use Rattle.xg_check.specs.Meaning.{IsFaultless, MarkNamed}
use Rattle.xg_check.proofs.ValueLaws.{item_at}
use Rattle.xg_check.proofs.StepLaws.{Ops, seconds}

number_is : (ops : Ops) (k : ℕ) → number_at (seconds ops) k ≡ opcode_at ops k
number_is ops k =
    ap (option_and_then in_32_bits) (slice_get-map (λ (p : List ℕ × Option ℤ). p.1) ops k)
    ∙ by_read (slice_get ops k)
  where
    by_read : (o : Option (List ℕ × Option ℤ))
        → option_and_then in_32_bits (option_map (λ (p : List ℕ × Option ℤ). p.1) o)
        ≡ option_and_then (λ (p : List ℕ × Option ℤ). in_32_bits p.1) o
    by_read None = refl
    by_read (Some p) = refl

module _ (tree : Tree) (cs : List ConstantDef) (ts : List Part) (ms : List Mark)
    (cs_is : cs ≡ constants_in tree.items) (ts_is : ts ≡ types_in tree.items) (ms_is : ms ≡ marks_in tree.items) where
  pub twice_named : (o : Option (Bor (List ℕ))) → IsFirstNamed (IsTwice cs ms) ms o
      → IsFirstNamed (TwiceAt tree) (marks_in tree.items) o
  twice_named o h =
      subst (λ (xs : List Mark). IsFirstNamed (IsTwice (constants_in tree.items) xs) xs o) ms_is
      (subst (λ (ds : List ConstantDef). IsFirstNamed (IsTwice ds ms) ms o) cs_is h)

  scope_is : ◌≡◌ {A = Scope} (record { constants = cs; types = ts })
      (record { constants = constants_in tree.items; types = types_in tree.items })
  scope_is = cc

  pub unknown_named : (o : Option (Bor (List ℕ)))
      → IsFirstNamed (IsUnknown (record { constants = cs; types = ts }) ms) ms o
      → IsFirstNamed (UnknownAt tree) (marks_in tree.items) o
  unknown_named o h =
      subst (λ (xs : List Mark).
      IsFirstNamed (IsUnknown (record { constants = constants_in tree.items; types = types_in tree.items }) xs) xs o)
      ms_is
      (subst (λ (s : Scope). IsFirstNamed (IsUnknown s ms) ms o) scope_is h)

  pub size_named : (o : Option (Bor (List ℕ)))
      → IsFirstNamed (IsSizeFault (record { constants = cs; types = ts }) ms) ms o
      → IsFirstNamed (SizeAt tree) (marks_in tree.items) o
  size_named o h =
      subst (λ (xs : List Mark).
      IsFirstNamed (IsSizeFault (record { constants = constants_in tree.items; types = types_in tree.items }) xs) xs o)
      ms_is
      (subst (λ (s : Scope). IsFirstNamed (IsSizeFault s ms) ms o) scope_is h)

  pub endless_named : (o : Option (Bor (List ℕ))) → IsFirstOf (IsEndless ts) (type_names ts) o
      → IsFirstOf (EndlessAt tree) (type_names (types_in tree.items)) o
  endless_named o h = subst (λ (ps : List Part). IsFirstOf (IsEndless ps) (type_names ps) o) ts_is h

-- the name of the place, as a text of its own
named_so : (P : ℕ → Type 0) (tree : Tree) (r : Bor (List ℕ)) (name : List ℕ) → name ≡ r.now
    → IsFirstNamed P (marks_in tree.items) (Some r) → (k : ℕ) × IsFirst P k × MarkNamed tree k name
named_so P tree r name is h = (h.0, h.1, (h.2.0, h.2.1, is ∙ h.2.2))

module _ (tree : Tree) (r : Bor (List ℕ)) (name : List ℕ) (is : name ≡ r.now) where
  pub twice_fault : IsFirstNamed (TwiceAt tree) (marks_in tree.items) (Some r) → IsFaultOf tree (faults.Twice name)
  twice_fault h = named_so (TwiceAt tree) tree r name is h

  pub unknown_fault : HoldsNowhere (TwiceAt tree) → IsFirstNamed (UnknownAt tree) (marks_in tree.items) (Some r)
      → IsFaultOf tree (faults.Unknown name)
  unknown_fault once h = (once, named_so (UnknownAt tree) tree r name is h)

  pub size_fault : HoldsNowhere (TwiceAt tree) → HoldsNowhere (UnknownAt tree)
      → IsFirstNamed (SizeAt tree) (marks_in tree.items) (Some r) → IsFaultOf tree (faults.Size name)
  size_fault once known h = (once, known, named_so (SizeAt tree) tree r name is h)

  pub endless_fault : HoldsNowhere (TwiceAt tree) → HoldsNowhere (UnknownAt tree) → HoldsNowhere (SizeAt tree)
      → IsFirstOf (EndlessAt tree) (type_names (types_in tree.items)) (Some r) → IsFaultOf tree (faults.Endless name)
  endless_fault once known sized h = (once, known, sized, (h.0, h.1, h.2 ∙ ap Some (sym is)))

-- ---- opcodes

module _ (tree : Tree) (list : List (Option ℤ)) (list_is : list ≡ seconds (opcodes_of tree)) where
  at_is : (k : ℕ) → number_at list k ≡ opcode_at (opcodes_of tree) k
  at_is k = ap (λ (xs : List (Option ℤ)). number_at xs k) list_is ∙ number_is (opcodes_of tree) k

  as_many : length list ≡ length (opcodes_of tree)
  as_many = ap length list_is ∙ length-map (opcodes_of tree) (λ (p : List ℕ × Option ℤ). p.1)

  missing : (k : ℕ) → IsMissing list k → OpcodeAt tree k
  missing k h = record { there = omega (arith, h.there, as_many); none = sym (at_is k) ∙ h.none }

  missing_back : (k : ℕ) → OpcodeAt tree k → IsMissing list k
  missing_back k h = record { there = omega (arith, h.there, as_many); none = at_is k ∙ h.none }

  again : (k : ℕ) → StandsAgain list k → OpcodeTwiceAt tree k
  again k h = record {
    opcode = h.opcode;
    has = sym (at_is k) ∙ h.has;
    earlier = h.earlier;
    before = h.before;
    had = sym (at_is h.earlier) ∙ h.had;
  }

  again_back : (k : ℕ) → OpcodeTwiceAt tree k → StandsAgain list k
  again_back k h = record {
    opcode = h.opcode;
    has = at_is k ∙ h.has;
    earlier = h.earlier;
    before = h.before;
    had = at_is h.earlier ∙ h.had;
  }

  pub has_all : IsFirstPlace (IsMissing list) None → HoldsNowhere (OpcodeAt tree)
  has_all none k h = none k (missing_back k h)

  pub differ_all : IsFirstNumber (StandsAgain list) (number_at list) None → HoldsNowhere (OpcodeTwiceAt tree)
  differ_all none k h = none k (again_back k h)

  named_there : (k : ℕ) (o : Option (Bor (List ℕ))) (name : List ℕ) → k < length (opcodes_of tree)
      → option_map (λ (s : Bor (List ℕ)). s.now) o ≡ slice_get
      (map (λ (p : List ℕ × Option ℤ). p.0) (opcodes_of tree)) k
      → name ≡ unwrap_or (option_map (λ (s : Bor (List ℕ)). s.now) o) name
      → slice_get (map (λ (p : List ℕ × Option ℤ). p.0) (opcodes_of tree)) k ≡ Some name
  named_there k o name lt e is =
      let x = item_at (map (λ (p : List ℕ × Option ℤ). p.0) (opcodes_of tree)) k
      (omega (arith, lt, length-map (opcodes_of tree) (λ (p : List ℕ × Option ℤ). p.0))) in
      let n : name ≡ x.0 = is ∙ ap (λ (p : Option (List ℕ)). unwrap_or p name) (e ∙ x.1) in
      x.1 ∙ ap Some (sym n)

  pub opcode_fault : (k : ℕ) (o : Option (Bor (List ℕ))) (name : List ℕ) → IsFaultless tree
      → IsFirstPlace (IsMissing list) (Some k)
      → option_map (λ (s : Bor (List ℕ)). s.now) o ≡ slice_get
      (map (λ (p : List ℕ × Option ℤ). p.0) (opcodes_of tree)) k
      → name ≡ unwrap_or (option_map (λ (s : Bor (List ℕ)). s.now) o) name
      → IsFaultOf tree (faults.Opcode name)
  opcode_fault k o name f h e is =
      let there : k < length (opcodes_of tree) = omega (arith, h.0.there, as_many) in (
        f.twice,
        f.unknown,
        f.size,
        f.endless,
        (k, (missing k h.0, λ j lt p. h.1 j lt (missing_back j p)), named_there k o name there e is),
      )

  pub opcode_twice_fault : (n : ℕ) → IsFaultless tree → HoldsNowhere (OpcodeAt tree)
      → IsFirstNumber (StandsAgain list) (number_at list) (Some n) → IsFaultOf tree (faults.OpcodeTwice n)
  opcode_twice_fault n f has h = (
    f.twice,
    f.unknown,
    f.size,
    f.endless,
    has,
    (h.0, (again h.0 h.1.0, λ j lt p. h.1.1 j lt (again_back j p)), sym (at_is h.0) ∙ h.2),
  )

-- ---- what the passes answer where there is no fault, and where there is one

module _ (tree : Tree) (cs : List ConstantDef) (ts : List Part) (ms : List Mark)
    (cs_is : cs ≡ constants_in tree.items) (ts_is : ts ≡ types_in tree.items) (ms_is : ms ≡ marks_in tree.items)
    (o p : Option (Bor (List ℕ))) (is : o ≡ p) where
  pub after_twice : IsFirstNamed (IsTwice cs ms) ms o → IsFirstNamed (TwiceAt tree) (marks_in tree.items) p
  after_twice h = subst (λ (q : Option (Bor (List ℕ))). IsFirstNamed (TwiceAt tree) (marks_in tree.items) q) is
      (twice_named tree cs ts ms cs_is ts_is ms_is o h)

  pub after_unknown : IsFirstNamed (IsUnknown (record { constants = cs; types = ts }) ms) ms o
      → IsFirstNamed (UnknownAt tree) (marks_in tree.items) p
  after_unknown h = subst (λ (q : Option (Bor (List ℕ))). IsFirstNamed (UnknownAt tree) (marks_in tree.items) q) is
      (unknown_named tree cs ts ms cs_is ts_is ms_is o h)

  pub after_size : IsFirstNamed (IsSizeFault (record { constants = cs; types = ts }) ms) ms o
      → IsFirstNamed (SizeAt tree) (marks_in tree.items) p
  after_size h = subst (λ (q : Option (Bor (List ℕ))). IsFirstNamed (SizeAt tree) (marks_in tree.items) q) is
      (size_named tree cs ts ms cs_is ts_is ms_is o h)

  pub after_endless : IsFirstOf (IsEndless ts) (type_names ts) o
      → IsFirstOf (EndlessAt tree) (type_names (types_in tree.items)) p
  after_endless h =
      subst (λ (q : Option (Bor (List ℕ))). IsFirstOf (EndlessAt tree) (type_names (types_in tree.items)) q) is
      (endless_named tree cs ts ms cs_is ts_is ms_is o h)
