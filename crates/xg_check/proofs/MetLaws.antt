-- What was met, with one mark more.
use Rattle.std.proofs.Common.{◌≡◌, ℕ, ℤ, Bool, true, false, cond, not, ◌&&◌, ◌||◌, nat_eq, List, [], ◌∷◌, ◌++◌, Option}
use Rattle.std.proofs.Common.{Some, None, refl, sym, ap, ◌∙◌}
use Rattle.std.specs.Borrow.{Bor}
use Rattle.std.specs.Str.{bytes_eq}
use Rattle.std.specs.List.{list_any}
use Rattle.std.specs.Ordering.{int_eq}
use Rattle.std.specs.HashSet.{HashSet, contains}
use Rattle.std.specs.declared.hash.FoldHasher.{FoldHasher}
use Rattle.std.specs.declared.hash.BuildHasherDefault.{BuildHasherDefault}
use Rattle.std.proofs.lemmas.Bool.Decides.{same_from_decides, Decides-eqb, Decides-int_eq}
use Rattle.xg_parse.specs.declared.tree.ConstWord.{ConstWord}
use Rattle.xg_parse.specs.declared.tree.TypeWord.{TypeWord}
use Rattle.xg_check.specs.declared.marks.Space.{Space}
use Rattle.xg_check.specs.declared.marks.Space.TheVariants as spaces
use Rattle.xg_check.specs.declared.twice.Met.{Met}
use Rattle.xg_check.specs.Constants.{ConstantDef, value_of}
use Rattle.xg_check.specs.Marks.{Mark, declares, union_case, uses_type, uses_constant, valued, sized, enum_type}
use Rattle.xg_check.specs.Marks.{struct_type, union_type}
use Rattle.xg_check.specs.Judged.{same_space, same_value, are_same}
use Rattle.xg_check.specs.Held.{same_pair}
use Rattle.xg_check.specs.Met.{is_met, is_case_at, same_text, same_listed, AreMet}
use Rattle.xg_check.proofs.KnownLaws.{tests_turn}

abbrev pub TextSet : Type 0
TextSet = HashSet (Bor (List ℕ)) (BuildHasherDefault FoldHasher)

abbrev pub ListedSet : Type 0
ListedSet = HashSet (ℕ × Bor (List ℕ)) (BuildHasherDefault FoldHasher)

abbrev pub CaseSet : Type 0
CaseSet = HashSet (ℕ × ℤ) (BuildHasherDefault FoldHasher)

-- ---- tests

pub or_more : (a b c : Bool) → (a || (b || c)) ≡ ((a || b) || c)
or_more true b c = refl
or_more false b c = refl

pub or_none : (a : Bool) → (a || false) ≡ a
or_none true = refl
or_none false = refl

any_more : {A : Type 0} (test : A → Bool) (xs : List A) (x : A)
    → list_any test (xs ++ x ∷ []) ≡ (list_any test xs || test x)
any_more test [] x = or_none (test x)
any_more test (y ∷ xs) x = ap (λ (b : Bool). test y || b) (any_more test xs x)
    ∙ or_more (test y) (list_any test xs) (test x)

pub numbers_turn : (a b : ℕ) → nat_eq a b ≡ nat_eq b a
numbers_turn a b = same_from_decides (nat_eq a b) (nat_eq b a)
    ((Decides-eqb a b).0, (Decides-eqb a b).1)
    (λ e. sym ((Decides-eqb b a).0 e), λ e. (Decides-eqb b a).1 (sym e))

values_turn : (a b : ℤ) → int_eq a b ≡ int_eq b a
values_turn a b = same_from_decides (int_eq a b) (int_eq b a)
    ((Decides-int_eq a b).0, (Decides-int_eq a b).1)
    (λ e. sym ((Decides-int_eq b a).0 e), λ e. (Decides-int_eq b a).1 (sym e))

-- a set with one more, and a list with one more
put : (key q old any : Bool) → key ≡ q → old ≡ any → cond key true old ≡ (any || q)
put true true old any e h = by_any any
  where
    by_any : (b : Bool) → true ≡ (b || true)
    by_any true = refl
    by_any false = refl
put true false old any e h = cc
put false true old any e h = cc
put false false old any e h = h ∙ sym (or_none any)

kept : (old any q : Bool) → q ≡ false → old ≡ any → old ≡ (any || q)
kept old any true e h = cc
kept old any false e h = h ∙ sym (or_none any)

and_none : (a : Bool) → (a && false) ≡ false
and_none true = refl
and_none false = refl

-- ---- what is met with one mark more

met_more : (cs : List ConstantDef) (front : List Mark) (m q : Mark)
    → is_met cs (front ++ m ∷ []) q ≡ (is_met cs front q || are_same cs q m)
met_more cs front m q = any_more (λ o. are_same cs q o) front m

cases_more : (cs : List ConstantDef) (front : List Mark) (m : Mark) (i : ℕ) (z : ℤ)
    → list_any (is_case_at cs i z) (front ++ m ∷ []) ≡ (list_any (is_case_at cs i z) front || is_case_at cs i z m)
cases_more cs front m i z = any_more (is_case_at cs i z) front m

module _ (cs : List ConstantDef) (front : List Mark) (met : Met) (is : AreMet cs front met) where
  -- names of a space are met with a name of it
  texts_put : (s : Space) (n : List ℕ) (old new : TextSet) → same_space s s ≡ true
      → ((q : Bor (List ℕ)) → contains same_text old q ≡ is_met cs front (declares s q.now))
      → ((q : Bor (List ℕ)) → contains same_text new q ≡ cond (bytes_eq n q.now) true (contains same_text old q))
      → (q : Bor (List ℕ)) → contains same_text new q ≡ is_met cs (front ++ declares s n ∷ []) (declares s q.now)
  texts_put s n old new self was put_is q =
      put_is q
      ∙ put (bytes_eq n q.now) (same_space s s && bytes_eq q.now n) (contains same_text old q)
      (is_met cs front (declares s q.now))
      (tests_turn n q.now ∙ sym (ap (λ (b : Bool). b && bytes_eq q.now n) self)) (was q)
      ∙ sym (met_more cs front (declares s n) (declares s q.now))

  -- and those of another stay
  texts_kept : (s : Space) (m : Mark) (old : TextSet)
      → ((q : List ℕ) → are_same cs (declares s q) m ≡ false)
      → ((q : Bor (List ℕ)) → contains same_text old q ≡ is_met cs front (declares s q.now))
      → (q : Bor (List ℕ)) → contains same_text old q ≡ is_met cs (front ++ m ∷ []) (declares s q.now)
  texts_kept s m old differ was q =
      kept (contains same_text old q) (is_met cs front (declares s q.now)) (are_same cs (declares s q.now) m)
      (differ q.now) (was q)
      ∙ sym (met_more cs front m (declares s q.now))

  listed_kept : (m : Mark) → ((i : ℕ) (q : List ℕ) → are_same cs (declares (spaces.List i) q) m ≡ false)
      → (i : ℕ) (q : Bor (List ℕ))
      → contains same_listed met.listed (i, q) ≡ is_met cs (front ++ m ∷ []) (declares (spaces.List i) q.now)
  listed_kept m differ i q =
      kept (contains same_listed met.listed (i, q)) (is_met cs front (declares (spaces.List i) q.now))
      (are_same cs (declares (spaces.List i) q.now) m) (differ i q.now) (is.listed i q)
      ∙ sym (met_more cs front m (declares (spaces.List i) q.now))

  cases_kept : (m : Mark) → ((i : ℕ) (z : ℤ) → is_case_at cs i z m ≡ false)
      → (i : ℕ) (z : ℤ) → contains same_pair met.cases (i, z) ≡ list_any (is_case_at cs i z) (front ++ m ∷ [])
  cases_kept m differ i z =
      kept (contains same_pair met.cases (i, z)) (list_any (is_case_at cs i z) front) (is_case_at cs i z m)
      (differ i z) (is.cases i z)
      ∙ sym (cases_more cs front m i z)

  pub meets_type : (n : List ℕ) (new : TextSet)
      → ((q : Bor (List ℕ)) → contains same_text new q ≡ cond (bytes_eq n q.now) true (contains same_text met.types q))
      → AreMet cs (front ++ declares spaces.Type n ∷ []) (record met { types = new })
  meets_type n new h = record {
    types = texts_put spaces.Type n met.types new refl is.types h;
    constants = texts_kept spaces.Constant (declares spaces.Type n) met.constants (λ q. refl) is.constants;
    procedures = texts_kept spaces.Procedure (declares spaces.Type n) met.procedures (λ q. refl) is.procedures;
    listed = listed_kept (declares spaces.Type n) (λ i q. refl);
    cases = cases_kept (declares spaces.Type n) (λ i z. refl);
  }

  pub meets_constant : (n : List ℕ) (new : TextSet)
      → ((q : Bor (List ℕ)) → contains same_text new q ≡ cond (bytes_eq n q.now) true
      (contains same_text met.constants q))
      → AreMet cs (front ++ declares spaces.Constant n ∷ []) (record met { constants = new })
  meets_constant n new h = record {
    types = texts_kept spaces.Type (declares spaces.Constant n) met.types (λ q. refl) is.types;
    constants = texts_put spaces.Constant n met.constants new refl is.constants h;
    procedures = texts_kept spaces.Procedure (declares spaces.Constant n) met.procedures (λ q. refl) is.procedures;
    listed = listed_kept (declares spaces.Constant n) (λ i q. refl);
    cases = cases_kept (declares spaces.Constant n) (λ i z. refl);
  }

  pub meets_procedure : (n : List ℕ) (new : TextSet)
      → ((q : Bor (List ℕ)) → contains same_text new q ≡ cond (bytes_eq n q.now) true
      (contains same_text met.procedures q))
      → AreMet cs (front ++ declares spaces.Procedure n ∷ []) (record met { procedures = new })
  meets_procedure n new h = record {
    types = texts_kept spaces.Type (declares spaces.Procedure n) met.types (λ q. refl) is.types;
    constants = texts_kept spaces.Constant (declares spaces.Procedure n) met.constants (λ q. refl) is.constants;
    procedures = texts_put spaces.Procedure n met.procedures new refl is.procedures h;
    listed = listed_kept (declares spaces.Procedure n) (λ i q. refl);
    cases = cases_kept (declares spaces.Procedure n) (λ i z. refl);
  }

  pub meets_listed : (j : ℕ) (n : List ℕ) (new : ListedSet)
      → ((i : ℕ) (q : Bor (List ℕ)) → contains same_listed new (i, q)
      ≡ cond (nat_eq j i && bytes_eq n q.now) true (contains same_listed met.listed (i, q)))
      → AreMet cs (front ++ declares (spaces.List j) n ∷ []) (record met { listed = new })
  meets_listed j n new h = record {
    types = texts_kept spaces.Type (declares (spaces.List j) n) met.types (λ q. refl) is.types;
    constants = texts_kept spaces.Constant (declares (spaces.List j) n) met.constants (λ q. refl) is.constants;
    procedures = texts_kept spaces.Procedure (declares (spaces.List j) n) met.procedures (λ q. refl) is.procedures;
    listed = listed;
    cases = cases_kept (declares (spaces.List j) n) (λ i z. refl);
  }
    where
      listed : (i : ℕ) (q : Bor (List ℕ)) → contains same_listed new (i, q)
          ≡ is_met cs (front ++ declares (spaces.List j) n ∷ []) (declares (spaces.List i) q.now)
      listed i q =
          h i q
          ∙ put (nat_eq j i && bytes_eq n q.now) (nat_eq i j && bytes_eq q.now n)
          (contains same_listed met.listed (i, q))
          (is_met cs front (declares (spaces.List i) q.now))
          (ap (λ (b : Bool). b && bytes_eq n q.now) (numbers_turn j i)
          ∙ ap (λ (b : Bool). nat_eq i j && b) (tests_turn n q.now))
          (is.listed i q)
          ∙ sym (met_more cs front (declares (spaces.List j) n) (declares (spaces.List i) q.now))

  pub meets_case : (j : ℕ) (n : List ℕ) (u : TypeWord) (w : ConstWord) (y : ℤ) (new : CaseSet)
      → value_of cs w ≡ Some y
      → ((i : ℕ) (z : ℤ) → contains same_pair new (i, z)
      ≡ cond (nat_eq j i && int_eq y z) true (contains same_pair met.cases (i, z)))
      → AreMet cs (front ++ union_case j n u w ∷ []) (record met { cases = new })
  meets_case j n u w y new has h = record {
    types = texts_kept spaces.Type (union_case j n u w) met.types (λ q. refl) is.types;
    constants = texts_kept spaces.Constant (union_case j n u w) met.constants (λ q. refl) is.constants;
    procedures = texts_kept spaces.Procedure (union_case j n u w) met.procedures (λ q. refl) is.procedures;
    listed = listed_kept (union_case j n u w) (λ i q. refl);
    cases = cases;
  }
    where
      cases : (i : ℕ) (z : ℤ)
          → contains same_pair new (i, z) ≡ list_any (is_case_at cs i z) (front ++ union_case j n u w ∷ [])
      cases i z =
          h i z
          ∙ put (nat_eq j i && int_eq y z) (nat_eq i j && same_value (Some z) (value_of cs w))
          (contains same_pair met.cases (i, z)) (list_any (is_case_at cs i z) front)
          (ap (λ (b : Bool). b && int_eq y z) (numbers_turn j i)
          ∙ ap (λ (b : Bool). nat_eq i j && b) (values_turn y z)
          ∙ ap (λ (o : Option ℤ). nat_eq i j && same_value (Some z) o) (sym has))
          (is.cases i z)
          ∙ sym (cases_more cs front (union_case j n u w) i z)

  -- a case without a value equals none
  pub meets_no_case : (j : ℕ) (n : List ℕ) (u : TypeWord) (w : ConstWord) → value_of cs w ≡ None
      → AreMet cs (front ++ union_case j n u w ∷ []) met
  meets_no_case j n u w none = record {
    types = texts_kept spaces.Type (union_case j n u w) met.types (λ q. refl) is.types;
    constants = texts_kept spaces.Constant (union_case j n u w) met.constants (λ q. refl) is.constants;
    procedures = texts_kept spaces.Procedure (union_case j n u w) met.procedures (λ q. refl) is.procedures;
    listed = listed_kept (union_case j n u w) (λ i q. refl);
    cases = cases_kept (union_case j n u w)
        (λ i z. ap (λ (o : Option ℤ). nat_eq i j && same_value (Some z) o) none ∙ and_none (nat_eq i j));
  }

  -- a mark that neither declares a name nor is a case
  pub meets_other : (m : Mark) → ((s : Space) (q : List ℕ) → are_same cs (declares s q) m ≡ false)
      → ((i : ℕ) (z : ℤ) → is_case_at cs i z m ≡ false) → AreMet cs (front ++ m ∷ []) met
  meets_other m no_name no_case = record {
    types = texts_kept spaces.Type m met.types (no_name spaces.Type) is.types;
    constants = texts_kept spaces.Constant m met.constants (no_name spaces.Constant) is.constants;
    procedures = texts_kept spaces.Procedure m met.procedures (no_name spaces.Procedure) is.procedures;
    listed = listed_kept m (λ i q. no_name (spaces.List i) q);
    cases = cases_kept m no_case;
  }

-- ---- what is met

none_pass : {A : Type 0} (test : A → Bool) (xs : List A) → ((x : A) → test x ≡ false) → list_any test xs ≡ false
none_pass test [] h = refl
none_pass test (x ∷ xs) h = ap (λ (b : Bool). b || list_any test xs) (h x) ∙ none_pass test xs h

any_same : {A : Type 0} (test other : A → Bool) (xs : List A) → ((x : A) → test x ≡ other x)
    → list_any test xs ≡ list_any other xs
any_same test other [] h = refl
any_same test other (x ∷ xs) h =
    ap (λ (b : Bool). b || list_any test xs) (h x) ∙ ap (λ (b : Bool). other x || b) (any_same test other xs h)

no_value : (cs : List ConstantDef) (j : ℕ) (n : List ℕ) (u : TypeWord) (w : ConstWord) (o : Mark) → value_of cs w ≡ None
    → are_same cs (union_case j n u w) o ≡ false
no_value cs j n u w (declares s m) none = refl
no_value cs j n u w (union_case i m t v) none =
    ap (λ (x : Option ℤ). nat_eq j i && same_value x (value_of cs v)) none ∙ and_none (nat_eq j i)
no_value cs j n u w (uses_type t) none = refl
no_value cs j n u w (uses_constant v) none = refl
no_value cs j n u w (valued m b) none = refl
no_value cs j n u w (sized d) none = refl
no_value cs j n u w (enum_type m es) none = refl
no_value cs j n u w (struct_type m) none = refl
no_value cs j n u w (union_type m t arms b) none = refl

pub no_case_met : (cs : List ConstantDef) (front : List Mark) (j : ℕ) (n : List ℕ) (u : TypeWord) (w : ConstWord)
    → value_of cs w ≡ None → false ≡ is_met cs front (union_case j n u w)
no_case_met cs front j n u w none =
    sym (none_pass (λ o. are_same cs (union_case j n u w) o) front (λ o. no_value cs j n u w o none))

case_same : (cs : List ConstantDef) (j : ℕ) (n : List ℕ) (u : TypeWord) (w : ConstWord) (y : ℤ) (o : Mark)
    → value_of cs w ≡ Some y → is_case_at cs j y o ≡ are_same cs (union_case j n u w) o
case_same cs j n u w y (declares s m) has = refl
case_same cs j n u w y (union_case i m t v) has =
    ap (λ (x : Option ℤ). nat_eq j i && same_value x (value_of cs v)) (sym has)
case_same cs j n u w y (uses_type t) has = refl
case_same cs j n u w y (uses_constant v) has = refl
case_same cs j n u w y (valued m b) has = refl
case_same cs j n u w y (sized d) has = refl
case_same cs j n u w y (enum_type m es) has = refl
case_same cs j n u w y (struct_type m) has = refl
case_same cs j n u w y (union_type m t arms b) has = refl

not_not : (b : Bool) → not (not b) ≡ b
not_not true = refl
not_not false = refl

-- what a set says of a new one, turned
pub was_in : (added has met : Bool) → added ≡ not has → has ≡ met → not added ≡ met
was_in added has met e h = ap not e ∙ not_not has ∙ h

pub case_met : (cs : List ConstantDef) (front : List Mark) (j : ℕ) (n : List ℕ) (u : TypeWord) (w : ConstWord) (y : ℤ)
    → value_of cs w ≡ Some y → list_any (is_case_at cs j y) front ≡ is_met cs front (union_case j n u w)
case_met cs front j n u w y has =
    any_same (is_case_at cs j y) (λ o. are_same cs (union_case j n u w) o) front (λ o. case_same cs j n u w y o has)

pub other_met : (cs : List ConstantDef) (front : List Mark) (m : Mark) → ((o : Mark) → are_same cs m o ≡ false)
    → false ≡ is_met cs front m
other_met cs front m h = sym (none_pass (λ o. are_same cs m o) front h)
