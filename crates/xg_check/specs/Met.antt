-- What the search for what stands twice keeps. No public clause cites this module.
use Rattle.std.specs.Prelude.{◌≡◌, ℕ, ℤ, Bool, false, ◌&&◌, nat_eq, List, Some}
use Rattle.std.specs.Borrow.{Bor}
use Rattle.std.specs.Str.{bytes_eq}
use Rattle.std.specs.List.{list_any}
use Rattle.std.specs.HashSet.{contains}
use Rattle.xg_check.specs.declared.marks.Space.TheVariants as spaces
use Rattle.xg_check.specs.declared.twice.Met.{Met}
use Rattle.xg_check.specs.Constants.{ConstantDef, value_of}
use Rattle.xg_check.specs.Marks.{Mark, declares, union_case}
use Rattle.xg_check.specs.Judged.{are_same, same_value}
use Rattle.xg_check.specs.Held.{same_pair}

-- one of the marks is the same
abbrev pub is_met : List ConstantDef → List Mark → Mark → Bool
is_met cs front m = list_any (λ o. are_same cs m o) front

-- the mark is a case of this item with this value
abbrev pub is_case_at : List ConstantDef → ℕ → ℤ → Mark → Bool
is_case_at cs i z (union_case j n u w) = nat_eq i j && same_value (Some z) (value_of cs w)
is_case_at cs i z _ = false

-- two names are one
abbrev pub same_text : Bor (List ℕ) → Bor (List ℕ) → Bool
same_text a b = bytes_eq a.now b.now

-- two names are one, and stand in the list of one item
abbrev pub same_listed : ℕ × Bor (List ℕ) → ℕ × Bor (List ℕ) → Bool
same_listed a b = nat_eq a.0 b.0 && bytes_eq a.1.now b.1.now

-- the sets have the names and the cases of the marks, and no others
pub record AreMet (cs : List ConstantDef) (front : List Mark) (met : Met) : Type 0 where
  pub types : (q : Bor (List ℕ)) → contains same_text met.types q ≡ is_met cs front (declares spaces.Type q.now)
  pub constants : (q : Bor (List ℕ))
      → contains same_text met.constants q ≡ is_met cs front (declares spaces.Constant q.now)
  pub procedures : (q : Bor (List ℕ))
      → contains same_text met.procedures q ≡ is_met cs front (declares spaces.Procedure q.now)
  pub listed : (i : ℕ) (q : Bor (List ℕ))
      → contains same_listed met.listed (i, q) ≡ is_met cs front (declares (spaces.List i) q.now)
  pub cases : (i : ℕ) (z : ℤ) → contains same_pair met.cases (i, z) ≡ list_any (is_case_at cs i z) front
