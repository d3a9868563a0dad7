-- Types that have values: what the completion of a short reading rests on. No public clause cites this module.
use Rattle.std.specs.Prelude.{◌≡◌, ℕ, ℤ, ◌^◌, List, true, Some}
use Rattle.std.specs.List.{AllByRecursion}
use Rattle.xdr_value.specs.Ranges.{IsWithin, has_number}
use Rattle.xdr_value.specs.Data.{Kind, Choice, Datum, Types}
use Rattle.xdr_value.specs.Heads.{Tag, Head, is_basic, is_enum, is_struct, is_union, is_array, is_array_up_to, is_maybe}
use Rattle.xdr_value.specs.Heads.{is_unknown, head_of, arm_kind, arm_of}
use Rattle.xdr_value.specs.Facts.{IsCase, CaseInRange}
use Rattle.xdr_value.specs.Fits.{Fits, TagFits, tag_number}
use Rattle.xdr_value.specs.Zero.{tag_value, first_number}

-- an enum has a member, and each is in range
pub record EnumHas (ms : List (List ℕ × ℤ)) : Type 0 where
  pub first : has_number ms (first_number ms) ≡ true
  pub within : (z : ℤ) → has_number ms z ≡ true → IsWithin (2 ^ 31) z

-- K holds of the types of a union's arms, its cases are numbers of its tag, and one number of the tag has an arm
pub record ArmsHave (K : Kind → Type 0) (tag : Tag) (cs : List Choice) : Type 0 where
  pub arms : (z : ℤ) (c : Choice) → arm_of z cs ≡ Some c → K (arm_kind c)
  pub tags : (z : ℤ) → IsCase tag z → TagFits tag (tag_value tag z)
  pub back : (z : ℤ) → IsCase tag z → tag_number (tag_value tag z) ≡ z
  pub cases : AllByRecursion (CaseInRange tag) cs
  pub number : ℤ
  pub is_case : IsCase tag number
  pub chosen : Choice
  pub has : arm_of number cs ≡ Some chosen

-- K holds of the types that stand in the head
abbrev pub PartsHave : (Kind → Type 0) → Head → Type 0
PartsHave K (is_basic b) = Unit {0}
PartsHave K (is_enum ms) = EnumHas ms
PartsHave K (is_struct ps) = AllByRecursion (λ p. K p.kind) ps
PartsHave K (is_union tag cs) = ArmsHave K tag cs
PartsHave K (is_array k n) = K k
PartsHave K (is_array_up_to k n) = K k
PartsHave K (is_maybe k) = K k
PartsHave K is_unknown = ⊥

-- Of the types that K holds of, so do their parts, and each has a value.
pub record HaveValues (t : Types) (K : Kind → Type 0) : Type 0 where
  pub parts : (k : Kind) → K k → PartsHave K (head_of t k)
  pub value : (k : Kind) → K k → (d : Datum) × Fits t k d
