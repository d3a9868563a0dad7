-- What tables keep of what they were made for. No public clause cites this module.
use Rattle.std.specs.Prelude.{◌≡◌, ℕ, ℤ, ◌<◌, ◌+◌, ◌^◌, ◌<ℤ◌, pos, Bool, true, false, ◌&&◌, ◌⊎◌, nat_eq, min, List}
use Rattle.std.specs.Prelude.{length, Option, Some, None, slice_get, unwrap_or, option_map}
use Rattle.xg_parse.specs.declared.tree.Part.{Part}
use Rattle.xg_check.specs.declared.tags.Tag.{Tag}
use Rattle.xg_check.specs.declared.types.Ways.TheVariants as ways
use Rattle.xg_check.specs.Constants.{ConstantDef, constant_names, constant_ways, value_at}
use Rattle.xg_check.specs.Graphs.{Leads, Ends}
use Rattle.xg_parse.specs.declared.tree.TypeWord.{TypeWord}
use Rattle.xg_check.specs.Typed.{type_ways, word_place}
use Rattle.xg_check.specs.Encodings.{hollow_at, bytes_at, place_hollow}
use Rattle.xg_check.specs.declared.tags.Tag.TheVariants as kinds
use Rattle.std.specs.Ordering.{int_eq}
use Rattle.std.specs.HashSet.{HashSet, contains}
use Rattle.std.specs.declared.hash.FoldHasher.{FoldHasher}
use Rattle.std.specs.declared.hash.BuildHasherDefault.{BuildHasherDefault}
use Rattle.xg_check.specs.Tags.{tag_at, enum_has}

-- what stands in an entry of a table, where the table has that entry
abbrev pub flat : {A : Type 0} → Option (Option A) → Option A
flat None = None
flat (Some o) = o

-- the value in a table
abbrev pub held_value : List (Option ℤ) → ℕ → Option ℤ
held_value values i = flat (slice_get values i)

-- no value in a table passes the largest number of a text by as many
abbrev pub AreBelow : ℕ → List (Option ℤ) → Type 0
AreBelow n values = (i : ℕ) (z : ℤ) → held_value values i ≡ Some z → z <ℤ pos (2 ^ 64 + n)

-- no value in a table is so large that one more doesn't fit
abbrev pub AreBounded : List (Option ℤ) → Type 0
AreBounded values = (i : ℕ) (z : ℤ) → held_value values i ≡ Some z → z <ℤ pos (2 ^ 66)

-- the table has the values of the constants
abbrev pub AreValues : List ConstantDef → List (Option ℤ) → Type 0
AreValues cs values = (i : ℕ) → held_value values i ≡ value_at cs i

-- the values of the constants that stand at the front of an order are found, and what is found is right
pub record AreFound (cs : List ConstantDef) (nodes : List ℕ) (front : ℕ) (values : List (Option ℤ)) : Type 0 where
  pub size : length values ≡ length cs
  pub done : (m i : ℕ) → m < front → slice_get nodes m ≡ Some i → held_value values i ≡ value_at cs i
  pub right : (i : ℕ) (z : ℤ) → held_value values i ≡ Some z → value_at cs i ≡ Some z

-- what is kept of constants: their names, their values, where they lead, and of which it is known that no way returns
pub record AreKept (cs : List ConstantDef) (names : List (List ℕ)) (values : List (Option ℤ)) (g : List (List ℕ))
    (ringless : List Bool) : Type 0 where
  pub names_are : names ≡ constant_names cs
  pub values_are : AreValues cs values
  pub bounded : AreBounded values
  pub ways_are : g ≡ constant_ways cs
  pub size : length ringless ≡ length cs
  pub no_ring : (i : ℕ) → slice_get ringless i ≡ Some true → Leads (constant_ways cs) i i → ⊥

-- all ways of the type to those that it holds end
abbrev pub TypeEnds : List Part → ℕ → Type 0
TypeEnds ts i = Ends (type_ways ts ways.Held) i

-- a count stands still behind the most
abbrev pub capped : ℕ → ℕ
capped n = min n 65537

-- the number in a table
abbrev pub held_count : List (Option ℕ) → ℕ → Option ℕ
held_count counts i = flat (slice_get counts i)

-- the table has the counts, up to the most
abbrev pub IsCapped : (ℕ → Option ℕ) → List (Option ℕ) → Type 0
IsCapped held counts = (i : ℕ) → held_count counts i ≡ option_map capped (held i)

-- the table says of the type of the word that it takes no bytes
abbrev pub hollow_word : List Bool → List Part → TypeWord → Bool
hollow_word hollow ts t = place_hollow (λ i. unwrap_or (slice_get hollow i) false) (word_place ts t)

-- the types that stand at the front of an order are measured, and what is measured is right
pub record AreMeasured (ts : List Part) (cs : List ConstantDef) (nodes : List ℕ) (front : ℕ) (hollow : List Bool)
    (least : List (Option ℕ)) : Type 0 where
  pub hollow_size : length hollow ≡ length ts
  pub least_size : length least ≡ length ts
  pub hollow_is : (m i : ℕ) → m < front → slice_get nodes m ≡ Some i → slice_get hollow i ≡ Some (hollow_at ts cs i)
  pub least_is : (m i : ℕ) → m < front → slice_get nodes m ≡ Some i
      → held_count least i ≡ option_map capped (bytes_at ts cs i)
  pub right : (i n : ℕ) → held_count least i ≡ Some n → option_map capped (bytes_at ts cs i) ≡ Some n

-- of types that end, the table says which take no bytes, and how many the others take
pub record AreEncodings (ts : List Part) (cs : List ConstantDef) (hollow : List Bool) (least : List (Option ℕ))
    : Type 0 where
  pub hollow_size : length hollow ≡ length ts
  pub least_size : length least ≡ length ts
  pub hollow_is : (i : ℕ) → TypeEnds ts i → i < length ts → slice_get hollow i ≡ Some (hollow_at ts cs i)
  pub least_is : (i : ℕ) → TypeEnds ts i → i < length ts
      → slice_get least i ≡ Some (option_map capped (bytes_at ts cs i))
  pub right : (i n : ℕ) → held_count least i ≡ Some n → option_map capped (bytes_at ts cs i) ≡ Some n

-- the tag in a table
abbrev pub held_tag : List Tag → ℕ → Tag
held_tag tags i = unwrap_or (slice_get tags i) kinds.Other

-- the tags of the types that stand at the front of an order are found, and the others are none of a union
pub record AreTagged (ts : List Part) (nodes : List ℕ) (front : ℕ) (tags : List Tag) : Type 0 where
  pub size : length tags ≡ length ts
  pub done : (m i : ℕ) → m < front → slice_get nodes m ≡ Some i → slice_get tags i ≡ Some (tag_at ts i)
  pub others : (i : ℕ) (t : Tag) → slice_get tags i ≡ Some t → (t ≡ tag_at ts i) ⊎ (t ≡ kinds.Other)

-- two pairs are one
abbrev pub same_pair : ℕ × ℤ → ℕ × ℤ → Bool
same_pair a b = nat_eq a.0 b.0 && int_eq a.1 b.1

-- the table has the tags of the types, and the values of enums
pub record AreTags (ts : List Part) (cs : List ConstantDef) (tags : List Tag)
    (values : HashSet (ℕ × ℤ) (BuildHasherDefault FoldHasher)) : Type 0 where
  pub size : length tags ≡ length ts
  pub tags_are : (i : ℕ) → i < length ts → slice_get tags i ≡ Some (tag_at ts i)
  pub values_are : (i : ℕ) (z : ℤ) → contains same_pair values (i, z) ≡ enum_has cs (slice_get ts i) z
