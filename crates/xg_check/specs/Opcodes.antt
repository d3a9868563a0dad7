-- The opcodes of procedures. Public clauses cite this module.
use Rattle.std.specs.Prelude.{ℕ, ℤ, Bool, true, false, List, [], ◌∷◌, Option, Some, None, ◌+ℤ◌}
use Rattle.std.specs.Option.{option_map}
use lib.IntN.{pos}
use Rattle.xg_parse.specs.declared.tree.ConstWord.{ConstWord}
use Rattle.xg_parse.specs.declared.tree.Part.{Part}
use Rattle.xg_parse.specs.declared.tree.Part.TheVariants as parts
use Rattle.xg_parse.specs.declared.tree.Item.{Item}
use Rattle.xg_check.specs.Constants.{ConstantDef, value_of}

-- Below, the parts that stand before a procedure come in the order from the nearest to the first.

-- what the last `startingopcode` gives, if there is one
abbrev pub last_start : List Part → Option ConstWord
last_start [] = None
last_start (parts.StartingOpcode word ∷ front) = Some word
last_start (_ ∷ front) = last_start front

-- no procedure without an opcode stands behind the last `startingopcode`
abbrev pub none_counted : List Part → Bool
none_counted [] = true
none_counted (parts.StartingOpcode word ∷ front) = true
none_counted (parts.Proc name args kind None ∷ front) = false
none_counted (_ ∷ front) = none_counted front

-- the value that counting begins with, or else the last opcode and one more
abbrev pub counted_from : List ConstantDef → Option ConstWord → Bool → Option ℤ → Option ℤ
counted_from cs None first last = None
counted_from cs (Some word) true last = value_of cs word
counted_from cs (Some word) false last = option_map (λ z. z +ℤ pos 1) last

-- the one that is given, or else the counted one
abbrev pub given_or_counted : List ConstantDef → Option ConstWord → Option ℤ → Option ℤ
given_or_counted cs (Some word) counted = value_of cs word
given_or_counted cs None counted = counted

-- the opcode of the last procedure
abbrev pub last_opcode : List ConstantDef → List Part → Option ℤ
last_opcode cs [] = None
last_opcode cs (parts.Proc name args kind opcode ∷ front) =
    given_or_counted cs opcode (counted_from cs (last_start front) (none_counted front) (last_opcode cs front))
last_opcode cs (_ ∷ front) = last_opcode cs front

-- The opcode of a procedure: the one that it gives; without one the value of the last `startingopcode` for the first
-- such procedure behind it, and then the last opcode, given or counted, and one more.
abbrev pub opcode_behind : List ConstantDef → List Part → Option ConstWord → Option ℤ
opcode_behind cs front given =
    given_or_counted cs given (counted_from cs (last_start front) (none_counted front) (last_opcode cs front))

-- a procedure with its opcode, before others
abbrev pub with_opcode : List ConstantDef → List Part → Part → List (List ℕ × Option ℤ) → List (List ℕ × Option ℤ)
with_opcode cs front (parts.Proc name args kind opcode) rest = (name, opcode_behind cs front opcode) ∷ rest
with_opcode cs front _ rest = rest

-- the name and the opcode of each procedure of the items behind the front, in order
abbrev pub opcodes_behind : List ConstantDef → List Part → List Item → List (List ℕ × Option ℤ)
opcodes_behind cs front [] = []
opcodes_behind cs front (i ∷ is) = with_opcode cs front i.part (opcodes_behind cs (i.part ∷ front) is)

-- the name and the opcode of each procedure of a text
abbrev pub opcodes_in : List ConstantDef → List Item → List (List ℕ × Option ℤ)
opcodes_in cs items = opcodes_behind cs [] items
