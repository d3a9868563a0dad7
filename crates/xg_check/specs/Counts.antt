-- What the next opcode is counted from. No public clause cites this module.
use Rattle.std.specs.Prelude.{ℕ, ℤ, ◌<ℤ◌, ◌+ℤ◌, pos, Bool, true, false, List, [], ◌∷◌, Option, Some, None, IfSome}
use Rattle.std.specs.Prelude.{option_map}
use Rattle.xg_parse.specs.declared.tree.ConstWord.{ConstWord}
use Rattle.xg_parse.specs.declared.tree.Part.{Part}
use Rattle.xg_parse.specs.declared.tree.Part.TheVariants as parts
use Rattle.xg_check.specs.declared.opcodes.Count.{Count}
use Rattle.xg_check.specs.declared.opcodes.Count.TheVariants as counts
use Rattle.xg_check.specs.Constants.{ConstantDef, value_of}
use Rattle.xg_check.specs.Opcodes.{last_start, none_counted, last_opcode}

-- the opcode of a procedure that gives none
abbrev pub counted_next : Count → Option ℤ
counted_next counts.Nothing = None
counted_next (counts.Start value) = value
counted_next (counts.Last value) = option_map (λ z. z +ℤ pos 1) value

-- behind a procedure that gives its opcode
abbrev pub count_given : Count → Option ℤ → Count
count_given counts.Nothing value = counts.Nothing
count_given (counts.Start start) value = counts.Start start
count_given (counts.Last last) value = counts.Last value

-- behind a procedure whose opcode was counted
abbrev pub count_counted : Count → Count
count_counted counts.Nothing = counts.Nothing
count_counted (counts.Start start) = counts.Last start
count_counted (counts.Last last) = counts.Last (option_map (λ z. z +ℤ pos 1) last)

-- its number is below that
abbrev pub IsCountBelow : ℕ → Count → Type 0
IsCountBelow n counts.Nothing = Unit {0}
IsCountBelow n (counts.Start value) = IfSome value (λ z. z <ℤ pos n)
IsCountBelow n (counts.Last value) = IfSome value (λ z. z <ℤ pos n)

-- what is counted from: nothing without a `startingopcode`, else its value, or the last opcode once one was counted
abbrev pub count_from : List ConstantDef → Option ConstWord → Bool → Option ℤ → Count
count_from cs None first last = counts.Nothing
count_from cs (Some word) true last = counts.Start (value_of cs word)
count_from cs (Some word) false last = counts.Last last

-- behind the parts that stand before, of which the nearest comes first
abbrev pub count_behind : List ConstantDef → List Part → Count
count_behind cs front = count_from cs (last_start front) (none_counted front) (last_opcode cs front)

-- the opcode of a part, if it is a procedure
abbrev pub part_opcode : List ConstantDef → Count → Part → List (Option ℤ)
part_opcode cs count (parts.Proc name args kind (Some word)) = value_of cs word ∷ []
part_opcode cs count (parts.Proc name args kind None) = counted_next count ∷ []
part_opcode cs count _ = []

-- the count behind a part
abbrev pub count_part : List ConstantDef → Count → Part → Count
count_part cs count (parts.StartingOpcode word) = counts.Start (value_of cs word)
count_part cs count (parts.Proc name args kind (Some word)) = count_given count (value_of cs word)
count_part cs count (parts.Proc name args kind None) = count_counted count
count_part cs count _ = count

-- the name of a procedure
abbrev pub part_proc_name : Part → Option (List ℕ)
part_proc_name (parts.Proc name args kind opcode) = Some name
part_proc_name _ = None

-- the package, or else the one before
abbrev pub package_or : Part → Option (List ℕ) → Option (List ℕ)
package_or (parts.Package name) before = Some name
package_or _ before = before

-- the prefix, or else the one before
abbrev pub prefix_or : Part → Option (List ℕ) → Option (List ℕ)
prefix_or (parts.Prefix name) before = Some name
prefix_or _ before = before
