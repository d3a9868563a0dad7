-- What a set of numbers of the code stands for. No public clause cites this module.
use Rattle.std.specs.Prelude.{map, [], true}
use Rattle.xdr_value.specs.View.{member_of, choice_of}
use Rattle.xdr_code.specs.NumberSets.{NumberSet, up_to, around, among, numbers, case_numbers}
use Rattle.xdr_code.specs.declared.items.NumberSet.{NumberSet as CodeSet}
use Rattle.xdr_code.specs.declared.items.NumberSet.TheVariants as code

-- the set
abbrev pub set_view : CodeSet → NumberSet
set_view (code.UpTo n) = up_to n
set_view (code.Around n) = around n
set_view (code.Members ms) = among true (numbers (map member_of ms.now.items))
set_view (code.Cases signed arms) = among signed (case_numbers (map choice_of arms.now.items))
set_view code.Nothing = among true []
