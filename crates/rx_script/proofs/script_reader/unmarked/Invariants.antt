use Rattle.std.proofs.Common.{◌≡◌, map}
use Rattle.rx_script.specs.Drafts.{marked_of}
use Rattle.rx_script.specs.Saying.{saying_of}
use Rattle.rx_script.specs.Scripts.{sayings}
use Rattle.rx_script.proofs.script_reader.unmarked.Given as goal

abbrev pub invariant-loop-marked : goal.invariant-loop-marked
invariant-loop-marked l = map saying_of l.plain.items ≡ sayings (map marked_of l.yielded)
