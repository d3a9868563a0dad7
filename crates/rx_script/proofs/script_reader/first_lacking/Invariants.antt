use Rattle.std.proofs.Common.{◌≡◌, drop, map}
use Rattle.rx_script.specs.Drafts.{marked_of}
use Rattle.rx_script.specs.Scripts.{first_marked, lacks}
use Rattle.rx_script.proofs.script_reader.first_lacking.Given as goal

abbrev pub invariant-loop-marked : goal.invariant-loop-marked
invariant-loop-marked l =
    first_marked (lacks l.split l.up l.down) (map marked_of (drop l.marked-index l.lines))
    ≡ first_marked (lacks l.split l.up l.down) (map marked_of l.lines)
