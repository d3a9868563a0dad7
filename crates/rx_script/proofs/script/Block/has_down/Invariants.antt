use Rattle.std.proofs.Common.{◌≡◌, drop, map}
use Rattle.std.specs.List.{list_any}
use Rattle.rx_script.specs.Saying.{saying_of}
use Rattle.rx_script.specs.ScriptRows.{is_down}
use Rattle.rx_script.proofs.script.Block.has_down.Given as goal

abbrev pub invariant-loop-line : goal.invariant-loop-line
invariant-loop-line l =
    list_any is_down (map saying_of (drop l.line-index l.line-items)) ≡
    list_any is_down (map saying_of l.self.lines.items)
