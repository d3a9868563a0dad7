use Rattle.std.proofs.Common.{◌≡◌, drop}
use Rattle.std.specs.List.{list_any}
use Rattle.rx_script.specs.Drafts.{before_of}
use Rattle.rx_script.specs.ScriptRows.{is_down}
use Rattle.rx_script.proofs.script_rows.has_down.Given as goal

abbrev pub invariant-loop-line : goal.invariant-loop-line
invariant-loop-line l =
    list_any is_down (before_of (drop l.line-index l.before)) ≡ list_any is_down (before_of l.before)
