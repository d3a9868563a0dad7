use Rattle.std.proofs.Common.{◌≡◌, drop}
use Rattle.std.specs.List.{list_any}
use Rattle.rx_script.specs.Drafts.{before_of}
use Rattle.rx_script.specs.ScriptRows.{is_wait}
use Rattle.rx_script.proofs.script_rows.has_wait.Given as goal

abbrev pub invariant-loop-line : goal.invariant-loop-line
invariant-loop-line l =
    list_any is_wait (before_of (drop l.line-index l.before)) ≡ list_any is_wait (before_of l.before)
