use Rattle.std.proofs.Common.{length}
use Rattle.xdr_value.specs.View.{types_of, procs_of}
use Rattle.rx_script.specs.Drafts.{draft_of}
use Rattle.rx_script.specs.Scripts.{no_lines, script_step}
use Rattle.rx_script.proofs.TextLemmas.{IsReadSoFar}
use Rattle.rx_script.proofs.script_reader.read_script.Given as goal

abbrev pub invariant-loop-line : goal.invariant-loop-line
invariant-loop-line l =
    IsReadSoFar (script_step (types_of l.iface.types.items) (procs_of l.iface.procs.items)) no_lines l.text
    (draft_of l.draft) l.number l.lines

abbrev pub decreases-loop-line : goal.decreases-loop-line
decreases-loop-line l = length l.lines
