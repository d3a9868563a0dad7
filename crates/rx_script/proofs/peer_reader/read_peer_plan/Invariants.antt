use Rattle.std.proofs.Common.{[], length}
use Rattle.xdr_value.specs.View.{types_of, procs_of}
use Rattle.rx_script.specs.Plans.{peer_step}
use Rattle.rx_script.specs.Saying.{peer_rows}
use Rattle.rx_script.proofs.TextLemmas.{IsReadSoFar}
use Rattle.rx_script.proofs.peer_reader.read_peer_plan.Given as goal

abbrev pub invariant-loop-line : goal.invariant-loop-line
invariant-loop-line l =
    IsReadSoFar (peer_step (types_of l.iface.types.items) (procs_of l.iface.procs.items)) [] l.text
    (peer_rows l.draft.lines.items) l.number l.lines

abbrev pub decreases-loop-line : goal.decreases-loop-line
decreases-loop-line l = length l.lines
